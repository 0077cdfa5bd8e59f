use Rattle.rm_dir.proofs.InSlots.{known_renewed, do_stay}
use Rattle.rm_dir.proofs.slots.follow.Goals as goal

pub put_in_all-requires : goal.put_in_all-requires
put_in_all-requires c = known_renewed c.args.rows.now c.args.protocols.now c.renew_all.new.protocols c.renew_all.ensures

pub returns-clause-stay : goal.returns-clause-stay
returns-clause-stay c = do_stay c.args.rows.now c.args.protocols.now c.renew_all.new.protocols c.renew_all.ensures c.put_in_all.new.protocols c.put_in_all.ensures.stay
