use Rattle.rm_status.proofs.RowFacts.{row_fits}
use Rattle.rm_dir.specs.ProtocolDir.{protocol_dir}
use Rattle.rm_dir.proofs.InSlots.{one_put_in}
use Rattle.rm_dir.proofs.slots.put_in_all.Goals as goal

pub loop-number-preserved : goal.loop-number-preserved
loop-number-preserved c =
    let least = c.in-Some.ensures.least in
    let low = row_fits protocol_dir c.args.rows.now c.in-Some.number least.1.0 c.in-Some.ensures.rows.1 least.1.1 in
    one_put_in c.args.rows.now c.args.protocols.now c.loop-number.protocols c.loop-number.at c.loop-number.invariant c.put_in.new.protocols c.in-Some.number least low.1 c.put_in.ensures.known c.put_in.ensures.stay c.put_in.ensures.active
