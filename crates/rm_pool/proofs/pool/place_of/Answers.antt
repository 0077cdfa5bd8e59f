use Rattle.rm_status.proofs.Places.{place_of_none}
use Rattle.rm_pool.specs.Slots.{is_of}
use Rattle.rm_pool.proofs.pool.place_of.Goals as goal

pub returns-in-None : goal.returns-in-None
returns-in-None g c = place_of_none (is_of c.args.row) c.args.slots.now c.in-None.ensures
