use Rattle.std.proofs.Common.{arith}
use Rattle.rm_status.proofs.Loops.{one_more}
use Rattle.rm_pool.specs.Pools.{valid_in}
use Rattle.rm_pool.specs.Slots.{released}
use Rattle.rm_pool.proofs.follow.release_in.Goals as goal

pub loop-slot-preserved : goal.loop-slot-preserved
loop-slot-preserved g c =
    one_more (released (valid_in c.args.rows.now)) c.args.slots.now c.loop-slot.slots c.loop-slot.slot-index c.slot-item.result c.release_one.new.slot c.loop-slot.invariant (omega arith) c.release_one.ensures
