use Rattle.rm_pool.specs.Each.{SlotBecomes}
use Rattle.rm_pool.proofs.Each.{FirstBecome}
use Rattle.rm_pool.proofs.change.change_in.Given as goal

abbrev pub invariant-loop-slot : goal.invariant-loop-slot
invariant-loop-slot g l = FirstBecome (SlotBecomes (g.V.Change.makes l.how)) l.slot-index l.initial.slots l.slots
