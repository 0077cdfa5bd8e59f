use Rattle.rm_dist.proofs.SlotLocals.{IsSoFar}
use Rattle.rm_dist.proofs.locals.locals_on_path.Given as goal

abbrev pub invariant-loop-slot : goal.invariant-loop-slot
invariant-loop-slot l = IsSoFar l.protocols l.slot-items l.slot-index l.locals.items
