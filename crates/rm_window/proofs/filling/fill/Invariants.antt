use Rattle.std.proofs.Common.{◌-◌, length}
use Rattle.rm_window.proofs.FillingLemmas.{SoFar}
use Rattle.rm_window.proofs.filling.fill.Given as goal

abbrev pub invariant-loop-filled : goal.invariant-loop-filled
invariant-loop-filled g l = SoFar g.S.Shelf.held g.S.Shelf.faults l.initial.shelf l.shelf l.name l.into l.at l.filled

abbrev pub decreases-loop-filled : goal.decreases-loop-filled
decreases-loop-filled g l = length l.into - l.filled
