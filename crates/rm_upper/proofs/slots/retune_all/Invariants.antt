use Rattle.std.proofs.Common.{◌≡◌, ◌++◌, take, drop}
use Rattle.rm_upper.specs.Standing.{slots_after}
use Rattle.rm_upper.proofs.slots.retune_all.Given as goal

abbrev pub invariant-loop-place : goal.invariant-loop-place
invariant-loop-place l = l.slots ≡ slots_after l.stamp (take l.place l.fn.slots) (take l.place l.protocols) ++ drop l.place l.fn.slots
