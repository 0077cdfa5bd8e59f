use Rattle.std.proofs.Common.{◌≡◌, ◌++◌, drop, replicate, None}
use Rattle.rm_upper.proofs.applications.empty_before.Given as goal

abbrev pub invariant-loop-place : goal.invariant-loop-place
invariant-loop-place g l = l.slots ≡ replicate l.place None ++ drop l.place l.fn.slots
