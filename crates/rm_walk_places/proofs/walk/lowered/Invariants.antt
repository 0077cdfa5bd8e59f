use Rattle.std.proofs.Common.{◌≡◌, take, drop}
use Rattle.rm_walk_places.specs.Lowered.{lowered}
use Rattle.rm_walk_places.proofs.walk.lowered.Given as goal

abbrev pub invariant-loop-place : goal.invariant-loop-place
invariant-loop-place l = l.lowered ≡ take l.place-counter (lowered l.count l.bounds (drop 1 l.numbers))
