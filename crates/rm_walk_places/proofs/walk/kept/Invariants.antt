use Rattle.std.proofs.Common.{◌≡◌, drop}
use Rattle.rm_walk_places.specs.Lowered.{kept}
use Rattle.rm_walk_places.proofs.walk.kept.Given as goal

abbrev pub invariant-loop-place : goal.invariant-loop-place
invariant-loop-place l = l.kept ≡ kept (drop l.place l.bounds) (drop l.place (drop 1 l.numbers))
