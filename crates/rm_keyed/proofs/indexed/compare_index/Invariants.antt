use Rattle.std.proofs.Common.{◌≡◌, ◌≤◌, drop}
use Rattle.std.specs.Ordering.{nat_cmp}
use Rattle.std.specs.Cmp.Lexicographic.{slice_cmp}
use Rattle.rm_keyed.proofs.indexed.compare_index.Given as goal

abbrev pub invariant-loop-place : goal.invariant-loop-place
invariant-loop-place g l = (l.place ≤ l.more) × (slice_cmp nat_cmp (g.K.Indexed.index l.key) (drop l.from l.numbers) ≡ slice_cmp nat_cmp (drop l.place (g.K.Indexed.index l.key)) (drop l.place (drop l.from l.numbers)))
