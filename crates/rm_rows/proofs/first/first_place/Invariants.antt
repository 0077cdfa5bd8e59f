use Rattle.std.proofs.Common.{◌≡◌, ◌-◌, true}
use Rattle.rm_rows.specs.Index.{IsParted}
use Rattle.rm_rows.proofs.first.first_place.Given as goal

abbrev pub invariant-loop-low : goal.invariant-loop-low
invariant-loop-low g l = IsParted l.list l.index (λ k. ¬ (g.A.Above.is_above l.point k ≡ true)) (λ k. g.A.Above.is_above l.point k ≡ true) l.low l.high

abbrev pub decreases-loop-low : goal.decreases-loop-low
decreases-loop-low g l = l.high - l.low
