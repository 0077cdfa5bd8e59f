use Rattle.std.proofs.Common.{◌-◌}
use Rattle.rm_order.specs.Order.{IsParted}
use Rattle.rm_order.proofs.search.first_place.Given as goal

abbrev pub invariant-loop-low : goal.invariant-loop-low
invariant-loop-low g l = IsParted (g.A.Above.is_above l.point) l.keys l.low l.high

abbrev pub decreases-loop-low : goal.decreases-loop-low
decreases-loop-low g l = l.high - l.low
