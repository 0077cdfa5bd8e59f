use Rattle.std.proofs.Common.{◌-◌}
use Rattle.rm_rows.specs.Index.{IsSearched}
use Rattle.rm_rows.proofs.index.find.Given as goal

abbrev pub invariant-loop-low : goal.invariant-loop-low
invariant-loop-low g l = IsSearched g.K.Ord.cmp l.list l.index l.key l.low l.high

abbrev pub decreases-loop-low : goal.decreases-loop-low
decreases-loop-low g l = l.high - l.low
