use Rattle.std.proofs.Common.{◌-◌}
use Rattle.rm_rows.specs.Index.{IsEntryBetween}
use Rattle.rm_rows.proofs.ranks.find_entry.Given as goal

abbrev pub invariant-loop-low : goal.invariant-loop-low
invariant-loop-low g l = IsEntryBetween l.list l.entered.items l.entry l.low l.high

abbrev pub decreases-loop-low : goal.decreases-loop-low
decreases-loop-low g l = l.high - l.low
