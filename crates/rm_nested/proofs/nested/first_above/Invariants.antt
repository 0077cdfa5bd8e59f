use Rattle.std.proofs.Common.{◌≡◌, ℕ, ◌-◌, ◌<◌, ◌≤◌, List, false}
use Rattle.rm_nested.proofs.nested.first_above.Given as goal

abbrev pub invariant-loop-next : goal.invariant-loop-next
invariant-loop-next g l = record {
  from : l.row ≤ l.last;
  none : (other : ℕ) (index : List ℕ) → l.row < other → other ≤ l.last → g.R.InnerRows.is_inner l.rows l.now other index ≡ false;
}

abbrev pub decreases-loop-next : goal.decreases-loop-next
decreases-loop-next g l = 4294967296 - l.last
