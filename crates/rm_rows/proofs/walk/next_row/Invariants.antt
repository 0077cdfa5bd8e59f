use Rattle.std.proofs.Common.{◌≡◌, ◌<◌, ◌≤◌, ℕ, Some, slice_get}
use denote.RawPtr.{Ptr}
use Rattle.rm_evicting.specs.declared.Row.{Row}
use Rattle.rm_recency.specs.Threads.{row_at}
use Rattle.rm_rows.proofs.walk.next_row.Given as goal

abbrev pub invariant-loop-place : goal.invariant-loop-place
invariant-loop-place g l = (j : ℕ) (q : Ptr) (r : Row g.row.K.Denot g.row.V.Denot) → l.first ≤ j → j < l.place → slice_get l.index.items j ≡ Some q → row_at l.list q ≡ Some r → ¬ (l.mark ≤ r.tick)
