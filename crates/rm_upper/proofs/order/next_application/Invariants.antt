use Rattle.std.proofs.Common.{ℕ, Option, Some}
use Rattle.std.specs.List.{count_by}
use Rattle.std.specs.Ordering.{nat_cmp, is_lt}
use Rattle.rm_rows.specs.Table.{keys_of}
use Rattle.rm_layers.specs.Marks.{IsLeast, StandsAt, IsAboveApplication, pair_cmp}
use Rattle.rm_upper.specs.Walk.{ShowsApplication}
use Rattle.rm_upper.proofs.order.next_application.Given as goal

-- the answer from here on is the answer
abbrev pub invariant-loop-found : goal.invariant-loop-found
invariant-loop-found g l =
    let shown = StandsAt (ShowsApplication g.O.Key.PartialEq.eq (g.O.RowOrder.seen l.order)) l.mark in
    (res : Option (g.row.O-Key.Denot × ℕ)) → IsLeast (pair_cmp g.O.Key.Ord.cmp nat_cmp) shown (IsAboveApplication g.O.Key.Ord.cmp (Some (l.key, l.protocol))) res
    → IsLeast (pair_cmp g.O.Key.Ord.cmp nat_cmp) shown (IsAboveApplication g.O.Key.Ord.cmp l.fn.from) res

abbrev pub decreases-loop-found : goal.decreases-loop-found
decreases-loop-found g l = count_by (λ k. is_lt (g.O.Key.Ord.cmp l.key k)) (keys_of (g.O.RowOrder.seen l.order).table.rows)
