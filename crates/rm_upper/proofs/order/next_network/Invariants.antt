use Rattle.std.proofs.Common.{Option}
use Rattle.rm_rows.specs.Table.{keys_of}
use Rattle.rm_layers.specs.Marks.{IsLeast, StandsAt, IsAboveName}
use Rattle.rm_upper.specs.Walk.{ShowsNetwork}
use Rattle.rm_upper.proofs.RowWalk.{left_above}
use Rattle.rm_upper.proofs.order.next_network.Given as goal

-- the answer from here on is the answer
abbrev pub invariant-loop-key : goal.invariant-loop-key
invariant-loop-key g l =
    let shown = StandsAt (ShowsNetwork g.O.Key.PartialEq.eq (g.O.RowOrder.seen l.order)) l.mark in
    (res : Option g.row.O-Key.Denot) → IsLeast g.O.Key.Ord.cmp shown (IsAboveName g.O.Key.Ord.cmp l.above) res → IsLeast g.O.Key.Ord.cmp shown (IsAboveName g.O.Key.Ord.cmp l.fn.from) res

abbrev pub decreases-loop-key : goal.decreases-loop-key
decreases-loop-key g l = left_above g.O.Key.Ord.cmp l.above (keys_of (g.O.RowOrder.seen l.order).table.rows)
