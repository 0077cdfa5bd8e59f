use Rattle.std.specs.Ordering.{nat_cmp}
use Rattle.rm_evicting.proofs.Keys.{exact_key}
use Rattle.rm_layers.specs.Marks.{IsAboveName}
use Rattle.rm_order.proofs.ReversedLemmas.{alike_of}
use Rattle.rm_reversed.proofs.RowLemmas.{next_in-of}
use Rattle.rm_layer_tables.proofs.two_orders.TwoOrdersRowOrder.next_in.Goals as goal

pub returns-clause-least : goal.returns-clause-least
returns-clause-least g c =
    let exact = exact_key g.K.PartialEq.eq g.K.Ord.cmp g.met.K.Eq.laws g.met.K.Ord.matches_eq g.met.K.Key.exact in
    let alike = alike_of g.K.PartialEq.eq exact g.K.Reversible.reversing g.met.K.Reversible.twice in
    rw (← c.self.view_is)
    (next_in-of g.K.PartialEq.eq g.K.Reversible.reversing g.met.K.Reversible.twice alike c.self.inside.first.table.layered c.args.mark c.args.key.now (IsAboveName nat_cmp c.args.from) c.next_in.result
    (rw (c.rows.ensures, c.reversed.ensures) at c.next_in.ensures.least))
