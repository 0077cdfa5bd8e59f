use Rattle.rm_evicting.proofs.Keys.{exact_key}
use Rattle.rm_order.proofs.ReversedLemmas.{alike_of}
use Rattle.rm_reversed.proofs.RowLemmas.{stands_at-of}
use Rattle.rm_layer_tables.proofs.two_orders.TwoOrdersRowOrder.stands_at.Goals as goal

pub returns-clause-stands : goal.returns-clause-stands
returns-clause-stands g c =
    let exact = exact_key g.K.PartialEq.eq g.K.Ord.cmp g.met.K.Eq.laws g.met.K.Ord.matches_eq g.met.K.Key.exact in
    let alike = alike_of g.K.PartialEq.eq exact g.K.Reversible.reversing g.met.K.Reversible.twice in
    let here = stands_at-of g.K.PartialEq.eq g.K.Reversible.reversing g.met.K.Reversible.twice alike c.self.inside.first.table.layered c.args.mark c.args.key.now in
    let found = rw (c.rows.ensures, c.reversed.ensures) at c.stands_at.ensures.stands in
    rw (← c.self.view_is) (λ is. here.1 (found.0 is), λ at_mark. found.1 (here.0 at_mark))
