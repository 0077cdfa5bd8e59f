use Rattle.std.proofs.Common.{sym, ◌∙◌}
use Rattle.rm_evicting.proofs.Keys.{exact_key}
use Rattle.rm_order.proofs.ReversedLemmas.{alike_of}
use Rattle.rm_reversed.proofs.RowLemmas.{application_in_row-of}
use Rattle.rm_layer_tables.proofs.reversed_rows.TwoOrdersLayerRows.application.Goals as goal

pub returns : goal.returns
returns g c =
    let exact = exact_key g.K.PartialEq.eq g.K.Ord.cmp g.met.K.Eq.laws g.met.K.Ord.matches_eq g.met.K.Key.exact in
    let alike = alike_of g.K.PartialEq.eq exact g.K.Reversible.reversing g.met.K.Reversible.twice in
    (rw (c.rows.ensures, c.first.ensures, c.reversed.ensures) at c.application.ensures.kept)
    ∙ sym (application_in_row-of g.K.PartialEq.eq g.K.Reversible.reversing g.met.K.Reversible.twice alike c.args.self.now.layered c.args.protocol c.args.key.now)
