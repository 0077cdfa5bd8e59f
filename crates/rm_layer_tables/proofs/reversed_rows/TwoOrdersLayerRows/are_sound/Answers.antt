use Rattle.rm_evicting.proofs.Keys.{exact_key}
use Rattle.rm_order.proofs.ReversedLemmas.{alike_of}
use Rattle.rm_layer_tables.proofs.SoundLemmas.{sound-of}
use Rattle.rm_layer_tables.proofs.reversed_rows.TwoOrdersLayerRows.are_sound.Goals as goal

pub returns-clause-rows : goal.returns-clause-rows
returns-clause-rows g c =
    let exact = exact_key g.K.PartialEq.eq g.K.Ord.cmp g.met.K.Eq.laws g.met.K.Ord.matches_eq g.met.K.Key.exact in
    let alike = alike_of g.K.PartialEq.eq exact g.K.Reversible.reversing g.met.K.Reversible.twice in
    sound-of g.K.PartialEq.eq g.K.Reversible.reversing g.met.K.Reversible.twice alike c.args.self.now.layered.table.rows (rw (c.rows.ensures, c.first.ensures) at c.are_sound.ensures)
