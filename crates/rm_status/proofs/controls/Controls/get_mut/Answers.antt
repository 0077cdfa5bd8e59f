use Rattle.rm_status.proofs.RowLemmas.{rows-with, with_columns-place, found}
use Rattle.rm_status.proofs.controls.Controls.get_mut.Goals as goal

pub invariant_of-self-lent : goal.invariant_of-self-lent
invariant_of-self-lent g c = λ r. ((λ w. rows-with g.C.ControlRow.form.table c.self.inside.rows.items c.place-place.result w c.self.invariant), c.self.invariant)

pub returns : goal.returns
returns g c =
    let here = c.place-place.ensures in
    let seen = c.self.view_is in
    let f = found c.self.inside.rows.items c.args.index c.place-place.result c.columns_at.result here c.columns_at.ensures.value c.columns_at.ensures.none in
    (simp (here, seen, with_columns-place), record { writes_back = tt; value = rw (← seen) f.0; none = rw (← seen) f.1 })
