use Rattle.std.proofs.Common.{◌∙◌, ap, arith, length, filter}
use Rattle.rm_model.specs.ControlRows.{is_valid}
use Rattle.rm_status.proofs.Valid.{valid-counted, filter-short}
use Rattle.rm_status.proofs.controls.Controls.count_valid.Goals as goal

pub returns-clause-value : goal.returns-clause-value
returns-clause-value g c =
    c.count_of_valid.ensures ∙ ap (λ rows. length (filter (λ r. is_valid r.state) rows)) c.as_slice.ensures.value
    ∙ valid-counted g.C.ControlRow.form.table g.C.ControlRow.form.set_to c.self.inside.rows.items c.args.self.now c.self.view_is c.self.invariant

pub returns-clause-few : goal.returns-clause-few
returns-clause-few g c =
    let short = filter-short (λ r. is_valid r.state) c.as_slice.result.now in
    let fits = c.as_slice.ensures.fits in
    omega (arith, c.count_of_valid.ensures, short, fits)
