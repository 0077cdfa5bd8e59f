use Rattle.std.proofs.Common.{ap, ◌∙◌, ◌^◌, is_some}
use Rattle.rm_model.specs.Judgement.{count_below}
use Rattle.rm_status.specs.Rows.{row_in}
use Rattle.rm_status.proofs.Held.{length-counted}
use Rattle.rm_status.proofs.controls.Controls.len.Goals as goal

pub returns-clause-counted : goal.returns-clause-counted
returns-clause-counted g c =
    c.len.ensures.value ∙ length-counted g.C.ControlRow.form.table c.self.inside.rows.items c.self.invariant
    ∙ ap (λ rows. count_below (λ row. is_some (row_in rows row)) (2 ^ 32)) c.self.view_is
