use Rattle.std.proofs.Common.{ap, ◌∙◌}
use Rattle.rm_model.specs.ControlTable.{is_ready}
use Rattle.rm_model.specs.Judgement.{of_columns}
use Rattle.rm_status.proofs.Puts.{all_fine, ready_is}
use Rattle.rm_status.proofs.controls.judge.is_ready_after.Goals as goal

pub returns : goal.returns
returns g c =
    let C = g.C.ControlRow.form in
    let bs = g.A.Assigns.bindings c.args.set.now in
    c.is_ready.ensures ∙ ap (λ x. is_ready C.table (of_columns C.table (C.set_to x))) c.put_all.ensures
    ∙ ready_is C.table C.with_column C.blank C.set_to g.C.ControlRow.form.set_with g.C.ControlRow.form.sound bs c.args.row c.args.columns (all_fine C.table bs c.requires.fine)
