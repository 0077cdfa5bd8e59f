use Rattle.std.proofs.Common.{ℕ, Option, ap, ◌∙◌, ◌∷◌, []}
use Rattle.std.specs.Option.{option_or}
use Rattle.rm_val.specs.Val.{Val}
use Rattle.rm_model.specs.Journal.{value_given}
use Rattle.rm_model.specs.ControlTable.{row_index, is_ready}
use Rattle.rm_model.specs.ControlRows.{cell_name}
use Rattle.rm_model.specs.Judgement.{of_columns, set_before}
use Rattle.rm_model.proofs.Alike.{ready_alike}
use Rattle.rm_status.specs.Rows.{rows_before}
use Rattle.rm_status.proofs.Puts.{same_ready, set_held, set_not_held}
use Rattle.rm_status.proofs.controls.Controls.is_ready_with.Goals as goal

pub returns-in-None : goal.returns-in-None
returns-in-None g c =
    let C = g.C.ControlRow.form in
    let given : ℕ → Option Val = λ column. value_given (g.A.Assigns.bindings c.args.set.now) (cell_name C.table.entry column (row_index C.table c.args.row)) in
    let rows = c.args.self.now in
    c.is_ready_after.ensures ∙ ap (λ x. is_ready C.table (of_columns C.table (λ column. option_or (given column) (C.set_to x column)))) c.blank.ensures
    ∙ ready_alike C.table (C.set_to (C.blank c.args.row)) (C.table.rules.first (row_index C.table c.args.row)) given (g.C.ControlRow.form.blank_alike c.args.row)
    ∙ same_ready C.table given (C.table.rules.first (row_index C.table c.args.row)) (set_before C.table (rows_before C.table C.set_to rows) (row_index C.table c.args.row)) (set_not_held C.table C.set_to rows c.args.row c.in-None.ensures.value)

pub returns-in-Some : goal.returns-in-Some
returns-in-Some g c =
    let C = g.C.ControlRow.form in
    let given : ℕ → Option Val = λ column. value_given (g.A.Assigns.bindings c.args.set.now) (cell_name C.table.entry column (row_index C.table c.args.row)) in
    let rows = c.args.self.now in
    c.is_ready_after-in-Some.ensures ∙ same_ready C.table given (C.set_to c.bare.result) (C.set_to c.in-Some.found.now.columns) c.bare.ensures
    ∙ same_ready C.table given (C.set_to c.in-Some.found.now.columns) (set_before C.table (rows_before C.table C.set_to rows) (row_index C.table c.args.row)) (set_held C.table C.set_to rows c.args.row c.len.ensures.rows c.in-Some.found.now c.in-Some.ensures.value)
