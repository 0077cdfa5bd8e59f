use Rattle.std.proofs.Common.{◌≡◌, ap, sym, ◌∙◌, Some}
use Rattle.std.specs.Option.{option_copied}
use Rattle.rm_model.specs.ControlCells.{control_value}
use Rattle.rm_status.specs.Rows.{row_in}
use Rattle.rm_columns.specs.Field.{shows}
use Rattle.rm_status.specs.RowsShown.{with_index}
use Rattle.rm_status.proofs.KeptCellsLaws.{kept_at}
use Rattle.rm_status.proofs.controls.Controls.cell_at.Goals as goal

pub returns-clause-value : goal.returns-clause-value
returns-clause-value g c =
    let form = g.R.ControlRow.form in
    let rows = c.args.self.now in
    let row = c.in_ok-row.row.now in
    let named : form.table.indexing.number_of c.args.at.now.index ≡ Some c.in_ok-number.number = sym c.number.ensures ∙ c.in_ok-number.was in
    let here : row_in rows c.in_ok-number.number ≡ Some row = sym c.row.ensures.value ∙ ap option_copied c.in_ok-row.was in
    ap Some (c.cell.ensures.value ∙ ap (λ v. control_value form.table row.state (shows form.table form.set_to row.columns) v c.args.at.now.column) c.other_at-other.ensures.value)
    ∙ sym (kept_at form.table form.set_to rows c.args.at.now.index c.in_ok-number.number row named here (with_index (g.O.OtherColumns.others c.args.others.now rows) c.args.at.now.column c.args.at.now.index) c.args.at.now.column)
