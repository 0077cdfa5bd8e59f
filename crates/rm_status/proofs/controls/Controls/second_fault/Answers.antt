use Rattle.std.proofs.Common.{◌≡◌, ◌∙◌, refl, sym}
use Rattle.rm_model.specs.declared.place.Place.TheVariants.{Cell}
use Rattle.rm_model.specs.Judgement.{place_of, name_at}
use Rattle.rm_status.proofs.RowsBefore.{state_before}
use Rattle.rm_status.proofs.Seconds.{second_is}
use Rattle.rm_status.specs.Rows.{rows_before}
use Rattle.rm_status.proofs.controls.Controls.second_fault.Goals as goal

pub returns-in-Cell : goal.returns-in-Cell
returns-in-Cell g c =
    let C = g.C.ControlRow.form in
    let bs = g.A.Assigns.bindings c.args.set.now in
    let at : Cell c.in-Cell.column c.in-Cell.row ≡ place_of C.table (name_at bs c.args.place) = rw (← c.requires.entry, ← c.name-name.ensures.value) c.in-Cell.ensures in
    c.row_fault.ensures
    ∙ second_is C.table (rows_before C.table C.set_to c.args.self.now) bs c.args.place c.in-Cell.column c.in-Cell.row (Cell c.in-Cell.column c.in-Cell.row) at refl
    _ _ _ _ _ (c.state-state.ensures ∙ sym (state_before C.table C.set_to c.args.self.now c.in-Cell.row)) c.set_ask-asked.ensures c.is_ready_for-ready.ensures c.requires.crowded c.is_again-again.ensures
