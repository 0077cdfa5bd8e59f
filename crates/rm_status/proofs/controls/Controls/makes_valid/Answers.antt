use Rattle.std.proofs.Common.{◌≡◌, true, sym, ap, ◌∙◌, ◌&&◌, not}
use Rattle.rm_model.specs.ControlTable.{row_index}
use Rattle.rm_model.specs.ControlRows.{set_ask, next_state, is_valid}
use Rattle.rm_status.specs.Rows.{state_in}
use Rattle.rm_status.proofs.RowsBefore.{made_valid}
use Rattle.rm_status.proofs.controls.Controls.makes_valid.Goals as goal

pub returns-then-is_valid : goal.returns-then-is_valid
returns-then-is_valid g c =
    let C = g.C.ControlRow.form in
    let bs = g.A.Assigns.bindings c.args.set.now in
    let s = c.state-state.result in
    let yes_valid : is_valid (next_state c.set_ask-asked.result s) ≡ true = ap is_valid (sym c.next_state.ensures) ∙ sym c.is_valid.ensures ∙ c.if-is_valid.true in
    sym (
    made_valid C.table C.set_to c.args.self.now c.args.row bs
    ∙ ap (λ a. is_valid (next_state a (state_in c.args.self.now c.args.row)) && not (is_valid (state_in c.args.self.now c.args.row))) (sym c.set_ask-asked.ensures)
    ∙ ap (λ x. is_valid (next_state c.set_ask-asked.result x) && not (is_valid x)) (sym c.state-state.ensures)
    ∙ ap (λ b. b && not (is_valid s)) yes_valid
    ∙ ap not (sym c.is_valid-then-is_valid.ensures)
    )

pub returns-else-is_valid : goal.returns-else-is_valid
returns-else-is_valid g c =
    let C = g.C.ControlRow.form in
    let bs = g.A.Assigns.bindings c.args.set.now in
    let s = c.state-state.result in
    let valid : is_valid (next_state c.set_ask-asked.result s) ≡ c.is_valid.result = ap is_valid (sym c.next_state.ensures) ∙ sym c.is_valid.ensures in
    sym (
    made_valid C.table C.set_to c.args.self.now c.args.row bs
    ∙ ap (λ a. is_valid (next_state a (state_in c.args.self.now c.args.row)) && not (is_valid (state_in c.args.self.now c.args.row))) (sym c.set_ask-asked.ensures)
    ∙ ap (λ x. is_valid (next_state c.set_ask-asked.result x) && not (is_valid x)) (sym c.state-state.ensures)
    ∙ ap (λ b. b && not (is_valid s)) (valid ∙ c.if-is_valid.false)
    ∙ sym c.if-is_valid.false
    )
