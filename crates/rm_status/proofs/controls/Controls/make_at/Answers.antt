use Rattle.std.specs.Prelude.{is_some}
use Rattle.std.proofs.Common.{◌≡◌, true, false, option_map, Option, Some, None, [], ◌∷◌, ap, ◌∙◌, sym, refl, rules}
use Rattle.rm_model.specs.ControlTable.{row_index}
use Rattle.rm_model.specs.declared.place.Place.TheVariants.{Cell}
use Rattle.rm_model.specs.declared.row.State.TheVariants.{Absent}
use Rattle.rm_model.specs.ControlRows.{set_ask, next_state, is_absent}
use Rattle.rm_model.specs.Judgement.{place_of, name_at, is_made}
use Rattle.rm_status.specs.Rows.{row_in}
use Rattle.rm_status.specs.Commit.{is_cell}
use Rattle.rm_status.proofs.RowEdits.{eq_itself}
use Rattle.rm_status.proofs.Commits.{made_there}
use Rattle.rm_status.proofs.Crowds.{row_number_at}
use Rattle.rm_status.proofs.controls.Controls.make_at.Goals as goal

no_row : {A B : Type 0} (f : A → B) (o : Option A) → false ≡ is_some o → option_map f o ≡ None
no_row f None h = refl
no_row f (Some x) h = cc

pub insert-requires : goal.insert-requires
insert-requires g c =
    let t = g.C.ControlRow.form.table in
    let bs = g.A.Assigns.bindings c.args.set.now in
    let k = c.args.place in
    let row = c.in-Cell.row in
    let at : place_of t (name_at bs k) ≡ Cell c.in-Cell.column row = rw (← c.requires.entry, ← c.name-name.ensures.value) (sym c.in-Cell.ensures) in
    let made : is_made Absent (set_ask t bs (row_index g.C.ControlRow.form.table row)) ≡ true = rw (← c.set_ask-asked.ensures) (sym c.if-is_made.ensures) in
    let there : is_absent c.next_state.result ≡ false = ap is_absent (c.next_state.ensures ∙ ap (λ x. next_state x Absent) c.set_ask-asked.ensures) ∙ made_there (set_ask t bs (row_index g.C.ControlRow.form.table row)) made in
    let gone : row_in c.args.self.now row ≡ None = sym c.find.ensures ∙ no_row (λ x. x.now) c.find.result (sym c.if-is_none.ensures) in
    let column : c.in-Cell.column ≡ t.status = c.if-column-status.true ∙ c.status.ensures in
    let here : is_cell t.status row (place_of t (name_at bs k)) ≡ true = ap (is_cell t.status row) at ∙ rw (column, eq_itself row, eq_itself t.status) refl in
    (search rules, (row_number_at t bs k c.in-Cell.column row at c.requires.fine, (there, (gone, c.requires.room row here made gone))))
