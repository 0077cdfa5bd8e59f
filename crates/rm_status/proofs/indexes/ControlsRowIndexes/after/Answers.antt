use Rattle.std.proofs.Common.{◌≡◌, ap, sym, ◌∙◌, subst, List, ℕ, Option, Some, None, length, ◌≤◌}
use Rattle.std.specs.Option.{option_copied, option_map}
use Rattle.rm_model.specs.ControlTable.{row_index}
use Rattle.rm_model.specs.Names.{IsLeastAbove}
use Rattle.rm_status.specs.Indexes.{is_index_in}
use Rattle.rm_status.proofs.IndexLemmas.{least_behind, first_fits}
use Rattle.rm_status.proofs.indexes.ControlsRowIndexes.after.Goals as goal

pub returns-in_err-row-clause-least : goal.returns-in_err-row-clause-least
returns-in_err-row-clause-least g c =
    let t = g.C.ControlRow.form.table in
    let rows = c.args.self.now in
    subst (λ (o : Option (List ℕ)). IsLeastAbove (is_index_in t rows) c.args.index.now o)
    (ap (option_map (λ r. row_index t r.index)) (sym c.first_behind.ensures.value ∙ ap option_copied c.in_err-row.was) ∙ sym c.from_residual.ensures)
    (least_behind t c.args.index.now rows c.first_behind.ensures.rows)

pub returns-clause-least : goal.returns-clause-least
returns-clause-least g c =
    let t = g.C.ControlRow.form.table in
    let rows = c.args.self.now in
    subst (λ (o : Option (List ℕ)). IsLeastAbove (is_index_in t rows) c.args.index.now o)
    (ap (option_map (λ r. row_index t r.index)) (sym c.first_behind.ensures.value ∙ ap option_copied c.in_ok-row.was) ∙ ap Some (sym c.index.ensures))
    (least_behind t c.args.index.now rows c.first_behind.ensures.rows)

pub returns-clause-fits : goal.returns-clause-fits
returns-clause-fits g c =
    let t = g.C.ControlRow.form.table in
    subst (λ (l : List ℕ). length l ≤ t.indexing.longest) (sym c.index.ensures)
    (first_fits t c.args.index.now c.args.self.now c.first_behind.ensures.rows c.in_ok-row.row.now (sym c.first_behind.ensures.value ∙ ap option_copied c.in_ok-row.was))
