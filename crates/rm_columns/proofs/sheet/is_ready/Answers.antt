use Rattle.std.proofs.Common.{sym, ap, ◌∙◌, ◌&&◌, ◌||◌}
use Rattle.std.specs.Prelude.{not, is_some}
use Rattle.std.specs.List.{list_all}
use Rattle.rm_columns.specs.Field.{shown_with}
use Rattle.rm_columns.specs.SheetLaws.{needed_among}
use Rattle.rm_columns.proofs.sheet.is_ready.Goals as goal

pub returns-then-has_needed : goal.returns-then-has_needed
returns-then-has_needed g c =
    let table = g.C.ControlRow.form.table in
    let set = g.C.ControlRow.form.set_to c.args.row.now in
    c.agree.ensures ∙ ap (λ b. b && table.go_together (shown_with table set))
    (sym (sym (needed_among table set g.C.ControlRow.form.apart)
    ∙ (sym (ap (λ columns. list_all (λ x. not x.needed || is_some (set x.number)) columns) c.sheet.ensures)
    ∙ (sym c.has_needed.ensures ∙ c.if-has_needed.true))))

pub returns-else-has_needed : goal.returns-else-has_needed
returns-else-has_needed g c =
    let table = g.C.ControlRow.form.table in
    let set = g.C.ControlRow.form.set_to c.args.row.now in
    c.if-has_needed.false ∙ ap (λ b. b && table.go_together (shown_with table set))
    (sym (sym (needed_among table set g.C.ControlRow.form.apart)
    ∙ (sym (ap (λ columns. list_all (λ x. not x.needed || is_some (set x.number)) columns) c.sheet.ensures)
    ∙ (sym c.has_needed.ensures ∙ c.if-has_needed.false))))
