use Rattle.std.proofs.Common.{sym, ap, ◌∙◌}
use Rattle.std.specs.Prelude.{is_some, not}
use Rattle.rm_columns.specs.SheetLaws.{none_missing, is_some_copied}
use Rattle.rm_columns.proofs.sheet.has_needed.Goals as goal

pub returns : goal.returns
returns g c =
    ap not (c.is_some.ensures ∙ (sym (is_some_copied c.missing.result) ∙ ap is_some c.missing.ensures)) ∙ none_missing (g.C.ControlRow.form.set_to c.args.row.now) c.args.columns.now
