use Rattle.std.proofs.Common.{◌≡◌, [], ◌∷◌, None, Some, ◌∙◌, ap, sym}
use Rattle.rm_model.specs.Cells.{instance_of, cell_at}
use Rattle.rm_dir.specs.ProtocolDir.{change_entry}
use Rattle.rm_dir.specs.Shown.{kept_change}
use Rattle.rm_dir.proofs.directory.last_change_at.Goals as goal

pub returns-in-None-clause-value : goal.returns-in-None-clause-value
returns-in-None-clause-value c =
    let is : instance_of change_entry (1 ∷ []) c.args.name.now ≡ None = ap (λ entry. instance_of entry (1 ∷ []) c.args.name.now) (sym c.change_entry.ensures) ∙ sym c.instance_of.ensures ∙ c.in-None.is in
    ap (cell_at (kept_change c.args.changed)) (sym is)

pub returns-in-Some-clause-value : goal.returns-in-Some-clause-value
returns-in-Some-clause-value c =
    let is : instance_of change_entry (1 ∷ []) c.args.name.now ≡ Some c.in-Some.at = ap (λ entry. instance_of entry (1 ∷ []) c.args.name.now) (sym c.change_entry.ensures) ∙ sym c.instance_of.ensures ∙ c.in-Some.is in
    c.scalar_at.ensures.value ∙ ap (cell_at (kept_change c.args.changed)) (sym is)
