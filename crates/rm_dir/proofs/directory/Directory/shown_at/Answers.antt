use Rattle.std.proofs.Common.{◌∙◌, ap}
use Rattle.std.specs.Option.{option_or}
use Rattle.rm_model.specs.Cells.{cells_of}
use Rattle.rm_dir.specs.Shown.{kept_change}
use Rattle.rm_dir.specs.Tables.{change_table}
use Rattle.rm_dir.proofs.Cells.{same_cells}
use Rattle.rm_dir.proofs.directory.Directory.shown_at.Goals as goal

-- the row has the cell
pub returns-in-Some-clause-value : goal.returns-in-Some-clause-value
returns-in-Some-clause-value c journal stands =
    let same = same_cells c.args.self.now.rows c.in-Some.ensures.rows c.args.self.now.numbered journal stands.rows stands.locals c.args.name.now in
    ap (λ o. option_or o (cells_of (change_table journal) c.args.name.now)) (c.in-Some.ensures.value ∙ same)

-- it is that of the scalar, if it is a cell
pub returns-in-None-clause-value : goal.returns-in-None-clause-value
returns-in-None-clause-value c journal stands =
    let same = same_cells c.args.self.now.rows c.in-None.ensures.rows c.args.self.now.numbered journal stands.rows stands.locals c.args.name.now in
    c.last_change_at.ensures.value ∙ ap (λ n. cells_of (kept_change n) c.args.name.now) stands.changed
    ∙ ap (λ o. option_or o (cells_of (change_table journal) c.args.name.now)) (c.in-None.ensures.value ∙ same)
