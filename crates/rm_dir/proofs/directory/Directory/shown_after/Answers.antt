use Rattle.std.proofs.Common.{◌≡◌, ℕ, List, ◌∙◌, ap}
use Rattle.std.specs.Option.{option_or}
use Rattle.rm_model.specs.Cells.{Cells, cells_of}
use Rattle.rm_status.specs.RowsShown.{rows_shown}
use Rattle.rm_status.proofs.Judged.{same_next}
use Rattle.rm_dir.specs.DirectoryRows.{directory_rows}
use Rattle.rm_dir.specs.Shown.{kept_other, kept_change}
use Rattle.rm_dir.specs.Tables.{directory_table, directory_cells}
use Rattle.rm_dir.proofs.Cells.{same_cells}
use Rattle.rm_dir.proofs.directory.Directory.shown_after.Goals as goal

-- what is next among what is shown is next among the cells of the journal
pub returns-clause-next : goal.returns-clause-next
returns-clause-next c journal stands =
    let rows : Cells = cells_of (rows_shown directory_rows (kept_other c.args.self.now.rows) c.args.self.now.rows) in
    let scalar : Cells = cells_of (kept_change c.args.self.now.changed) in
    let same : (name : List ℕ) → option_or (rows name) (scalar name) ≡ directory_cells journal name = λ name.
    ap (λ o. option_or o (scalar name)) (same_cells c.args.self.now.rows c.next_cell-row.ensures.rows c.args.self.now.numbered journal stands.rows stands.locals name)
    ∙ ap (λ n. option_or (cells_of (directory_table journal) name) (cells_of (kept_change n) name)) stands.changed
    in
    same_next (λ name. option_or (rows name) (scalar name)) (directory_cells journal) same c.args.name.now _ _
    (c.choose_nearer.ensures.next rows scalar c.args.name.now c.next_cell-row.ensures.next c.last_change_after-scalar.ensures.next)
