use Rattle.std.proofs.Common.{◌≡◌, true}
use Rattle.std.specs.Ordering.{nat_cmp, is_lt}
use Rattle.std.specs.Cmp.Lexicographic.{slice_cmp}
use Rattle.rm_val.specs.Val.{val_of}
use Rattle.rm_model.specs.Cells.{cells_of}
use Rattle.rm_status.specs.RowsShown.{rows_shown}
use Rattle.rm_nested.specs.InnerTable.{inner_table}
use Rattle.rm_group.proofs.Leasts.{is_below, found_first, table_from}
use Rattle.rm_nested.proofs.inner_cells.next_of_both.Goals as goal

pub returns-then-is_lt-clause-next : goal.returns-then-is_lt-clause-next
returns-then-is_lt-clause-next g c =
    let R = g.R.ControlRow in
    let T = g.I.InnerTable in
    let control = cells_of (rows_shown R.form (g.O.OtherColumns.others c.args.others.now c.args.rows.now) c.args.rows.now) in
    let table = inner_table T.entry T.columns (g.I.InnerRows.is_inner c.args.inner c.args.now) (g.I.InnerCells.shown c.args.inner) in
    let found = c.next_cell-control.new.out in
    let less : is_lt (slice_cmp nat_cmp found T.entry) ≡ true = rw (← c.entry.ensures, ← c.compare.ensures.value, ← c.is_lt.ensures) c.if-is_lt.true in
    found_first val_of control (cells_of table) c.args.name.now found T.entry c.next_cell-control.result c.if-is_some.ensures c.next_cell-control.ensures.next (is_below found T.entry less) (table_from table)

pub returns-clause-next : goal.returns-clause-next
returns-clause-next g c =
    let R = g.R.ControlRow in
    let T = g.I.InnerTable in
    let control = cells_of (rows_shown R.form (g.O.OtherColumns.others c.args.others.now c.args.rows.now) c.args.rows.now) in
    let inner = cells_of (inner_table T.entry T.columns (g.I.InnerRows.is_inner c.args.inner c.args.now) (g.I.InnerCells.shown c.args.inner)) in
    c.choose_nearer.ensures.next control inner c.args.name.now c.next_cell-control.ensures.next c.next_inner_cell-entry.ensures.next
