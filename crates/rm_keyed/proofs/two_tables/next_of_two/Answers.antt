use Rattle.std.proofs.Common.{◌≡◌, true}
use Rattle.std.specs.Ordering.{nat_cmp, is_lt}
use Rattle.std.specs.Cmp.Lexicographic.{slice_cmp}
use Rattle.rm_val.specs.Val.{val_of}
use Rattle.rm_model.specs.Cells.{cells_of}
use Rattle.rm_nested.specs.InnerTable.{inner_table}
use Rattle.rm_group.proofs.Leasts.{is_below, found_first, table_from}
use Rattle.rm_keyed.proofs.two_tables.next_of_two.Goals as goal

pub returns-then-is_lt-clause-next : goal.returns-then-is_lt-clause-next
returns-then-is_lt-clause-next g c =
    let I = g.I.InnerTable in
    let J = g.J.InnerTable in
    let first = inner_table I.entry I.columns (g.I.InnerRows.is_inner c.args.first c.args.now) (g.I.InnerCells.shown c.args.first) in
    let second = inner_table J.entry J.columns (g.J.InnerRows.is_inner c.args.second c.args.now) (g.J.InnerCells.shown c.args.second) in
    let found = c.next_inner_cell-nearer.new.out in
    let less : is_lt (slice_cmp nat_cmp found J.entry) ≡ true = rw (← c.entry.ensures, ← c.compare.ensures.value, ← c.is_lt.ensures) c.if-is_lt.true in
    found_first val_of (cells_of first) (cells_of second) c.args.name.now found J.entry c.next_inner_cell-nearer.result c.if-is_some.ensures c.next_inner_cell-nearer.ensures.next (is_below found J.entry less) (table_from second)

pub returns-clause-next : goal.returns-clause-next
returns-clause-next g c =
    let I = g.I.InnerTable in
    let J = g.J.InnerTable in
    let first = cells_of (inner_table I.entry I.columns (g.I.InnerRows.is_inner c.args.first c.args.now) (g.I.InnerCells.shown c.args.first)) in
    let second = cells_of (inner_table J.entry J.columns (g.J.InnerRows.is_inner c.args.second c.args.now) (g.J.InnerCells.shown c.args.second)) in
    c.choose_nearer.ensures.next first second c.args.name.now c.next_inner_cell-nearer.ensures.next c.next_inner_cell-entry.ensures.next
