use Rattle.std.proofs.Common.{◌≡◌, true, subst, option_map}
use Rattle.std.specs.Ordering.{nat_cmp, is_lt}
use Rattle.std.specs.Cmp.Lexicographic.{slice_cmp}
use Rattle.rm_val.specs.Val.{val_of}
use Rattle.rm_model.specs.Cells.{IsNext, cells_of}
use Rattle.rm_group.proofs.Leasts.{is_below, found_first}
use Rattle.rm_status.specs.RowsShown.{rows_shown}
use Rattle.rm_pool.proofs.Numbered.{numbered}
use Rattle.rm_collect.specs.Collection.{kept}
use Rattle.rm_collect.specs.Held.{Held}
use Rattle.rm_collect.proofs.Nearest.{name_stays}
use Rattle.rm_collect.proofs.collecting.Collecting.shown_after.Goals as goal

pub returns-then-is_under-clause-next : goal.returns-then-is_under-clause-next
returns-then-is_under-clause-next g c =
    let form = g.P.Columns.ControlRow.form in
    let collection = g.P.Collected.collection in
    let inside = c.self.inside in
    let control = cells_of (rows_shown form (collection.others inside.table.rows inside.parts) inside.table.rows) in
    let found = c.next_cell-nearer.new.out in
    let least = c.inner_least.result.now in
    let less : is_lt (slice_cmp nat_cmp found least) ≡ true = rw (← c.is_under.ensures) c.if-is_under.true in
    subst (λ (held : Held g.row.P-Columns.Denot g.row.P.Denot g.row.P-Shared.Denot). IsNext (kept form collection held.rows held.parts c.args.now) c.args.name.now (option_map val_of c.next_cell-nearer.result) found) c.self.view_is
    (found_first val_of control (collection.inner inside.table.rows inside.parts c.args.now) c.args.name.now found least c.next_cell-nearer.result c.if-is_some.ensures c.next_cell-nearer.ensures.next (is_below found least less)
    (c.inner_least.ensures.from inside.table.rows inside.parts c.args.now))

pub inner_after-inner-requires : goal.inner_after-inner-requires
inner_after-inner-requires g c = record {
  numbered = numbered g.P.Columns.ControlRow.form.table g.met.P.Collected.laws.by_number c.self.inside.parts c.self.inside.table.rows c.len.ensures.rows c.self.invariant.of_valid;
}

pub returns-clause-next : goal.returns-clause-next
returns-clause-next g c =
    let form = g.P.Columns.ControlRow.form in
    let collection = g.P.Collected.collection in
    let inside = c.self.inside in
    let control = cells_of (rows_shown form (collection.others inside.table.rows inside.parts) inside.table.rows) in
    subst (λ (held : Held g.row.P-Columns.Denot g.row.P.Denot g.row.P-Shared.Denot). IsNext (kept form collection held.rows held.parts c.args.now) c.args.name.now (option_map val_of c.choose_nearer.result) c.choose_nearer.new.out) c.self.view_is
    (c.choose_nearer.ensures.next control (collection.inner inside.table.rows inside.parts c.args.now) c.args.name.now c.next_cell-nearer.ensures.next c.inner_after-inner.ensures.next)

pub returns-clause-stays : goal.returns-clause-stays
returns-clause-stays g c =
    name_stays c.choose_nearer.result c.next_cell-nearer.result c.inner_after-inner.result c.args.out.now c.next_cell-nearer.new.out c.choose_nearer.new.out c.choose_nearer.ensures.neither c.choose_nearer.ensures.stays c.next_cell-nearer.ensures.stays
