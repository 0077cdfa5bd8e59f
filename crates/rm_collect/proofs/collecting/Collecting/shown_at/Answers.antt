use Rattle.std.proofs.Common.{◌≡◌, option_map}
use Rattle.rm_val.specs.Val.{val_of}
use Rattle.rm_pool.proofs.Numbered.{numbered}
use Rattle.rm_collect.specs.Collection.{control_kept}
use Rattle.rm_collect.proofs.Nearest.{shown_first, shown_second}
use Rattle.rm_collect.proofs.collecting.Collecting.shown_at.Goals as goal

pub inner_cell-requires : goal.inner_cell-requires
inner_cell-requires g c = record {
  numbered = numbered g.P.Columns.ControlRow.form.table g.met.P.Collected.laws.by_number c.self.inside.parts c.self.inside.table.rows c.len.ensures.rows c.self.invariant.of_valid;
}

pub returns-in-Some-clause-value : goal.returns-in-Some-clause-value
returns-in-Some-clause-value g c =
    let collection = g.P.Collected.collection in
    let held = c.args.self.now in
    let control = control_kept g.P.Columns.ControlRow.form collection held.rows held.parts c.args.name.now in
    shown_first control (collection.inner held.rows held.parts c.args.now c.args.name.now) (val_of c.in-Some.value) c.in-Some.ensures.value

pub returns-in-None-clause-value : goal.returns-in-None-clause-value
returns-in-None-clause-value g c =
    let collection = g.P.Collected.collection in
    let held = c.args.self.now in
    let control = control_kept g.P.Columns.ControlRow.form collection held.rows held.parts c.args.name.now in
    let found = option_map val_of c.inner_cell.result in
    let inner : found ≡ collection.inner held.rows held.parts c.args.now c.args.name.now = rw (← c.self.view_is) c.inner_cell.ensures.value in
    shown_second control (collection.inner held.rows held.parts c.args.now c.args.name.now) found c.in-None.ensures.value inner
