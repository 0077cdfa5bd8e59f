use Rattle.std.proofs.Common.{length, ◌<◌, rules, arith}
use Rattle.rm_status.specs.declared.row.Row.{Row}
use Rattle.rm_status.proofs.RowCalls.{inserted, place_fits}
use Rattle.rm_status.proofs.controls.Controls.insert.Goals as goal

pub insert-requires : goal.insert-requires
insert-requires g c =
    let fits = place_fits c.self.inside.rows.items c.args.self.now c.args.index c.place_above-place.result c.self.view_is c.place_above-place.ensures in
    let under : length c.self.inside.rows.items < g.C.ControlRow.form.table.most = rw c.self.view_is c.requires.room in
    let most = c.most.ensures.value in
    let few = c.most.ensures.room in
    let room : length c.self.inside.rows.items < 32 = omega (arith, under, most, few) in
    (search rules, (fits, room))

pub invariant_of-self : goal.invariant_of-self
invariant_of-self g c =
    let x : Row g.row.C.Denot = record { index = c.args.index; state = c.args.state; columns = c.args.columns } in
    (inserted g.C.ControlRow.form.table c.self.inside.rows.items c.args.self.now c.insert.new.self.items x c.place_above-place.result c.self.view_is c.place_above-place.ensures c.insert.ensures.items c.self.invariant (c.requires.index, c.requires.there) c.requires.absent).0

pub returns-clause-rows : goal.returns-clause-rows
returns-clause-rows g c =
    let x : Row g.row.C.Denot = record { index = c.args.index; state = c.args.state; columns = c.args.columns } in
    (inserted g.C.ControlRow.form.table c.self.inside.rows.items c.args.self.now c.insert.new.self.items x c.place_above-place.result c.self.view_is c.place_above-place.ensures c.insert.ensures.items c.self.invariant (c.requires.index, c.requires.there) c.requires.absent).1

pub returns-clause-one_more : goal.returns-clause-one_more
returns-clause-one_more g c =
    let x : Row g.row.C.Denot = record { index = c.args.index; state = c.args.state; columns = c.args.columns } in
    (inserted g.C.ControlRow.form.table c.self.inside.rows.items c.args.self.now c.insert.new.self.items x c.place_above-place.result c.self.view_is c.place_above-place.ensures c.insert.ensures.items c.self.invariant (c.requires.index, c.requires.there) c.requires.absent).2
