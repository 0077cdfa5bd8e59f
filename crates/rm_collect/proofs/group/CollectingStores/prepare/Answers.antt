use Rattle.std.proofs.Common.{rules}
use Rattle.rm_model.specs.ControlRows.{no_rows}
use Rattle.rm_pool.proofs.RoomLemmas.{denied_after}
use Rattle.rm_collect.specs.Group.{Stands}
use Rattle.rm_collect.proofs.Standing.{still_stands}
use Rattle.rm_collect.proofs.group.CollectingStores.prepare.Goals as goal

pub make_room-requires : goal.make_room-requires
make_room-requires g c = (search rules, (rw (← c.self.view_is) at c.requires.accepted.by_rows, (c.self.invariant.of_valid, rw (← c.self.view_is) at c.requires.stocked)))

pub returns-clause-stands : goal.returns-clause-stands
returns-clause-stands g c = still_stands g.P.Columns.ControlRow.form g.P.Collected.collection c.self.view_is c.make_room.new.self c.make_room.ensures.parts

pub returns-clause-denied : goal.returns-clause-denied
returns-clause-denied g c =
    let form = g.P.Columns.ControlRow.form in
    denied_after form.table no_rows form.set_to c.self.inside.table.rows (g.A.Assigns.bindings c.args.set.now) (Stands form g.P.Collected.collection c.args.self.now)
    (λ settings journal stands. rw (← c.self.view_is) at stands.rows) c.make_room.result c.make_room.ensures.denied
