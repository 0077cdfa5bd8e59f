use Rattle.rm_model.specs.ControlRows.{no_rows}
use Rattle.rm_event.specs.EventTable.{event_table}
use Rattle.rm_event.specs.EventRows.{set_to}
use Rattle.rm_event.specs.Standing.{Stands}
use Rattle.rm_pool.proofs.RoomLemmas.{denied_after}
use Rattle.rm_event.proofs.group.EventsStores.prepare.Goals as goal

pub returns-clause-denied : goal.returns-clause-denied
returns-clause-denied g c =
    denied_after event_table no_rows set_to c.args.self.now.rows (g.A.Assigns.bindings c.args.set.now) (Stands c.args.self.now) (λ settings journal stands. stands.rows)
    c.make_room.result c.make_room.ensures.denied
