use Rattle.rm_model.specs.ControlRows.{no_rows}
use Rattle.rm_pool.proofs.RoomLemmas.{denied_after}
use Rattle.rm_topn.specs.Control.{top_control}
use Rattle.rm_topn.specs.ControlColumns.{set_to}
use Rattle.rm_topn.specs.Standing.{Stands}
use Rattle.rm_topn.proofs.group.ReportsStores.prepare.Goals as goal

pub returns-clause-denied : goal.returns-clause-denied
returns-clause-denied g c =
    denied_after top_control no_rows set_to c.args.self.now.rows (g.A.Assigns.bindings c.args.set.now) (Stands c.args.self.now) (λ settings journal stands. stands.held.rows)
    c.make_room.result c.make_room.ensures.denied
