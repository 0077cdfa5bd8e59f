use Rattle.rm_status.proofs.Judged.{same_next}
use Rattle.rm_collect.specs.Collection.{kept}
use Rattle.rm_collect.proofs.group.CollectingGroup.after.Goals as goal

pub returns-clause-next : goal.returns-clause-next
returns-clause-next g c settings journal stands later askable =
    let collection = g.P.Collected.collection in
    let held = c.args.self.now in
    let same = g.met.P.Collected.laws.same settings journal c.args.now held.rows held.parts c.shown_after.ensures.rows stands.rows stands.parts later in
    same_next (kept g.P.Columns.ControlRow.form collection held.rows held.parts c.args.now) (collection.cells settings journal c.args.now) same c.args.name.now _ _ c.shown_after.ensures.next
