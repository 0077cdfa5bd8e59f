use Rattle.rm_collect.proofs.AfterSets.{goes_on_or_saw_none}
use Rattle.rm_collect.proofs.collecting.Collecting.goes_on.Goals as goal

pub returns : goal.returns
returns g c settings journal values stands later gives row =
    goes_on_or_saw_none g.P.Columns.ControlRow.form journal c.args.now later (g.A.Assigns.bindings c.args.set.now) values gives
    c.args.self.now.rows c.requires.ready.fine.by_rows.together stands.rows row
