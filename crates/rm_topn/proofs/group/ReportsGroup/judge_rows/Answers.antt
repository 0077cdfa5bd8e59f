use Rattle.rm_model.specs.ControlRows.{no_rows}
use Rattle.rm_status.proofs.Judged.{judged_after}
use Rattle.rm_topn.specs.Control.{top_control}
use Rattle.rm_topn.specs.ControlColumns.{set_to}
use Rattle.rm_topn.proofs.group.ReportsGroup.judge_rows.Goals as goal

pub returns-clause-verdict : goal.returns-clause-verdict
returns-clause-verdict g c settings journal stands later askable =
    judged_after top_control no_rows set_to c.args.self.now.rows journal stands.held.rows (g.A.Assigns.bindings c.args.set.now) c.judge_rows.result c.judge_rows.ensures.verdict
