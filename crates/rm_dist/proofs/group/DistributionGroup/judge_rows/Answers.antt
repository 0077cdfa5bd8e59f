use Rattle.rm_model.specs.ControlRows.{no_rows}
use Rattle.rm_status.proofs.Judged.{judged_after}
use Rattle.rm_dist.specs.Control.{dist_control}
use Rattle.rm_dist.specs.ControlColumns.{set_to}
use Rattle.rm_dist.proofs.group.DistributionGroup.judge_rows.Goals as goal

pub returns-clause-verdict : goal.returns-clause-verdict
returns-clause-verdict g c settings journal stands later askable =
    judged_after dist_control no_rows set_to c.args.self.now.rows journal stands.rows (g.A.Assigns.bindings c.args.set.now) c.judge_rows.result c.judge_rows.ensures.verdict
