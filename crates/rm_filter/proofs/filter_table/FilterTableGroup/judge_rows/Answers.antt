use Rattle.rm_model.specs.ControlRows.{no_rows}
use Rattle.rm_status.proofs.Judged.{judged_after}
use Rattle.rm_acts.specs.Filters.{filter_table}
use Rattle.rm_filter.specs.FilterRows.{set_to}
use Rattle.rm_filter.proofs.filter_table.FilterTableGroup.judge_rows.Goals as goal

pub returns-clause-verdict : goal.returns-clause-verdict
returns-clause-verdict g c settings journal stands later askable =
    judged_after filter_table no_rows set_to c.args.self.now.rows journal stands (g.A.Assigns.bindings c.args.set.now) c.judge_rows.result c.judge_rows.ensures.verdict
