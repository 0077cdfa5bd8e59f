use Rattle.std.proofs.Common.{◌∙◌}
use Rattle.rm_alarm.proofs.Cells.{same_cells}
use Rattle.rm_alarm.proofs.group.AlarmsGroup.cell.Goals as goal

pub returns-clause-value : goal.returns-clause-value
returns-clause-value c settings journal stands later askable =
    c.cell.ensures.value ∙ same_cells c.args.self.now.rows c.cell.ensures.rows settings journal stands.stand.rows stands.stand.kept c.args.name.now
