use Rattle.rm_alarm.proofs.Cells.{next_cell}
use Rattle.rm_alarm.proofs.group.AlarmsGroup.after.Goals as goal

pub returns-clause-next : goal.returns-clause-next
returns-clause-next c settings journal stands later askable =
    next_cell c.args.self.now.rows c.next_cell.ensures.rows settings journal stands.stand.rows stands.stand.kept c.args.name.now _ _ c.next_cell.ensures.next
