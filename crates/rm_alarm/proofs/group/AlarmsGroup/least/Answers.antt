use Rattle.rm_group.proofs.Leasts.{table_from}
use Rattle.rm_alarm.specs.AlarmTable.{alarms_table}
use Rattle.rm_alarm.proofs.group.AlarmsGroup.least.Goals as goal

pub returns-clause-from : goal.returns-clause-from
returns-clause-from c settings journal now = table_from (alarms_table settings journal)
