use Rattle.std.proofs.Common.{sym}
use Rattle.rm_alarm.proofs.ShownRows.{some_row, row_shown}
use Rattle.rm_alarm.proofs.alarms.Alarms.row.Goals as goal

pub returns-in-Some-clause-shown : goal.returns-in-Some-clause-shown
returns-in-Some-clause-shown c settings journal stands valid =
    row_shown c.args.self.now settings journal stands c.args.index valid c.in-Some.row.now (sym c.in-Some.ensures.value)

pub returns-in-None-clause-shown : goal.returns-in-None-clause-shown
returns-in-None-clause-shown c settings journal stands valid =
    some_row c.args.self.now settings journal stands c.args.index valid c.in-None.ensures.value
