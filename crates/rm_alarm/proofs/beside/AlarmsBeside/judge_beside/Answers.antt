use Rattle.std.proofs.Common.{length, subst}
use Rattle.rm_model.specs.ControlRows.{no_rows}
use Rattle.rm_model.specs.Judgement.{IsFirstFault, rows_after}
use Rattle.rm_acts.specs.Alarms.{alarm_table}
use Rattle.rm_model.specs.Readings.{Readings}
use Rattle.rm_alarm.specs.Group.{alarm_together}
use Rattle.rm_alarm.proofs.Watching.{same_readings}
use Rattle.rm_alarm.proofs.beside.AlarmsBeside.judge_beside.Goals as goal

pub returns-clause-verdict : goal.returns-clause-verdict
returns-clause-verdict g c settings journal tied first second later first_askable askable =
    let b = g.A.Assigns.bindings c.args.set.now in
    let same = same_readings g.G.Readable.sampleable (g.G.Readable.shown c.args.first.now c.args.now) settings journal c.args.now (c.shows.ensures settings journal first later first_askable) tied in
    subst (λ (readings : Readings). IsFirstFault (length b) (alarm_together readings (rows_after alarm_table no_rows journal) b) c.judge_rows.result) same
    (c.judge_rows.ensures.verdict settings journal second later tt)
