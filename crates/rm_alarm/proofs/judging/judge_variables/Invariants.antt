use Rattle.std.proofs.Common.{◌≡◌, ℕ, ◌<◌, None}
use Rattle.rm_acts.specs.Alarms.{alarm_table}
use Rattle.rm_val.specs.Spellable.{HasSpelling}
use Rattle.rm_model.specs.Judgement.{value_at}
use Rattle.rm_status.specs.Rows.{rows_before}
use Rattle.rm_alarm.specs.Group.{variable_fault}
use Rattle.rm_alarm.specs.Rows.{set_to}
use Rattle.rm_alarm.proofs.judging.judge_variables.Given as goal

abbrev pub invariant-loop-place : goal.invariant-loop-place
invariant-loop-place g l =
    ((k : ℕ) → k < l.place → variable_fault (g.L.Look.readings l.look l.now) (rows_before alarm_table set_to l.rows) (g.A.Assigns.bindings l.set) k ≡ None)
    × ((k : ℕ) → k < l.place → HasSpelling (value_at (g.A.Assigns.bindings l.set) k))
