-- That alarms which are valid have an interval.
use Rattle.std.specs.Prelude.{◌≡◌, ℕ, ℤ, nat_abs, nat_le, List, Bool, true, false, Option, Some, None}
use Rattle.std.proofs.Props.{props}
use Rattle.rm_model.specs.declared.row.State.{State}
use Rattle.rm_model.specs.declared.row.State.TheVariants.{Absent, UnderCreation, Valid}
use Rattle.rm_status.specs.declared.row.Row.{Row}
use Rattle.rm_status.specs.Rows.{row_in}
use Rattle.rm_alarm.specs.declared.course.Course.{Course}
use Rattle.rm_alarm.specs.declared.row.AlarmRow.{AlarmRow}

-- whether an interval is a second or more where it was set, and else the alarm isn't valid and keeps nothing of samples
abbrev pub is_paced : State → Option ℤ → Option Course → Bool
is_paced state (Some seconds) course = nat_le 1 (nat_abs seconds)
is_paced Valid None course = false
is_paced UnderCreation None (Some course) = false
is_paced UnderCreation None None = true
is_paced Absent None (Some course) = false
is_paced Absent None None = true

-- it is so for each row
abbrev pub ArePaced : List (Row AlarmRow) → Type 0
ArePaced rows =
    (alarm : ℕ) (row : Row AlarmRow) → row_in rows alarm ≡ Some row → is_paced row.state row.columns.interval row.columns.course ≡ true

pub paced_prop : (rows : List (Row AlarmRow)) → IsProp (ArePaced rows)
paced_prop rows = hlevel props
