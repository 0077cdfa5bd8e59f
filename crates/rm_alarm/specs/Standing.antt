-- When what is kept of alarms is what a journal gives.
use Rattle.std.specs.Prelude.{◌≡◌, ℕ, List, Option, Some, None}
use Rattle.rm_model.specs.Counting.{Counting}
use Rattle.rm_model.specs.Journal.{Journal}
use Rattle.rm_model.specs.ControlRows.{no_rows}
use Rattle.rm_model.specs.Judgement.{Bindings}
use Rattle.rm_acts.specs.Alarms.{alarm_table, readings_of, base_of, newest_or, is_counted, base_number, sample_values, due_of}
use Rattle.rm_model.specs.declared.row.State.{State}
use Rattle.rm_model.specs.declared.row.State.TheVariants.{Absent, UnderCreation, Valid}
use Rattle.rm_status.specs.declared.row.Row.{Row}
use Rattle.rm_status.specs.Rows.{row_in}
use Rattle.rm_status.specs.RowsAfter.{AreRowsAfter}
use Rattle.rm_alarm.specs.declared.alarms.Alarms.{Alarms}
use Rattle.rm_alarm.specs.declared.course.Course.{Course}
use Rattle.rm_alarm.specs.declared.row.AlarmRow.{AlarmRow}
use Rattle.rm_alarm.specs.Kept.{Keeps}
use Rattle.rm_alarm.specs.Rows.{set_to, variable_with}

-- what a valid alarm keeps: when its next sample is due, and what its samples have crossed
pub record IsRunning (settings : Counting) (journal : Journal) (alarm : ℕ) (row : AlarmRow) (course : Course) : Type 0 where
  pub due : due_of journal alarm ≡ Some course.due
  pub keeps : Keeps course.hysteresis row.thresholds (sample_values settings journal alarm)

-- what an alarm keeps of its samples, by its state: nothing where it isn't valid
abbrev pub IsKept : Counting → Journal → ℕ → State → AlarmRow → Option Course → Type 0
IsKept settings journal alarm Valid row (Some course) = IsRunning settings journal alarm row course
IsKept settings journal alarm Valid row None = ⊥
IsKept settings journal alarm UnderCreation row course = course ≡ None
IsKept settings journal alarm Absent row course = course ≡ None

abbrev pub AreKept : List (Row AlarmRow) → Counting → Journal → Type 0
AreKept rows settings journal =
    (alarm : ℕ) (row : Row AlarmRow) → row_in rows alarm ≡ Some row → IsKept settings journal alarm row.state row.columns row.columns.course

-- The group stands for a journal: it has the rows that the journal gives, and each keeps what the journal gives of its samples.
pub record Stands (alarms : Alarms) (settings : Counting) (journal : Journal) : Type 0 where
  pub rows : AreRowsAfter alarm_table no_rows set_to alarms.rows journal
  pub kept : AreKept alarms.rows settings journal

-- what a valid alarm keeps of readings: of which kind they are, and the last one, at first what the variable read when the
-- alarm became valid
pub record IsBased (settings : Counting) (journal : Journal) (alarm : ℕ) (course : Course) : Type 0 where
  pub counter : course.counter ≡ is_counted (base_of settings journal alarm)
  pub reading : course.reading ≡ newest_or (base_number (base_of settings journal alarm)) (readings_of journal alarm)

-- the alarms of the group have read what a journal gives
abbrev pub AreBased : Alarms → Counting → Journal → Type 0
AreBased alarms settings journal =
    (alarm : ℕ) (row : Row AlarmRow) (course : Course) → row_in alarms.rows alarm ≡ Some row → row.columns.course ≡ Some course → IsBased settings journal alarm course

-- Each row under creation remembers what the variable reads, at a moment after a journal, that it has with what a Set gives.
abbrev pub AreRead : Alarms → Counting → Journal → ℕ → Bindings → Type 0
AreRead alarms settings journal now bindings =
    (alarm : ℕ) (row : Row AlarmRow) → row_in alarms.rows alarm ≡ Some row → row.state ≡ UnderCreation
    → row.columns.base ≡ settings.readings journal now (variable_with bindings alarm row.columns)

-- all that is kept of alarms is what a journal gives
pub record AreWhole (alarms : Alarms) (settings : Counting) (journal : Journal) : Type 0 where
  pub stand : Stands alarms settings journal
  pub based : AreBased alarms settings journal
