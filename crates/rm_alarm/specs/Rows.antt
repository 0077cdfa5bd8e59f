-- The columns of a row of alarmTable, as they are kept.
use Rattle.std.specs.Prelude.{ℕ, pos, List, [], ◌∷◌, Bool, nat_eq, unwrap_or, nat_abs, if◌then◌else◌, Option, Some, None}
use Rattle.std.specs.Option.{option_map, option_or}
use Rattle.rm_val.specs.Val.{Val}
use Rattle.rm_acts.specs.Alarms.{name_of, alarm_entry}
use Rattle.rm_columns.specs.Kinds.{texts, numbers, needed_numbers, needed_names}
use Rattle.rm_model.specs.Journal.{value_given}
use Rattle.rm_model.specs.ControlRows.{cell_name}
use Rattle.rm_model.specs.Judgement.{Bindings}
use Rattle.rm_model.specs.declared.row.State.{State}
use Rattle.rm_model.specs.declared.row.State.TheVariants.{Absent, UnderCreation, Valid}
use Rattle.rm_model.specs.Readings.{Readings}
use Rattle.rm_alarm.specs.declared.course.Course.{Course}
use Rattle.rm_alarm.specs.declared.row.AlarmRow.{AlarmRow}
use Rattle.rm_alarm.specs.declared.sample_type.SampleType.TheVariants.{Absolute}
use Rattle.rm_alarm.specs.declared.startup_alarm.StartupAlarm.TheVariants.{RisingOrFalling}
use Rattle.rm_alarm.specs.Kept.{starting}
use Rattle.rm_alarm.specs.SampleType.{is_difference, sample_types}
use Rattle.rm_alarm.specs.StartupAlarm.{startup_alarms}

-- what the columns were set to
abbrev pub set_to : AlarmRow → ℕ → Option Val
set_to row n =
    if nat_eq 2 n then needed_numbers.shown row.interval
    else if nat_eq 3 n then needed_names.shown row.variable
    else if nat_eq 4 n then sample_types.shown row.sample_type
    else if nat_eq 6 n then startup_alarms.shown row.thresholds.startup
    else if nat_eq 7 n then numbers.shown row.thresholds.rising
    else if nat_eq 8 n then numbers.shown row.thresholds.falling
    else if nat_eq 9 n then numbers.shown row.rising_event
    else if nat_eq 10 n then numbers.shown row.falling_event
    else if nat_eq 11 n then (texts 127).shown row.owner
    else None

-- a row with a column set
abbrev pub with_column : AlarmRow → ℕ → Val → AlarmRow
with_column row n value = record {
  interval = if nat_eq 2 n then needed_numbers.taken value else row.interval;
  variable = if nat_eq 3 n then needed_names.taken value else row.variable;
  sample_type = if nat_eq 4 n then sample_types.taken value else row.sample_type;
  thresholds = record {
    startup = if nat_eq 6 n then startup_alarms.taken value else row.thresholds.startup;
    rising = if nat_eq 7 n then numbers.taken value else row.thresholds.rising;
    falling = if nat_eq 8 n then numbers.taken value else row.thresholds.falling;
  };
  rising_event = if nat_eq 9 n then numbers.taken value else row.rising_event;
  falling_event = if nat_eq 10 n then numbers.taken value else row.falling_event;
  owner = if nat_eq 11 n then (texts 127).taken value else row.owner;
  base = row.base;
  course = row.course;
}

-- a new row
abbrev pub blank_row : AlarmRow
blank_row = record {
  interval = None;
  variable = None;
  sample_type = Absolute;
  thresholds = record { startup = RisingOrFalling; rising = pos 0; falling = pos 0 };
  rising_event = pos 0;
  falling_event = pos 0;
  owner = record { items = [] };
  base = None;
  course = None;
}

-- whatever its index
abbrev pub new_row : ℕ → AlarmRow
new_row index = blank_row

-- how many seconds are between two samples, which variable they read, and whether they take a difference
abbrev pub interval_kept : AlarmRow → ℕ
interval_kept row = nat_abs (unwrap_or row.interval (pos 0))

abbrev pub variable_kept : AlarmRow → List ℕ
variable_kept row = unwrap_or row.variable (0 ∷ 0 ∷ [])

abbrev pub delta_kept : AlarmRow → Bool
delta_kept row = is_difference row.sample_type

-- the variable of a row with what a Set gives to it
abbrev pub variable_with : Bindings → ℕ → AlarmRow → List ℕ
variable_with bindings index row =
    unwrap_or (option_or (option_map name_of (value_given bindings (cell_name alarm_entry 3 (index ∷ [])))) row.variable) (0 ∷ 0 ∷ [])

-- a row that remembers what its variable reads, for a Set that may make it valid; and one that forgets it
abbrev pub reading_base : Readings → Bindings → ℕ → AlarmRow → AlarmRow
reading_base readings bindings index row = record row { base = readings (variable_with bindings index row) }

abbrev pub without_base : AlarmRow → AlarmRow
without_base row = record row { base = None }

-- what a valid alarm keeps, which starts from what was remembered
abbrev pub course_or_start : ℕ → AlarmRow → Option Course → Course
course_or_start now row (Some course) = course
course_or_start now row None = starting now (interval_kept row) row.base

-- A row after a Set at a moment: one that is valid goes on with its samples, or starts. Any other one keeps nothing of them.
abbrev pub settled : ℕ → State → AlarmRow → AlarmRow
settled now Valid row = record row { base = None; course = Some (course_or_start now row row.course) }
settled now UnderCreation row = record row { base = None; course = None }
settled now Absent row = record row { base = None; course = None }
