-- The alarms of a probe after a journal (RFC 1757, section 5): what their samples are, what crossings these make, and when
-- the next one is due. An alarm is named by the number of its row.
use Rattle.std.specs.Prelude.{◌≡◌, ◌⊎◌, ℕ, ◌+◌, ◌*◌, ◌<◌, ◌≤◌, ℤ, pos, negsuc, ◌-ℤ◌, int_le, nat_abs, List, [], ◌∷◌, length, Bool, true, false, nat_eq, nat_lt, if◌then◌else◌, Option, Some, None}
use Rattle.std.specs.Int.{int_rem_euclid, int_min, int_max}
use Rattle.std.specs.Ordering.{int_eq}
use Rattle.rm_val.specs.Val.{Val, int, name}
pub use Rattle.rm_val.specs.Contents.{number_of, name_of}
use Rattle.rm_model.specs.Counting.{Counting}
use Rattle.rm_model.specs.Journal.{Journal, passes, assigns, samples, moment_of}
use Rattle.rm_model.specs.ControlTable.{Range, Column, ControlTable, number, any_name, up_from, plain_column, needed_column, owner_column, entry_table}
use Rattle.rm_model.specs.ControlRows.{no_rows, is_valid, state_of, value_of, stays_valid, since, activated}
use Rattle.rm_acts.specs.Crossings.{Bounds, crossing}
use Rattle.rm_model.specs.declared.row.State.{State}
use Rattle.rm_model.specs.declared.reading.Reading.{Reading}
use Rattle.rm_acts.specs.declared.sampled.Sampled.{Sampled}
use Rattle.rm_acts.specs.declared.sampled.Sampled.TheVariants.{Gone}

-- the identifier of alarmEntry
abbrev pub alarm_entry : List ℕ
alarm_entry = 1 ∷ 3 ∷ 6 ∷ 1 ∷ 2 ∷ 1 ∷ 16 ∷ 3 ∷ 1 ∷ 1 ∷ []

-- the numbers of an INTEGER
abbrev pub any_number : List Range
any_number = record { least = negsuc 2147483647; greatest = pos 2147483647 } ∷ []

-- The columns that can be set: alarmInterval, alarmVariable, alarmSampleType, alarmStartupAlarm, alarmRisingThreshold,
-- alarmFallingThreshold, alarmRisingEventIndex, alarmFallingEventIndex and alarmOwner.
abbrev pub interval_column : Column
interval_column = needed_column 2 (number (up_from 1 2147483647)) (int (pos 0))

abbrev pub variable_column : Column
variable_column = needed_column 3 any_name (name (0 ∷ 0 ∷ []))

abbrev pub sample_type_column : Column
sample_type_column = plain_column 4 (number (up_from 1 2)) (int (pos 1))

abbrev pub startup_column : Column
startup_column = plain_column 6 (number (up_from 1 3)) (int (pos 3))

abbrev pub rising_column : Column
rising_column = plain_column 7 (number any_number) (int (pos 0))

abbrev pub falling_column : Column
falling_column = plain_column 8 (number any_number) (int (pos 0))

abbrev pub rising_event_column : Column
rising_event_column = plain_column 9 (number (up_from 0 65535)) (int (pos 0))

abbrev pub falling_event_column : Column
falling_event_column = plain_column 10 (number (up_from 0 65535)) (int (pos 0))

-- The control table. Of its columns the owner alone may be set while the row is valid. A row is ready where the falling
-- threshold isn't above the rising one.
abbrev pub alarm_table : ControlTable
alarm_table =
    record (entry_table alarm_entry 12
    (interval_column ∷ variable_column ∷ sample_type_column ∷ startup_column ∷ rising_column ∷ falling_column
    ∷ rising_event_column ∷ falling_event_column ∷ owner_column 11 ∷ [])) {
      go_together = λ value. int_le (number_of (value 8)) (number_of (value 7));
      is_sampled = true;
    }

-- the state of an alarm, and the value of a column of it that can be set
abbrev pub alarm_state : Journal → ℕ → State
alarm_state journal alarm = state_of alarm_table no_rows journal (alarm ∷ [])

abbrev pub alarm_column : Journal → ℕ → ℕ → Val
alarm_column journal alarm column = value_of alarm_table no_rows journal (alarm ∷ []) column

-- the variable that it samples, whether it takes the difference of two readings, and how many seconds are between two samples
abbrev pub variable_of : Journal → ℕ → List ℕ
variable_of journal alarm = name_of (alarm_column journal alarm 3)

abbrev pub is_delta : Journal → ℕ → Bool
is_delta journal alarm = int_eq (number_of (alarm_column journal alarm 4)) (pos 2)

abbrev pub interval_of : Journal → ℕ → ℕ
interval_of journal alarm = nat_abs (number_of (alarm_column journal alarm 2))

-- the columns by which its samples cross
abbrev pub bounds_of : Journal → ℕ → Bounds
bounds_of journal alarm = record {
  startup = number_of (alarm_column journal alarm 6);
  rising = number_of (alarm_column journal alarm 7);
  falling = number_of (alarm_column journal alarm 8);
}

-- the numbers that the samples of an alarm among some acts read, the newest first
abbrev pub readings_in : ℕ → Journal → List ℤ
readings_in alarm [] = []
readings_in alarm (passes frame ∷ earlier) = readings_in alarm earlier
readings_in alarm (assigns moment values ∷ earlier) = readings_in alarm earlier
readings_in alarm (samples moment other None ∷ earlier) = readings_in alarm earlier
readings_in alarm (samples moment other (Some reading) ∷ earlier) =
    if nat_eq other alarm then reading ∷ readings_in alarm earlier else readings_in alarm earlier

-- the numbers that its samples read since it became valid
abbrev pub readings_of : Journal → ℕ → List ℤ
readings_of journal alarm = readings_in alarm (since alarm_table no_rows journal (alarm ∷ []))

-- What its variable read when it became valid, after the acts before the one that made it so, and at the moment of that one.
-- Nothing where it isn't valid.
abbrev pub base_of : Counting → Journal → ℕ → Option Reading
base_of settings [] alarm = None
base_of settings (act ∷ earlier) alarm =
    if stays_valid alarm_table no_rows act earlier (alarm ∷ []) then base_of settings earlier alarm
    else if is_valid (alarm_state (act ∷ earlier) alarm) then settings.readings earlier (moment_of act) (variable_of (act ∷ earlier) alarm)
    else None

-- by how much a reading is above the one before: modulo 2 ^ 32 where they are a Counter32's, and else exactly
abbrev pub difference : (counter : Bool) → ℤ → ℤ → ℤ
difference counter reading before =
    if counter then int_rem_euclid (reading -ℤ before) (pos 4294967296) else reading -ℤ before

-- the newest of some numbers, or another one where there is none
abbrev pub newest_or : ℤ → List ℤ → ℤ
newest_or other [] = other
newest_or other (newest ∷ earlier) = newest

-- The values of samples that read these numbers: the numbers, or the difference of each and the one before. The first
-- one's difference is from the base.
abbrev pub values_of_readings : (delta counter : Bool) → (base : ℤ) → List ℤ → List ℤ
values_of_readings delta counter base [] = []
values_of_readings delta counter base (reading ∷ earlier) =
    (if delta then difference counter reading (newest_or base earlier) else reading) ∷ values_of_readings delta counter base earlier

-- Whether the variable of an alarm is a Counter32, and what it read at first: both as it was found when the alarm became valid.
abbrev pub is_counted : Option Reading → Bool
is_counted (Some reading) = reading.counter
is_counted None = false

abbrev pub base_number : Option Reading → ℤ
base_number (Some reading) = reading.value
base_number None = pos 0

-- the values of its samples since it became valid, the newest first
abbrev pub sample_values : Counting → Journal → ℕ → List ℤ
sample_values settings journal alarm =
    values_of_readings (is_delta journal alarm) (is_counted (base_of settings journal alarm)) (base_number (base_of settings journal alarm))
    (readings_of journal alarm)

-- a number as an INTEGER shows it: the nearest one of 32 bits with a sign
abbrev pub saturated : ℤ → ℤ
saturated value = int_max (negsuc 2147483647) (int_min value (pos 2147483647))

-- alarmValue: the value of the last sample, 0 before the first
abbrev pub alarm_value : Counting → Journal → ℕ → ℤ
alarm_value settings journal alarm = saturated (newest_or (pos 0) (sample_values settings journal alarm))

-- What a sample comes to that an alarm takes after a journal, at a moment in milliseconds, and that reads this.
abbrev pub sampled : Counting → Journal → (moment alarm : ℕ) → (reading : Option ℤ) → Sampled
sampled settings journal moment alarm None = Gone
sampled settings journal moment alarm (Some reading) =
    crossing (bounds_of journal alarm) (sample_values settings (samples moment alarm (Some reading) ∷ journal) alarm)

-- the moment of the next sample of an alarm, in milliseconds, if it is valid: sample k comes k intervals after it became so
abbrev pub due_of : Journal → ℕ → Option ℕ
due_of journal alarm =
    if is_valid (alarm_state journal alarm)
    then Some (activated alarm_table no_rows journal (alarm ∷ []) + 1000 * interval_of journal alarm * (length (readings_of journal alarm) + 1))
    else None

-- The sample that is taken next, by when each alarm's next one is due: the earliest, and of several at one moment the one
-- of the lowest alarm. Nothing where no alarm has one.
abbrev pub IsNextDue : (ℕ → Option ℕ) → Option (ℕ × ℕ) → Type 0
IsNextDue due None = (alarm : ℕ) → due alarm ≡ None
IsNextDue due (Some next) =
    (due next.1 ≡ Some next.0)
    × ((other moment : ℕ) → due other ≡ Some moment → (next.0 < moment) ⊎ ((next.0 ≡ moment) × (next.1 ≤ other)))

-- a sample, or the one of a higher alarm where that is earlier
abbrev pub nearer : Option (ℕ × ℕ) → Option ℕ → ℕ → Option (ℕ × ℕ)
nearer next None index = next
nearer None (Some due) index = Some (due, index)
nearer (Some next) (Some due) index = if nat_lt due next.0 then Some (due, index) else Some next
