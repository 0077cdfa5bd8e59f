-- What is kept of the samples of an alarm.
use Rattle.std.specs.Prelude.{◌≡◌, ℕ, ◌+◌, ◌*◌, ℤ, List, [], ◌∷◌, Bool, false, if◌then◌else◌, Option, Some, None}
use Rattle.rm_model.specs.declared.reading.Reading.{Reading}
use Rattle.rm_acts.specs.Alarms.{difference, is_counted, base_number}
use Rattle.rm_acts.specs.Crossings.{Bounds, is_in_force, rising_of, falling_of}
use Rattle.rm_alarm.specs.declared.course.Course.{Course}
use Rattle.rm_alarm.specs.declared.hysteresis.Hysteresis.{Hysteresis}
use Rattle.rm_alarm.specs.declared.thresholds.Thresholds.{Thresholds}
use Rattle.rm_alarm.specs.StartupAlarm.{startup_number}

-- the columns by which samples cross, as they are kept
abbrev pub bounds_in : Thresholds → Bounds
bounds_in thresholds = record { startup = startup_number thresholds.startup; rising = thresholds.rising; falling = thresholds.falling }

-- what is kept before the first sample
abbrev pub nothing_crossed : Hysteresis
nothing_crossed = record { last = None; risen = false; fallen = false }

-- what an alarm keeps that becomes valid at a moment, with so many seconds between two samples, where its variable reads this
abbrev pub starting : ℕ → ℕ → Option Reading → Course
starting now interval base = record {
  due = now + 1000 * interval;
  counter = is_counted base;
  reading = base_number base;
  hysteresis = nothing_crossed;
}

-- the newest of some values, if there is one
abbrev pub newest : List ℤ → Option ℤ
newest [] = None
newest (value ∷ earlier) = Some value

-- what is kept of samples of these values
pub record Keeps (hysteresis : Hysteresis) (thresholds : Thresholds) (values : List ℤ) : Type 0 where
  pub last : hysteresis.last ≡ newest values
  pub risen : hysteresis.risen ≡ is_in_force (rising_of (bounds_in thresholds)) values
  pub fallen : hysteresis.fallen ≡ is_in_force (falling_of (bounds_in thresholds)) values

-- the value of a sample that reads a number, by what is kept
abbrev pub value_read : Bool → Course → ℤ → ℤ
value_read delta course number = if delta then difference course.counter number course.reading else number
