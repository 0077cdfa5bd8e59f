-- What a sample makes of a row.
use Rattle.std.specs.Prelude.{◌≡◌, ℕ, ◌+◌, ◌*◌, ℤ, List, ◌∷◌, false, nat_eq, Some}
use Rattle.rm_acts.specs.Crossings.{crossing}
use Rattle.rm_acts.specs.declared.sampled.Sampled.{Sampled}
use Rattle.rm_status.specs.declared.row.Row.{Row}
use Rattle.rm_status.specs.Rows.{row_in}
use Rattle.rm_alarm.specs.declared.course.Course.{Course}
use Rattle.rm_alarm.specs.declared.row.AlarmRow.{AlarmRow}
use Rattle.rm_alarm.specs.Kept.{bounds_in, value_read, Keeps}
use Rattle.rm_alarm.specs.Rows.{interval_kept, delta_kept}

-- what a row keeps after a sample that reads a number at a moment, and what that sample comes to, by what it kept before
pub record Took (row : AlarmRow) (course : Course) (moment : ℕ) (number : ℤ) (after : Course) (sampled : Sampled) : Type 0 where
  pub due : after.due ≡ moment + 1000 * interval_kept row
  pub counter : after.counter ≡ course.counter
  pub reading : after.reading ≡ number
  pub keeps : (earlier : List ℤ) → Keeps course.hysteresis row.thresholds earlier → Keeps after.hysteresis row.thresholds (value_read (delta_kept row) course number ∷ earlier)
  pub crosses : (earlier : List ℤ) → Keeps course.hysteresis row.thresholds earlier → sampled ≡ crossing (bounds_in row.thresholds) (value_read (delta_kept row) course number ∷ earlier)

-- a row that keeps something else of its samples
abbrev pub with_course : Row AlarmRow → Course → Row AlarmRow
with_course row course = record row { columns = record row.columns { course = Some course } }

-- what a sample makes of the rows: the one with that index takes it, and the others stay
pub record HasTaken (rows new : List (Row AlarmRow)) (index moment : ℕ) (number : ℤ) (sampled : Sampled) : Type 0 where
  pub others : (i : ℕ) → nat_eq index i ≡ false → row_in new i ≡ row_in rows i
  pub itself : (row : Row AlarmRow) (course : Course) → row_in rows index ≡ Some row → row.columns.course ≡ Some course
      → (after : Course) × (row_in new index ≡ Some (with_course row after)) × Took row.columns course moment number after sampled
