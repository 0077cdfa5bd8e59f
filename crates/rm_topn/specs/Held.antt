-- What is always so of what is kept of reports.
use Rattle.std.specs.Prelude.{◌≡◌, ℕ, ◌<◌, ◌≤◌, List, true, false, Option, Some}
use Rattle.std.specs.Option.{option_and_then}
use Rattle.std.proofs.Props.{props}
use Rattle.rm_status.specs.declared.row.Row.{Row}
use Rattle.rm_pool.specs.declared.slot.Slot.{Slot}
use Rattle.rm_pool.specs.Pools.{IsOfValid}
use Rattle.rm_pool.specs.Slots.{part_in}
use Rattle.rm_topn.specs.declared.control_columns.ControlColumns.{ControlColumns}
use Rattle.rm_topn.specs.declared.course.Course.{Course}
use Rattle.rm_topn.specs.declared.course.Run.{Run}
use Rattle.rm_topn.specs.Courses.{end_at}

-- the last report that began of a row, by what is kept
abbrev pub run_in : List (Slot Course) → (row : ℕ) → Option Run
run_in courses row = option_and_then (λ course. course.run) (part_in courses row)

-- the reports that have ended did so by a moment
abbrev pub HaveEndedBy : List (Slot Course) → (moment : ℕ) → Type 0
HaveEndedBy courses moment = (row : ℕ) (run : Run) → run_in courses row ≡ Some run → run.runs ≡ false → end_at run ≤ moment

-- no report that runs should have ended by a moment
abbrev pub AreAskable : List (Slot Course) → (now : ℕ) → Type 0
AreAskable courses now = (row : ℕ) (run : Run) → run_in courses row ≡ Some run → run.runs ≡ true → now < end_at run

pub of_valid_prop : (courses : List (Slot Course)) (rows : List (Row ControlColumns)) → IsProp (IsOfValid courses rows)
of_valid_prop courses rows = hlevel props

pub ended_prop : (courses : List (Slot Course)) (moment : ℕ) → IsProp (HaveEndedBy courses moment)
ended_prop courses moment = hlevel props
