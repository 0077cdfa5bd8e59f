-- What a Set asks of reports.
use Rattle.std.specs.Prelude.{◌≡◌, ℕ, List, [], ◌∷◌, nat_eq, is_some, if◌then◌else◌, Option, Some, None}
use Rattle.std.specs.Option.{option_map, option_and_then}
use Rattle.rm_model.specs.ControlRows.{cell_name}
use Rattle.rm_model.specs.Counting.{Counting}
use Rattle.rm_model.specs.Journal.{Journal, value_given}
use Rattle.rm_model.specs.Judgement.{Bindings}
use Rattle.rm_status.specs.declared.row.Row.{Row}
use Rattle.rm_status.specs.Rows.{columns_in}
use Rattle.rm_topn.specs.declared.control_columns.ControlColumns.{ControlColumns}
use Rattle.rm_topn.specs.declared.course.Course.{Course}
use Rattle.rm_topn.specs.declared.plan.Plan.{Plan}
use Rattle.rm_topn.specs.Control.{control_entry}
use Rattle.rm_topn.specs.Kept.{IsCourse}
use Rattle.rm_topn.specs.Plans.{plan_of}
use Rattle.rm_topn.specs.Starts.{last_start}

-- what a row asks of a report, if there is one
abbrev pub plan_in : List (Row ControlColumns) → (row : ℕ) → Option Plan
plan_in rows row = option_map plan_of (columns_in rows row)

-- the report that is to begin of a row that stays valid: one does where the Set gives TimeRemaining to the row
abbrev pub asked_again : List (Row ControlColumns) → Bindings → (row : ℕ) → Option Plan
asked_again rows bindings row = if is_some (value_given bindings (cell_name control_entry 4 (row ∷ []))) then plan_in rows row else None

-- one that is to run for some time
abbrev pub if_runs : Plan → Option Plan
if_runs plan = if nat_eq plan.seconds 0 then None else Some plan

-- what is kept of a row that has become valid: no report has begun, and one is to where it would run for some time
pub record IsIdle (rows : List (Row ControlColumns)) (row : ℕ) (kept : Course) : Type 0 where
  pub run : kept.run ≡ None
  pub next : kept.next ≡ option_and_then if_runs (plan_in rows row)
  pub course : (settings : Counting) (journal : Journal) → last_start row journal ≡ None → IsCourse settings journal row kept

-- what a row asks again is kept beside what was kept of it
abbrev pub IsAsked : List (Row ControlColumns) → Bindings → (row : ℕ) → (old new : Course) → Type 0
IsAsked rows bindings row old new = new ≡ record old { next = asked_again rows bindings row }
