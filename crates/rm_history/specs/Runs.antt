-- The histories of rows.
use Rattle.std.specs.Prelude.{◌≡◌, ℕ, ◌+◌, ◌<◌, ◌≤◌, nat_eq, if◌then◌else◌}
use Rattle.rm_proto.specs.declared.known.Facts.{Facts}
use Rattle.rm_ether.specs.declared.counter.Counter.{Counter}
use Rattle.rm_group.specs.declared.bounds.TheConstants.{MOST_FRAMES}
use Rattle.rm_ether.specs.Counted.{counted_from}
use Rattle.rm_history.specs.declared.control_columns.ControlColumns.{ControlColumns}
use Rattle.rm_history.specs.declared.plan.Plan.{Plan}
use Rattle.rm_history.specs.declared.run.Run.{Run}
use Rattle.rm_history.specs.HistoryControl.{granted}
use Rattle.rm_history.specs.Buckets.{end_of, complete_at}
use Rattle.rm_history.specs.Run.{kept_counter}

-- how the history of a row with these columns is taken that begins at a moment
abbrev pub plan_from : ControlColumns → ℕ → Plan
plan_from columns now = record { start = now; seconds = columns.interval; kept = granted columns.requested }

-- no bucket is closed that ends after a moment, and no bucket has more frames than so many
abbrev pub Fits : (last frames : ℕ) → Run → Type 0
Fits last frames run = (end_of run.plan run.closed ≤ last) × (run.current.packets ≤ frames)

-- a frame may be counted that passes at a moment
abbrev pub IsReady : (moment : ℕ) → Run → Type 0
IsReady moment run = (end_of run.plan run.closed ≤ moment) × (run.current.packets < MOST_FRAMES)

-- a history counted a frame that passed at a moment
pub record Counts (facts : Facts) (moment : ℕ) (run new : Run) : Type 0 where
  pub plan : new.plan ≡ run.plan
  pub source : new.source ≡ run.source
  pub closed : new.closed ≡ complete_at run.plan moment
  pub buckets : (bucket : ℕ) (each : Counter) → 1 ≤ bucket → new.closed < bucket + new.ring.capacity
      → kept_counter new bucket each ≡ kept_counter run bucket each + (if nat_eq bucket (complete_at run.plan moment + 1) then counted_from run.source each facts else 0)
  pub packets : new.current.packets ≤ run.current.packets + 1
