-- When what is kept of a history is what a journal gives.
use Rattle.std.specs.Prelude.{◌≡◌, ℕ, ◌≤◌, [], ◌∷◌}
use Rattle.rm_val.specs.Val.{name}
use Rattle.rm_model.specs.Counting.{Counting}
use Rattle.rm_model.specs.Journal.{Journal, last_moment}
use Rattle.rm_model.specs.Interfaces.{interface_name}
use Rattle.rm_history.specs.declared.run.Run.{Run}
use Rattle.rm_history.specs.Buckets.{end_of}
use Rattle.rm_history.specs.HistoryControl.{control_set, plan_of, counted_frames}
use Rattle.rm_history.specs.Run.{Keeps}

-- A history is that of a valid row after a journal: its buckets have what the frames give that the row counts, and none is closed
-- that ends later than the last act.
pub record IsRun (settings : Counting) (journal : Journal) (row : ℕ) (run : Run) : Type 0 where
  pub plan : run.plan ≡ plan_of journal (row ∷ [])
  pub source : name (interface_name run.source) ≡ control_set journal (row ∷ []) 2
  pub keeps : Keeps run settings (counted_frames journal (row ∷ []))
  pub reached : end_of run.plan run.closed ≤ last_moment journal
