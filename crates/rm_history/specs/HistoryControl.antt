-- The table historyControl (RFC 1757, section 5), and what it shows after a journal.
use Rattle.std.specs.Prelude.{ℕ, pos, min, List, [], ◌∷◌, if◌then◌else◌}
use Rattle.rm_val.specs.Val.{Val, int}
use Rattle.rm_model.specs.Journal.{Frame, Journal, frames_in}
use Rattle.rm_model.specs.Interfaces.{frames_of}
use Rattle.rm_model.specs.Cells.{Table}
use Rattle.rm_model.specs.ControlTable.{Column, ControlTable, number, up_from, plain_column, source_column, owner_column, entry_table}
use Rattle.rm_model.specs.ControlCells.{control_cells}
use Rattle.rm_model.specs.ControlRows.{no_rows, is_valid, state_of, value_of, since, activated}
use Rattle.rm_model.specs.declared.row.State.{State}
use Rattle.rm_history.specs.Columns.{control_columns}
use Rattle.rm_status.specs.RowsShown.{with_index}
use Rattle.rm_columns.specs.Values.{natural_in}
use Rattle.rm_history.specs.declared.plan.Plan.{Plan}

-- the identifier of historyControlEntry
abbrev pub control_entry : List ℕ
control_entry = 1 ∷ 3 ∷ 6 ∷ 1 ∷ 2 ∷ 1 ∷ 16 ∷ 2 ∷ 1 ∷ 1 ∷ []

-- the buckets requested, and the interval in seconds
abbrev pub requested_column : Column
requested_column = plain_column 3 (number (up_from 1 65535)) (int (pos 50))

abbrev pub interval_column : Column
interval_column = plain_column 5 (number (up_from 1 3600)) (int (pos 1800))

-- the control table: a row asks for so many buckets of so many seconds each of the frames of a data source
abbrev pub history_control : ControlTable
history_control = entry_table control_entry 7 (source_column 2 ∷ requested_column ∷ interval_column ∷ owner_column 6 ∷ [])

-- the state of a row
abbrev pub control_state : Journal → List ℕ → State
control_state journal index = state_of history_control no_rows journal index

-- the value of a column of a row that can be set: 2 is the data source, 3 the buckets requested, 5 the interval, 6 the owner
abbrev pub control_set : Journal → List ℕ → ℕ → Val
control_set journal index column = value_of history_control no_rows journal index column

-- how many buckets are granted, at most 1024
abbrev pub granted : ℕ → ℕ
granted requested = min requested 1024

-- how the history of a row is taken: from the moment on at which it became valid
abbrev pub plan_of : Journal → List ℕ → Plan
plan_of journal index = record {
  start = activated history_control no_rows journal index;
  seconds = natural_in (control_set journal index 5);
  kept = granted (natural_in (control_set journal index 3));
}

-- the frames that a row counts: those of its data source, since it became valid
abbrev pub counted_frames : Journal → List ℕ → List Frame
counted_frames journal index =
    frames_of (control_set journal index 2) (frames_in (since history_control no_rows journal index))

-- what the column shows beside the index that can't be set: historyControlBucketsGranted; nothing is granted to a row that isn't valid
abbrev pub control_other : Journal → ℕ → List ℕ → Val
control_other journal column index = int (pos (if is_valid (control_state journal index) then (plan_of journal index).kept else 0))

-- the table after a journal
abbrev pub control_table : Journal → Table
control_table journal = control_cells history_control no_rows control_columns (with_index (control_other journal)) journal
