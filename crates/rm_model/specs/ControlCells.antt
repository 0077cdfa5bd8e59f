-- The cells of a control table.
use Rattle.std.specs.Prelude.{ℕ, ℤ, pos, List, not, is_some, nat_eq, if◌then◌else◌}
use Rattle.rm_val.specs.Val.{Val, int}
use Rattle.rm_model.specs.Journal.{Journal}
use Rattle.rm_model.specs.Cells.{Table}
use Rattle.rm_model.specs.ControlTable.{ControlTable, column_of}
use Rattle.rm_model.specs.ControlRows.{Beginning, is_absent, entry_status, state_of, value_of}
use Rattle.rm_model.specs.declared.row.StatusKind.{StatusKind}
use Rattle.rm_model.specs.declared.row.StatusKind.TheVariants.{EntryStatus, RowStatus}
use Rattle.rm_model.specs.declared.row.State.{State}
use Rattle.rm_model.specs.declared.row.State.TheVariants.{Absent, UnderCreation, Valid}

-- the number of a state, by the kind of status
abbrev pub row_status : State → ℤ
row_status Valid = pos 1
row_status UnderCreation = pos 2
row_status Absent = pos 6

abbrev pub status_number : StatusKind → State → ℤ
status_number EntryStatus state = entry_status state
status_number RowStatus state = row_status state

-- what a column of a row shows: the status its state, a column that can be set what it was set to, and every other column what the
-- table says
abbrev pub control_value : ControlTable → State → (ℕ → Val) → Val → ℕ → Val
control_value table state set other column =
    if nat_eq column table.status then int (status_number table.status_kind state)
    else if is_some (column_of table column) then set column
    else other

-- a control table after a journal, by the numbers of its columns and by what those show that can't be set
abbrev pub control_cells : ControlTable → Beginning → List ℕ → (ℕ → List ℕ → Val) → Journal → Table
control_cells table beginning columns others journal = record {
  entry = table.entry;
  columns = columns;
  is_row = λ index. not (is_absent (state_of table beginning journal index));
  value = λ column index. control_value table (state_of table beginning journal index) (value_of table beginning journal index) (others column index) column;
}
