-- The table alarmTable (RFC 1757, section 5), and what it shows after a journal.
use Rattle.std.specs.Prelude.{ℕ, List, [], ◌∷◌}
use Rattle.rm_val.specs.Val.{Val, int}
use Rattle.rm_model.specs.Counting.{Counting}
use Rattle.rm_model.specs.Journal.{Journal}
use Rattle.rm_model.specs.Cells.{Table}
use Rattle.rm_model.specs.ControlRows.{no_rows}
use Rattle.rm_model.specs.ControlCells.{control_cells}
use Rattle.rm_acts.specs.Alarms.{alarm_table, alarm_value}
use Rattle.rm_status.specs.RowsShown.{with_index}
use Rattle.rm_status.specs.Rows.{row_number}

-- the numbers of the columns
abbrev pub alarm_columns : List ℕ
alarm_columns = 1 ∷ 2 ∷ 3 ∷ 4 ∷ 5 ∷ 6 ∷ 7 ∷ 8 ∷ 9 ∷ 10 ∷ 11 ∷ 12 ∷ []

-- what the column shows beside the index that can't be set: alarmValue
abbrev pub alarm_other : Counting → Journal → ℕ → List ℕ → Val
alarm_other settings journal column index = int (alarm_value settings journal (row_number index))

-- the table after a journal
abbrev pub alarms_table : Counting → Journal → Table
alarms_table settings journal = control_cells alarm_table no_rows alarm_columns (with_index (alarm_other settings journal)) journal

-- what a column of a row shows
abbrev pub alarm_shown : Counting → Journal → ℕ → List ℕ → Val
alarm_shown settings journal = (alarms_table settings journal).value
