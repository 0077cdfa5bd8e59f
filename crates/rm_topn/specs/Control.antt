-- The rows of hostTopNControl (RFC 1757, section 5): each asks for reports of the hosts of a control row that gained most.
use Rattle.std.specs.Prelude.{ℕ, pos, min, List, [], ◌∷◌}
use Rattle.rm_val.specs.Val.{Val, int}
use Rattle.rm_model.specs.Journal.{Journal}
use Rattle.rm_model.specs.ControlTable.{ControlTable, Column, number, up_from, plain_column, always_column, needed_column, owner_column, entry_table}
use Rattle.rm_model.specs.ControlRows.{no_rows, state_of, value_of}
use Rattle.rm_model.specs.declared.row.State.{State}
use Rattle.rm_columns.specs.Numbering.{variant}
use Rattle.rm_columns.specs.Values.{natural_in}
use Rattle.rm_report.specs.declared.rate_base.RateBase.{RateBase}
use Rattle.rm_report.specs.RateBase.{numbering}

-- the identifier of hostTopNControlEntry
abbrev pub control_entry : List ℕ
control_entry = 1 ∷ 3 ∷ 6 ∷ 1 ∷ 2 ∷ 1 ∷ 16 ∷ 5 ∷ 1 ∷ 1 ∷ []

-- hostTopNControlHostIndex, RateBase, TimeRemaining and RequestedSize
abbrev pub host_column : Column
host_column = needed_column 2 (number (up_from 1 65535)) (int (pos 0))

abbrev pub base_column : Column
base_column = plain_column 3 (number (up_from 1 7)) (int (pos 1))

abbrev pub time_column : Column
time_column = always_column 4 (number (up_from 0 2147483647)) (int (pos 0))

abbrev pub size_column : Column
size_column = plain_column 6 (number (up_from 1 2147483647)) (int (pos 10))

-- the control table
abbrev pub top_control : ControlTable
top_control = entry_table control_entry 10 (host_column ∷ base_column ∷ time_column ∷ size_column ∷ owner_column 9 ∷ [])

-- the state of a row, and the value of a column of it that can be set
abbrev pub control_state : Journal → (row : ℕ) → State
control_state journal row = state_of top_control no_rows journal (row ∷ [])

abbrev pub control_set : Journal → (row column : ℕ) → Val
control_set journal row column = value_of top_control no_rows journal (row ∷ []) column

-- the row of hostControl whose hosts are reported, the counter by which they are compared, and for how many seconds a report runs
abbrev pub host_row : Journal → (row : ℕ) → ℕ
host_row journal row = natural_in (control_set journal row 2)

abbrev pub rate_base : Journal → (row : ℕ) → RateBase
rate_base journal row = variant numbering (natural_in (control_set journal row 3))

abbrev pub seconds_set : Journal → (row : ℕ) → ℕ
seconds_set journal row = natural_in (control_set journal row 4)

-- how many hosts a report has at most: so many as are requested, and no more than 100
abbrev pub size_granted : Journal → (row : ℕ) → ℕ
size_granted journal row = min (natural_in (control_set journal row 6)) 100
