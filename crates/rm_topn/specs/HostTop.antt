-- The tables hostTopNControl and hostTopN (RFC 1757, section 5), as they are shown after a journal at a moment in milliseconds.
use Rattle.std.specs.Prelude.{ℕ, pos, min, List, [], ◌∷◌, Bool, nat_eq, if◌then◌else◌, is_some}
use Rattle.std.specs.Option.{option_map_or, option_or}
use Rattle.rm_val.specs.Val.{Val, int, octets, ticks, null}
use Rattle.rm_model.specs.Counting.{Counting}
use Rattle.rm_model.specs.Journal.{Journal}
use Rattle.rm_model.specs.Cells.{Cells, Table, cells_of}
use Rattle.rm_model.specs.ControlRows.{no_rows, is_valid}
use Rattle.rm_model.specs.ControlCells.{control_cells}
use Rattle.rm_status.specs.Rows.{row_number}
use Rattle.rm_status.specs.RowsShown.{with_index}
use Rattle.rm_nested.specs.InnerTable.{numbered_table}
use Rattle.rm_report.specs.declared.ranked.Ranked.{Ranked}
use Rattle.rm_topn.specs.Columns.{control_columns, report_columns}
use Rattle.rm_topn.specs.Control.{top_control, control_state, size_granted}
use Rattle.rm_topn.specs.Reports.{duration, host_shown, start_time, time_remaining}

-- what the columns of hostTopNControl show beside the index that can't be set: Duration, GrantedSize and StartTime
abbrev pub control_other : Journal → ℕ → List ℕ → Val
control_other journal column index =
    let row = row_number index in
    if nat_eq column 5 then int (pos (duration journal row))
    else if nat_eq column 7 then int (pos (if is_valid (control_state journal row) then size_granted journal row else 0))
    else ticks (start_time journal row)

-- hostTopNControl before TimeRemaining counts down
abbrev pub set_table : Journal → Table
set_table journal = control_cells top_control no_rows control_columns (with_index (control_other journal)) journal

-- hostTopNControl: TimeRemaining shows how many seconds are left
abbrev pub control_table : Journal → (now : ℕ) → Table
control_table journal now = record (set_table journal) {
  value = λ column index. if nat_eq column 4 then int (pos (time_remaining journal (row_number index) now)) else (set_table journal).value column index;
}

-- the identifier of hostTopNEntry
abbrev pub report_entry : List ℕ
report_entry = 1 ∷ 3 ∷ 6 ∷ 1 ∷ 2 ∷ 1 ∷ 16 ∷ 5 ∷ 2 ∷ 1 ∷ []

-- whether these numbers are those of a control row and of a place in its report
abbrev pub is_place : Counting → Journal → (now row place : ℕ) → Bool
is_place settings journal now row place = is_some (host_shown settings journal now row place)

-- What a column shows of the host at a place: the control row, the place, its address, and its rate, which is shown as 2147483647 at most.
abbrev pub host_value : (row place : ℕ) → Ranked → (column : ℕ) → Val
host_value row place ranked column =
    if nat_eq column 1 then int (pos row)
    else if nat_eq column 2 then int (pos place)
    else if nat_eq column 3 then octets ranked.address
    else int (pos (min ranked.rate.0 2147483647))

-- the same of the host that is shown there after a journal, at a moment
abbrev pub report_value : Counting → Journal → (now row place column : ℕ) → Val
report_value settings journal now row place column = option_map_or (λ ranked. host_value row place ranked column) (host_shown settings journal now row place) null

-- hostTopN
abbrev pub report_table : Counting → Journal → (now : ℕ) → Table
report_table settings journal now = numbered_table report_entry report_columns (is_place settings journal now) (report_value settings journal now)

-- the cells of both
abbrev pub top_cells : Counting → Journal → (now : ℕ) → Cells
top_cells settings journal now name = option_or (cells_of (control_table journal now) name) (cells_of (report_table settings journal now) name)
