-- What hostTopNControl and hostTopN show, by the rows and what they keep of their reports.
use Rattle.std.specs.Prelude.{ℕ, pos, min, List, nat_eq, if◌then◌else◌, Option, Some, None}
use Rattle.std.specs.Option.{option_and_then, option_map_or, option_or}
use Rattle.rm_val.specs.Val.{Val, int, ticks, null}
use Rattle.rm_model.specs.Cells.{Cells, Table, cells_of, instance_of}
use Rattle.rm_model.specs.ControlRows.{is_valid}
use Rattle.rm_columns.specs.Values.{natural_of}
use Rattle.rm_status.specs.declared.row.Row.{Row}
use Rattle.rm_status.specs.Rows.{row_in, columns_in, row_number}
use Rattle.rm_status.specs.RowsShown.{rows_shown}
use Rattle.rm_pool.specs.declared.slot.Slot.{Slot}
use Rattle.rm_pool.specs.Slots.{part_in}
use Rattle.rm_nested.specs.InnerTable.{inner_table}
use Rattle.rm_nested.specs.NumberedRows.{is_kept_of, value_at}
use Rattle.rm_report.specs.declared.ranked.Ranked.{Ranked}
use Rattle.rm_report.specs.Ranking.{ranked_at}
use Rattle.rm_topn.specs.declared.control_columns.ControlColumns.{ControlColumns}
use Rattle.rm_topn.specs.declared.course.Course.{Course}
use Rattle.rm_topn.specs.Columns.{control_columns, report_columns}
use Rattle.rm_topn.specs.Control.{control_entry}
use Rattle.rm_topn.specs.ControlColumns.{control_rows}
use Rattle.rm_topn.specs.Courses.{is_shown}
use Rattle.rm_topn.specs.HostTop.{host_value, report_entry}
use Rattle.rm_topn.specs.Plans.{plan_of}
use Rattle.rm_topn.specs.Times.{duration_kept, start_kept, time_kept}

-- the host at a place in the report that is kept of a row, if there is one
abbrev pub host_kept : List (Slot Course) → (row place : ℕ) → Option Ranked
host_kept courses row place = option_and_then (λ course. ranked_at place course.report.rows) (part_in courses row)

-- what a column shows of it
abbrev pub value_shown : List (Slot Course) → (row place column : ℕ) → Val
value_shown courses row place column = option_map_or (λ ranked. host_value row place ranked column) (host_kept courses row place) null

-- hostTopN at a moment
abbrev pub report_kept : List (Slot Course) → (now : ℕ) → Table
report_kept courses now =
    inner_table report_entry report_columns (is_kept_of is_shown courses now) (value_at (λ row course place column. value_shown courses row place column) courses)

-- For how many seconds a report of a row runs, by what the row was set to, and when it began: 0 where none did.
abbrev pub duration_of : Option Course → (set : ℕ) → ℕ
duration_of course set = min (option_map_or duration_kept course 0) set

abbrev pub start_of : Option Course → ℕ
start_of course = option_map_or start_kept course 0

-- how many seconds of it are left at a moment; what was set where the row keeps no report
abbrev pub time_of : Option Course → (set now : ℕ) → ℕ
time_of course set now = option_map_or (λ course. min (time_kept course now) set) course set

-- how many hosts it has at most, 0 where the row isn't valid
abbrev pub granted_of : Row ControlColumns → ℕ
granted_of row = if is_valid row.state then (plan_of row.columns).most else 0

-- for how many seconds a row was set to run a report
abbrev pub seconds_in : List (Row ControlColumns) → (row : ℕ) → ℕ
seconds_in rows row = option_map_or (λ columns. natural_of columns.seconds) (columns_in rows row) 0

-- what TimeRemaining shows of a row at a moment
abbrev pub time_shown : List (Row ControlColumns) → List (Slot Course) → (row now : ℕ) → ℕ
time_shown rows courses row now = time_of (part_in courses row) (seconds_in rows row) now

-- what the columns of hostTopNControl show beside the index that can't be set: Duration, GrantedSize and StartTime
abbrev pub other_shown : List (Row ControlColumns) → List (Slot Course) → ℕ → List ℕ → Val
other_shown rows courses column index =
    let row = row_number index in
    if nat_eq column 5 then int (pos (duration_of (part_in courses row) (seconds_in rows row)))
    else if nat_eq column 7 then int (pos (option_map_or granted_of (row_in rows row) 0))
    else ticks (start_of (part_in courses row))

-- hostTopNControl with TimeRemaining as it was set, and as it counts down
abbrev pub set_kept : List (Row ControlColumns) → List (Slot Course) → Table
set_kept rows courses = rows_shown control_rows (other_shown rows courses) rows

abbrev pub control_kept : List (Row ControlColumns) → List (Slot Course) → (now : ℕ) → Table
control_kept rows courses now = record (set_kept rows courses) {
  value = λ column index. if nat_eq column 4 then int (pos (time_shown rows courses (row_number index) now)) else (set_kept rows courses).value column index;
}

-- the cells of both at a moment
abbrev pub cells_kept : List (Row ControlColumns) → List (Slot Course) → (now : ℕ) → Cells
cells_kept rows courses now name = option_or (cells_of (control_kept rows courses now) name) (cells_of (report_kept courses now) name)

-- the row of which a name is TimeRemaining, if it is one
abbrev pub time_row : List ℕ → Option ℕ
time_row name = option_and_then (λ at. if nat_eq at.column 4 then Some (row_number at.index) else None) (instance_of control_entry control_columns name)

-- what hostTopNControl shows under a name, by what was set
abbrev pub counted : List (Row ControlColumns) → List (Slot Course) → (now : ℕ) → (name : List ℕ) → Val → Val
counted rows courses now name value = option_map_or (λ row. int (pos (time_shown rows courses row now))) (time_row name) value
