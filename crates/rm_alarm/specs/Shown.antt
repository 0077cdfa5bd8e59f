-- What the rows that are kept show.
use Rattle.std.specs.Prelude.{ℕ, ℤ, pos, List, Option, Some, None, unwrap_or}
use Rattle.std.specs.Option.{option_map_or}
use Rattle.rm_val.specs.Val.{Val, int}
use Rattle.rm_model.specs.Cells.{Table}
use Rattle.rm_acts.specs.Alarms.{saturated}
use Rattle.rm_status.specs.declared.row.Row.{Row}
use Rattle.rm_status.specs.RowsShown.{rows_shown}
use Rattle.rm_status.specs.Rows.{row_in, row_number}
use Rattle.rm_alarm.specs.declared.course.Course.{Course}
use Rattle.rm_alarm.specs.declared.row.AlarmRow.{AlarmRow}
use Rattle.rm_alarm.specs.RowForm.{alarm_rows}

-- the value of the last sample, 0 where there is none
abbrev pub last_value : Option Course → ℤ
last_value (Some course) = unwrap_or course.hysteresis.last (pos 0)
last_value None = pos 0

-- what the column shows beside the index that can't be set
abbrev pub kept_other : List (Row AlarmRow) → ℕ → List ℕ → Val
kept_other rows column index =
    int (saturated (option_map_or (λ row. last_value row.columns.course) (row_in rows (row_number index)) (pos 0)))

-- the table with these rows
abbrev pub rows_table : List (Row AlarmRow) → Table
rows_table rows = rows_shown alarm_rows (kept_other rows) rows
