-- What the rows and the logs that are kept show.
use Rattle.std.specs.Prelude.{ℕ, pos, List, Bool, nat_eq, if◌then◌else◌}
use Rattle.std.specs.Option.{option_or, option_map_or}
use Rattle.rm_val.specs.Val.{Val, int, octets, ticks, null}
use Rattle.rm_model.specs.Cells.{Cells, Table, cells_of}
use Rattle.rm_status.specs.RowsShown.{rows_shown}
use Rattle.rm_status.specs.declared.row.Row.{Row}
use Rattle.rm_status.specs.Rows.{columns_in, row_number}
use Rattle.rm_nested.specs.InnerTable.{inner_table}
use Rattle.rm_nested.specs.NumberedRows.{is_kept_of, value_at}
use Rattle.rm_event.specs.declared.event_row.EventRow.{EventRow}
use Rattle.rm_event.specs.EventRows.{event_rows}
use Rattle.rm_event.specs.declared.log.Log.{Log}
use Rattle.rm_pool.specs.declared.slot.Slot.{Slot}
use Rattle.rm_event.specs.Columns.{log_columns}
use Rattle.rm_event.specs.Tables.{log_entry, is_shown}
use Rattle.rm_event.specs.Log.{kept_time}
use Rattle.rm_pool.specs.Slots.{part_in}

-- when the event of a row fired last, 0 where it has no log
abbrev pub sent_in : List (Slot Log) → ℕ → ℕ
sent_in logs row = option_map_or (λ log. log.sent) (part_in logs row) 0

-- what the column of eventTable shows beside the index that can't be set
abbrev pub kept_other : List (Slot Log) → ℕ → List ℕ → Val
kept_other logs column index = ticks (sent_in logs (row_number index))

-- eventTable with these rows and logs
abbrev pub rows_table : List (Row EventRow) → List (Slot Log) → Table
rows_table rows logs = rows_shown event_rows (kept_other logs) rows

-- the description of an event, if there is a row of it
abbrev pub description_in : List (Row EventRow) → ℕ → Val
description_in rows event = option_map_or (λ columns. octets columns.description.items) (columns_in rows event) null

-- whether a log shows the entry with a number, at any moment
abbrev pub shows : Log → ℕ → ℕ → Bool
shows log now number = is_shown log.added number

-- what a column of an entry shows, by its log and the rows
abbrev pub entry_value : List (Row EventRow) → ℕ → Log → ℕ → ℕ → Val
entry_value rows event log number column =
    if nat_eq column 1 then int (pos event)
    else if nat_eq column 2 then int (pos number)
    else if nat_eq column 3 then ticks (kept_time log number)
    else description_in rows event

-- logTable with these rows and logs, at the moment 0 as at any other
abbrev pub logs_table : List (Row EventRow) → List (Slot Log) → Table
logs_table rows logs = inner_table log_entry log_columns (is_kept_of shows logs 0) (value_at (entry_value rows) logs)

-- the cells of both
abbrev pub cells_shown : List (Row EventRow) → List (Slot Log) → Cells
cells_shown rows logs asked = option_or (cells_of (rows_table rows logs) asked) (cells_of (logs_table rows logs) asked)
