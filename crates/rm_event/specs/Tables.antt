-- What eventTable and logTable show after a journal (RFC 1757, section 5).
use Rattle.std.specs.Prelude.{ℕ, pos, ◌+◌, ◌-◌, List, [], ◌∷◌, length, Bool, ◌&&◌, nat_eq, nat_le, nat_lt, slice_get, if◌then◌else◌}
use Rattle.std.specs.Option.{option_map_or}
use Rattle.rm_val.specs.Val.{Val, int, ticks}
use Rattle.rm_model.specs.Counting.{Counting}
use Rattle.rm_model.specs.Journal.{Journal}
use Rattle.rm_model.specs.Cells.{Table}
use Rattle.rm_model.specs.ControlRows.{no_rows, is_valid}
use Rattle.rm_model.specs.ControlCells.{control_cells}
use Rattle.rm_group.specs.Listed.{ListedTable}
use Rattle.rm_status.specs.RowsShown.{with_index}
use Rattle.rm_status.specs.Rows.{row_number}
use Rattle.rm_nested.specs.InnerTable.{numbered_table}
use Rattle.rm_event.specs.Columns.{event_columns, log_columns}
use Rattle.rm_event.specs.EventTable.{event_table, event_state, event_set, type_of}
use Rattle.rm_acts.specs.Fired.{firings}
use Rattle.rm_event.specs.Firings.{last_sent, logged, tick_of, most_shown}

-- what the column shows beside the index that can't be set: eventLastTimeSent
abbrev pub event_other : Counting → Journal → ℕ → List ℕ → Val
event_other settings journal column index = ticks (last_sent (firings settings journal (row_number index)))

-- eventTable after a journal
abbrev pub events_table : Counting → Journal → Table
events_table settings journal = control_cells event_table no_rows event_columns (with_index (event_other settings journal)) journal

-- the identifier of logEntry
abbrev pub log_entry : List ℕ
log_entry = 1 ∷ 3 ∷ 6 ∷ 1 ∷ 2 ∷ 1 ∷ 16 ∷ 9 ∷ 2 ∷ 1 ∷ []

-- logTable, as the group lists it
abbrev pub log_listed : ListedTable
log_listed = record { entry = log_entry; columns = log_columns }

-- the moments of the entries of an event's log, the newest first
abbrev pub log_of : Counting → Journal → ℕ → List ℕ
log_of settings journal event = logged (type_of journal event) (firings settings journal event)

-- whether a number is that of one of the last entries of a log with so many
abbrev pub is_shown : ℕ → ℕ → Bool
is_shown entries number = nat_le 1 number && (nat_le number entries && nat_lt entries (number + most_shown))

-- the tick of the entry with a number, in a log of these moments, the newest first
abbrev pub time_at : List ℕ → ℕ → ℕ
time_at moments number = option_map_or tick_of (slice_get moments (length moments - number)) 0

-- whether these numbers are those of an event whose row is valid and of an entry of its log that is shown
abbrev pub is_entry : Counting → Journal → (event number : ℕ) → Bool
is_entry settings journal event number = is_valid (event_state journal (event ∷ [])) && is_shown (length (log_of settings journal event)) number

-- what a column of an entry shows
abbrev pub log_value : Counting → Journal → (event number column : ℕ) → Val
log_value settings journal event number column =
    if nat_eq column 1 then int (pos event)
    else if nat_eq column 2 then int (pos number)
    else if nat_eq column 3 then ticks (time_at (log_of settings journal event) number)
    else event_set journal (event ∷ []) 2

-- logTable after a journal
abbrev pub log_table : Counting → Journal → Table
log_table settings journal = numbered_table log_entry log_columns (is_entry settings journal) (log_value settings journal)
