-- What the rows and the histories that are kept show.
use Rattle.std.specs.Prelude.{ℕ, pos, ◌/◌, ◌%◌, ◌^◌, List, Bool, nat_eq, if◌then◌else◌}
use Rattle.std.specs.Option.{option_map_or}
use Rattle.rm_val.specs.Val.{Val, int, counter, ticks}
use Rattle.rm_model.specs.Cells.{Table}
use Rattle.rm_model.specs.ControlRows.{is_valid}
use Rattle.rm_model.specs.declared.row.State.{State}
use Rattle.rm_status.specs.declared.row.Row.{Row}
use Rattle.rm_status.specs.Rows.{row_in, row_number}
use Rattle.rm_status.specs.RowsShown.{rows_shown}
use Rattle.rm_ether.specs.declared.counter.Counter.TheVariants.{Octets, Pkts}
use Rattle.rm_history.specs.declared.control_columns.ControlColumns.{ControlColumns}
use Rattle.rm_history.specs.declared.run.Run.{Run}
use Rattle.rm_history.specs.Columns.{sample_columns, counter_in}
use Rattle.rm_history.specs.ControlColumns.{control_rows}
use Rattle.rm_history.specs.HistoryControl.{granted}
use Rattle.rm_history.specs.EtherHistory.{sample_entry}
use Rattle.rm_history.specs.Buckets.{begin_of, is_shown, utilization}
use Rattle.rm_history.specs.Run.{kept_counter}
use Rattle.rm_pool.specs.declared.slot.Slot.{Slot}
use Rattle.rm_nested.specs.InnerTable.{inner_table}
use Rattle.rm_nested.specs.NumberedRows.{is_kept_of, value_at}

-- how many buckets are granted to a row, by its state and how many it requests
abbrev pub granted_in : State → ℕ → ℕ
granted_in state requested = if is_valid state then granted requested else 0

-- what the column of historyControl shows beside the index that can't be set
abbrev pub kept_other : List (Row ControlColumns) → ℕ → List ℕ → Val
kept_other rows column index =
    int (pos (option_map_or (λ row. granted_in row.state row.columns.requested) (row_in rows (row_number index)) 0))

-- historyControl with these rows
abbrev pub rows_table : List (Row ControlColumns) → Table
rows_table rows = rows_shown control_rows (kept_other rows) rows

-- whether a history shows a bucket at a moment
abbrev pub shows : Run → ℕ → ℕ → Bool
shows run now bucket = is_shown run.plan now bucket

-- what a column of a bucket shows, by the history of its row
abbrev pub bucket_value : ℕ → Run → ℕ → ℕ → Val
bucket_value row run bucket column =
    if nat_eq column 1 then int (pos row)
    else if nat_eq column 2 then int (pos bucket)
    else if nat_eq column 3 then ticks (begin_of run.plan bucket / 10)
    else if nat_eq column 15 then int (pos (utilization (kept_counter run bucket Pkts) (kept_counter run bucket Octets) run.plan.seconds))
    else counter (kept_counter run bucket (counter_in column) % 2 ^ 32)

-- etherHistory with these histories, at a moment
abbrev pub runs_table : List (Slot Run) → ℕ → Table
runs_table runs now = inner_table sample_entry sample_columns (is_kept_of shows runs now) (value_at bucket_value runs)
