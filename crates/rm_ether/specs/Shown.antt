-- What the rows that are kept show.
use Rattle.std.specs.Prelude.{ℕ, ◌%◌, ◌^◌, List}
use Rattle.std.specs.Option.{option_map_or}
use Rattle.rm_val.specs.Val.{Val, counter}
use Rattle.rm_model.specs.Cells.{Table}
use Rattle.rm_status.specs.declared.row.Row.{Row}
use Rattle.rm_status.specs.RowsShown.{rows_shown}
use Rattle.rm_status.specs.Rows.{row_in, row_number}
use Rattle.rm_ether.specs.declared.row.StatisticsRow.{StatisticsRow}
use Rattle.rm_ether.specs.Columns.{counter_numbered}
use Rattle.rm_ether.specs.Standing.{counter_of}
use Rattle.rm_ether.specs.StatisticsRows.{statistics_rows}

-- what the columns show beside the index that can't be set
abbrev pub kept_other : List (Row StatisticsRow) → ℕ → List ℕ → Val
kept_other rows column index =
    counter (option_map_or (λ row. counter_of row.columns.statistics (counter_numbered column)) (row_in rows (row_number index)) 0 % 2 ^ 32)

-- the table with these rows
abbrev pub rows_table : List (Row StatisticsRow) → Table
rows_table rows = rows_shown statistics_rows (kept_other rows) rows
