-- What the rows of the distribution that are held show.
use Rattle.std.specs.Prelude.{ℕ, ◌/◌, List, [], ◌∷◌, Bool, nat_eq, is_some, if◌then◌else◌, Option, Some, None}
use Rattle.std.specs.Option.{option_and_then, option_map, option_map_or, option_or}
use Rattle.rm_val.specs.Val.{Val, counter, gauge, ticks, null}
use Rattle.rm_model.specs.Cells.{Cells, Table, cells_of}
use Rattle.rm_model.specs.Names.{IsLeastAbove}
use Rattle.rm_status.specs.declared.row.Row.{Row}
use Rattle.rm_status.specs.Rows.{columns_in, row_number}
use Rattle.rm_status.specs.RowsShown.{rows_shown}
use Rattle.rm_nested.specs.InnerTable.{numbered_table}
use Rattle.rm_nested.specs.Nested.{is_number}
use Rattle.rm_dist.specs.declared.count.Count.{Count}
use Rattle.rm_dist.specs.declared.row.DistributionRow.{DistributionRow}
use Rattle.rm_dist.specs.declared.row.Tally.{Tally}
use Rattle.rm_dist.specs.Columns.{stats_columns}
use Rattle.rm_dist.specs.ControlColumns.{control_rows}
use Rattle.rm_dist.specs.Counts.{count_in}
use Rattle.rm_dist.specs.DistStats.{stats_entry}

-- what a row has counted since it became active, if it is active
abbrev pub tally_in : List (Row DistributionRow) → (row : ℕ) → Option Tally
tally_in rows row = option_and_then (λ columns. columns.tally) (columns_in rows row)

-- when a row became active, 0 where it isn't
abbrev pub since_in : List (Row DistributionRow) → (row : ℕ) → ℕ
since_in rows row = option_map_or (λ tally. tally.since) (tally_in rows row) 0

-- what the columns of protocolDistControl show that can't be set
abbrev pub kept_other : List (Row DistributionRow) → (column : ℕ) → List ℕ → Val
kept_other rows column index = if nat_eq column 3 then counter 0 else ticks (since_in rows (row_number index) / 10)

-- protocolDistControl
abbrev pub control_kept : List (Row DistributionRow) → Table
control_kept rows = rows_shown control_rows (kept_other rows) rows

-- what a row has counted of each protocol
abbrev pub counts_kept : List (Row DistributionRow) → (row : ℕ) → Option (List Count)
counts_kept rows row = option_map (λ tally. tally.counts) (tally_in rows row)

-- and of the protocol with a local index
abbrev pub count_kept : List (Row DistributionRow) → (row local : ℕ) → Option Count
count_kept rows row local = option_and_then (λ counts. count_in counts local) (counts_kept rows row)

abbrev pub has_count : List (Row DistributionRow) → (row local : ℕ) → Bool
has_count rows row local = is_some (count_kept rows row local)

-- the least inner index above some numbers: a local index that passes a test
abbrev pub IsLocalAfter : (ℕ → Bool) → List ℕ → Option ℕ → Type 0
IsLocalAfter test index local = IsLeastAbove (is_number test) index (option_map (λ n. n ∷ []) local)

-- what a column of protocolDistStats shows
abbrev pub count_value : Option Count → (column : ℕ) → Val
count_value None column = null
count_value (Some count) column = gauge (if nat_eq column 1 then count.packets else count.octets)

abbrev pub value_kept : List (Row DistributionRow) → (row local column : ℕ) → Val
value_kept rows row local column = count_value (count_kept rows row local) column

-- protocolDistStats
abbrev pub stats_kept : List (Row DistributionRow) → Table
stats_kept rows = numbered_table stats_entry stats_columns (has_count rows) (value_kept rows)

-- the cells of both
abbrev pub cells_kept : List (Row DistributionRow) → Cells
cells_kept rows name = option_or (cells_of (control_kept rows) name) (cells_of (stats_kept rows) name)
