-- What the rows of a control table that are held show.
use Rattle.std.specs.Prelude.{ℕ, List, Option, Some, None}
use Rattle.rm_val.specs.Val.{Val, null}
use Rattle.rm_model.specs.Cells.{Table}
use Rattle.rm_model.specs.ControlTable.{ControlTable}
use Rattle.rm_model.specs.ControlCells.{control_value}
use Rattle.rm_columns.specs.Field.{shows}
use Rattle.rm_status.specs.declared.row.Row.{Row}
use Rattle.rm_status.specs.Rows.{row_in, number_in}
use Rattle.rm_status.specs.Indexes.{is_index_in}

module _ {C : Type 0} (table : ControlTable) (set_to : C → ℕ → Option Val) where
  -- what a column shows of a row that there may be
  abbrev pub kept_value : Option (Row C) → Val → ℕ → Val
  kept_value None other column = null
  kept_value (Some row) other column = control_value table row.state (shows table set_to row.columns) other column

  -- the table with these rows
  abbrev pub kept_cells : List ℕ → (ℕ → List ℕ → Val) → List (Row C) → Table
  kept_cells columns others rows = record {
    entry = table.entry;
    columns = columns;
    is_row = is_index_in table rows;
    value = λ column index. kept_value (row_in rows (number_in table index)) (others column index) column;
  }
