-- The tables hlHostControl and hlMatrixControl (RFC 2021, section 6), as they are shown after a journal.
use Rattle.std.specs.Prelude.{ℕ, ◌%◌, ◌^◌, List, Bool, nat_eq, if◌then◌else◌}
use Rattle.rm_val.specs.Val.{Val, counter}
use Rattle.rm_model.specs.Counting.{Counting}
use Rattle.rm_model.specs.Journal.{Journal}
use Rattle.rm_model.specs.Cells.{Table}
use Rattle.rm_model.specs.ControlRows.{no_rows}
use Rattle.rm_model.specs.ControlCells.{control_cells}
use Rattle.rm_status.specs.Rows.{row_number}
use Rattle.rm_status.specs.RowsShown.{with_index}
use Rattle.rm_layer_tables.specs.Columns.{control_columns}
use Rattle.rm_layer_tables.specs.Control.{layer_control}
use Rattle.rm_layer_tables.specs.Layer.{Layer}
use Rattle.rm_layer_tables.specs.Held.{networks_entered, networks_gone, applications_entered, applications_gone}

module _ {K G : Type 0} (layer : Layer K G) (eq : K → K → Bool) (settings : Counting) (journal : Journal) where
  -- a counter of a row, by the number of its column: rows that were entered and rows that are gone. No frame is dropped
  abbrev pub counter_of : (row column : ℕ) → ℕ
  counter_of row column =
      if nat_eq column 4 then networks_entered layer eq settings journal row
      else if nat_eq column 5 then networks_gone layer eq settings journal row
      else if nat_eq column 8 then applications_entered layer eq settings journal row
      else if nat_eq column 9 then applications_gone layer eq settings journal row
      else 0

  -- what the columns show that can't be set. A Counter32 is shown modulo 2 ^ 32
  abbrev pub control_other : ℕ → List ℕ → Val
  control_other column index = counter (counter_of (row_number index) column % 2 ^ 32)

  -- the table after a journal
  abbrev pub control_table : Table
  control_table = control_cells (layer_control layer.control) no_rows control_columns (with_index control_other) journal
