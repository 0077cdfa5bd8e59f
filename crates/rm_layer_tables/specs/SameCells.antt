-- What rows and parts show is what the tables show after the journal.
use Rattle.std.proofs.Common.{◌≡◌, ℕ, ◌%◌, ◌^◌, Bool, cond, nat_eq, List, [], ◌∷◌, Option, Some, None, sym, ap}
use Rattle.std.specs.Prelude.{pos}
use Rattle.std.specs.Option.{option_map_or}
use Rattle.rm_val.specs.Val.{int, counter}
use Rattle.rm_model.specs.Counting.{Counting}
use Rattle.rm_model.specs.Journal.{Journal}
use Rattle.rm_model.specs.Cells.{cells_of}
use Rattle.rm_model.specs.ControlRows.{no_rows, is_valid}
use Rattle.rm_status.specs.declared.row.Row.{Row}
use Rattle.rm_status.specs.Rows.{row_in, AreControlRows}
use Rattle.rm_status.specs.KeptCells.{kept_cells}
use Rattle.rm_status.specs.RowsShown.{with_index}
use Rattle.rm_status.specs.RowsAfter.{AreRowsAfter}
use Rattle.rm_status.proofs.RowFacts.{row_there}
use Rattle.rm_status.proofs.KeptCellsLaws.{same_control_cells}
use Rattle.rm_pool.specs.declared.slot.Slot.{Slot}
use Rattle.rm_pool.specs.Slots.{part_in}
use Rattle.rm_collect.specs.Rows.{IsKept}
use Rattle.rm_evicting.specs.Held.{IsExact}
use Rattle.rm_upper.specs.LayerTable.{LayerTable}
use Rattle.rm_upper.specs.Tally.{Tally}
use Rattle.rm_layer_tables.specs.Columns.{control_columns}
use Rattle.rm_layer_tables.specs.Control.{layer_control}
use Rattle.rm_layer_tables.specs.ControlColumns.{set_to}
use Rattle.rm_layer_tables.specs.ControlCells.{counter_of, control_other, control_table}
use Rattle.rm_layer_tables.specs.Held.{network_rows, application_rows}
use Rattle.rm_layer_tables.specs.HeldLaws.{network_shows, application_shows, counter_is, no_network, no_application, no_count}
use Rattle.rm_layer_tables.specs.Indexes.{KeyForm, network_place, application_place}
use Rattle.rm_layer_tables.specs.Kept.{network_counted, application_counted, kept_counter, kept_networks, kept_applications, kept_other}
use Rattle.rm_layer_tables.specs.Layer.{Layer, NamesFew}
use Rattle.rm_layer_tables.specs.SameRows.{IsShown, same_rows}
use Rattle.rm_layer_tables.specs.Shown.{column_of, AddsUp}
use Rattle.rm_layer_tables.specs.Standing.{IsHeld}
use Rattle.rm_layer_tables.specs.Tables.{MarkedTable, networks_after, applications_after}
use Rattle.rm_layer_tables.specs.declared.layer_columns.LayerColumns.{LayerColumns}

-- Parts whose tables are those of a journal, and none for a control row that isn't active.
module _ {P K N A : Type 0} (layer : Layer K N) (few : NamesFew layer) (tally : Tally N A) (eq : K → K → Bool) (exact : IsExact eq) (form : KeyForm K) (table_of : P → LayerTable K N A)
    (is_of : Counting → Journal → (row : ℕ) → P → Type 0) (settings : Counting) (journal : Journal)
    (holds : (row : ℕ) (part : P) → is_of settings journal row part → IsHeld layer tally eq settings journal row (table_of part))
    (parts : List (Slot P)) (are : (row : ℕ) → IsKept (layer_control layer.control) is_of settings journal row (part_in parts row)) where
  -- network rows
  module _ (table : MarkedTable N) (counted_in : (column : ℕ) → N → ℕ) (adds : AddsUp tally.blank tally.add counted_in table.count) (now : ℕ) where
    networks_shown : (row : ℕ) (o : Option P) → IsKept (layer_control layer.control) is_of settings journal row o
        → IsShown (network_place form) (λ part. network_counted eq (table_of part)) (column_of table counted_in) table (network_rows layer eq settings journal) now row o
    networks_shown row None idle = no_network layer eq settings journal row idle
    networks_shown row (Some part) is =
        λ mark key column. network_shows layer few tally eq exact settings journal row (table_of part) (ap is_valid is.0) (holds row part is.1) table counted_in adds now mark key column

    pub same_networks : (name : List ℕ) → cells_of (kept_networks form eq table_of parts table counted_in now) name ≡ cells_of (networks_after layer eq form table settings journal now) name
    same_networks =
        same_rows (network_place form) (λ part. network_counted eq (table_of part)) (column_of table counted_in) table (network_rows layer eq settings journal) now parts
        (λ row. networks_shown row (part_in parts row) (are row))

  -- application rows
  module _ (table : MarkedTable N) (counted_in : (column : ℕ) → A → ℕ) (adds : AddsUp tally.none tally.more counted_in table.count) (now : ℕ) where
    applications_shown : (row : ℕ) (o : Option P) → IsKept (layer_control layer.control) is_of settings journal row o
        → IsShown (application_place form) (λ part. application_counted eq (table_of part)) (column_of table counted_in) table (application_rows layer eq settings journal) now row o
    applications_shown row None idle = no_application layer eq settings journal row idle
    applications_shown row (Some part) is =
        λ mark x column. application_shows layer few tally eq exact settings journal row (table_of part) (ap is_valid is.0) (holds row part is.1) table counted_in adds now mark x column

    pub same_applications : (name : List ℕ) → cells_of (kept_applications form eq table_of parts table counted_in now) name ≡ cells_of (applications_after layer eq form table settings journal now) name
    same_applications =
        same_rows (application_place form) (λ part. application_counted eq (table_of part)) (column_of table counted_in) table (application_rows layer eq settings journal) now parts
        (λ row. applications_shown row (part_in parts row) (are row))

  -- the control table
  counts_are : (row column : ℕ) (o : Option P) → IsKept (layer_control layer.control) is_of settings journal row o
      → option_map_or (λ part. kept_counter eq (table_of part) column) o 0 ≡ counter_of layer eq settings journal row column
  counts_are row column None idle = sym (no_count layer eq settings journal row idle column)
  counts_are row column (Some part) is = counter_is layer few tally eq exact settings journal row (table_of part) (ap is_valid is.0) (holds row part is.1) column

  module _ {T : Type 0} (rows : List (Row (LayerColumns T))) (held : AreControlRows (layer_control layer.control) rows) (is : AreRowsAfter (layer_control layer.control) no_rows set_to rows journal) where
    same_other : (column i : ℕ) (row : Row (LayerColumns T)) → row_in rows i ≡ Some row
        → with_index (kept_other eq table_of parts) column (i ∷ []) ≡ with_index (control_other layer eq settings journal) column (i ∷ [])
    same_other column i row here = λ d. cond (nat_eq column 1) (int (pos i)) (counter (counts_are i column (part_in parts i) (are i) d % 2 ^ 32))

    pub same_control : (name : List ℕ)
        → cells_of (kept_cells (layer_control layer.control) set_to control_columns (with_index (kept_other eq table_of parts)) rows) name ≡ cells_of (control_table layer eq settings journal) name
    same_control =
        same_control_cells (layer_control layer.control) no_rows set_to rows held journal is control_columns (with_index (kept_other eq table_of parts)) (with_index (control_other layer eq settings journal))
        (λ i row here. row_there (layer_control layer.control) rows i row held here) same_other
