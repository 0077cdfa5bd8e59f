-- What is kept of the rows of a control row, by their indexes behind its number.
use Rattle.std.specs.Prelude.{ℕ, ◌-◌, ◌%◌, ◌^◌, List, length, Bool, false, nat_eq, nat_le, if◌then◌else◌, Option, Some, None}
use Rattle.std.specs.Option.{option_map_or}
use Rattle.rm_val.specs.Val.{Val, counter, null}
use Rattle.rm_model.specs.Cells.{Table}
use Rattle.rm_pool.specs.declared.slot.Slot.{Slot}
use Rattle.rm_pool.specs.Slots.{part_in}
use Rattle.rm_status.specs.Rows.{row_number}
use Rattle.rm_keyed.specs.PartRows.{parts_table}
use Rattle.rm_rows.specs.Table.{row_of}
use Rattle.rm_upper.specs.declared.counts.Counted.{Counted}
use Rattle.rm_upper.specs.Cells.{network_in, application_in_row}
use Rattle.rm_upper.specs.Count.{held_by_keys}
use Rattle.rm_upper.specs.LayerTable.{LayerTable}
use Rattle.rm_layer_tables.specs.Held.{is_up}
use Rattle.rm_layer_tables.specs.Indexes.{KeyForm, network_place, application_place}
use Rattle.rm_layer_tables.specs.Shown.{column_of}
use Rattle.rm_layer_tables.specs.Tables.{MarkedTable}

module _ {K N A : Type 0} (eq : K → K → Bool) (table : LayerTable K N A) where
  -- what the network row of a key has counted, and the application row of a protocol in it
  abbrev pub network_counted : K → Option (Counted N)
  network_counted key = network_in (row_of eq key table.layered.table.rows)

  abbrev pub application_counted : K × ℕ → Option (Counted A)
  application_counted x = application_in_row table.layered.slots x.1 (row_of eq x.0 table.layered.table.rows)

  -- what a column of the control table counts that can't be set: network rows and application rows that were entered, and how many of these are
  -- gone. No frame is dropped
  abbrev pub kept_counter : (column : ℕ) → ℕ
  kept_counter column =
      if nat_eq column 4 then table.layered.network_inserts
      else if nat_eq column 5 then table.layered.network_inserts - length table.layered.table.rows
      else if nat_eq column 8 then table.layered.application_inserts
      else if nat_eq column 9 then table.layered.application_inserts - held_by_keys eq table.layered table.layered.table.rows
      else 0

-- a row is there, and its last contribution didn't come before a mark
abbrev pub lasts_to : {S : Type 0} → (mark : ℕ) → Option (Counted S) → Bool
lasts_to mark None = false
lasts_to mark (Some counted) = nat_le mark counted.tick

-- `place_of` is the mark and the row that numbers name, and `counted` what a part has counted of a row
module _ {P X S : Type 0} (place_of : List ℕ → Option (ℕ × X)) (counted : P → X → Option (Counted S)) where
  -- the row at a place, and that with an index
  abbrev pub at_place : P → Option (ℕ × X) → Option X
  at_place part None = None
  at_place part (Some place) = if lasts_to place.0 (counted part place.1) then Some place.1 else None

  abbrev pub row_with : P → (numbers : List ℕ) → Option X
  row_with part numbers = at_place part (place_of numbers)

  -- what a column shows of a row
  abbrev pub kept_value : (shown : Counted S → (column : ℕ) → Val) → (row : ℕ) → P → X → (column : ℕ) → Val
  kept_value shown row part x column = option_map_or (λ one. shown one column) (counted part x) null

-- `table_of` is what a part holds
module _ {P K N A : Type 0} (form : KeyForm K) (eq : K → K → Bool) (table_of : P → LayerTable K N A) (parts : List (Slot P)) where
  -- a table of network rows, and one of application rows, as the parts show them at a moment in milliseconds
  abbrev pub kept_networks : MarkedTable N → (counted_in : (column : ℕ) → N → ℕ) → (now : ℕ) → Table
  kept_networks table counted_in now =
      parts_table (row_with (network_place form) (λ part. network_counted eq (table_of part)))
      (kept_value (network_place form) (λ part. network_counted eq (table_of part)) (column_of table counted_in)) (is_up now) table.entry table.columns parts

  abbrev pub kept_applications : MarkedTable N → (counted_in : (column : ℕ) → A → ℕ) → (now : ℕ) → Table
  kept_applications table counted_in now =
      parts_table (row_with (application_place form) (λ part. application_counted eq (table_of part)))
      (kept_value (application_place form) (λ part. application_counted eq (table_of part)) (column_of table counted_in)) (is_up now) table.entry table.columns parts

-- what the columns of the control table show that can't be set, the index left out
abbrev pub kept_other : {P K N A : Type 0} → (K → K → Bool) → (P → LayerTable K N A) → List (Slot P) → (column : ℕ) → List ℕ → Val
kept_other eq table_of parts column index = counter (option_map_or (λ part. kept_counter eq (table_of part) column) (part_in parts (row_number index)) 0 % 2 ^ 32)
