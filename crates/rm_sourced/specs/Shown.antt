-- The tables that show the rows.
use Rattle.std.specs.Prelude.{ℕ, List, Bool, Option}
use Rattle.rm_val.specs.Val.{Val}
use Rattle.rm_model.specs.Counting.{Counting}
use Rattle.rm_model.specs.Journal.{Journal}
use Rattle.rm_model.specs.Cells.{Table}
use Rattle.rm_group.specs.Listed.{ListedTable}
use Rattle.rm_pool.specs.declared.slot.Slot.{Slot}
use Rattle.rm_keyed.specs.PartRows.{parts_table}
use Rattle.rm_keyed.specs.SourceControl.{TableEntry}
use Rattle.rm_sourced.specs.declared.sourced.Sourced.{Sourced}
use Rattle.rm_sourced.specs.Sourcing.{Sourcing}
use Rattle.rm_sourced.specs.Held.{held_table}

module _ {K R : Type 0} where
  -- the key of the row that has an index in the rows of a data source, and what a column shows of a key
  abbrev pub key_in_rows : (R → List ℕ → Option K) → Sourced K R → List ℕ → Option K
  key_in_rows key_at part = key_at part.rows

  abbrev pub value_in_rows : ((row : ℕ) → R → K → (column : ℕ) → Val) → (row : ℕ) → Sourced K R → K → (column : ℕ) → Val
  value_in_rows value_of row part = value_of row part.rows

-- A table that shows rows `R` by their keys `K`: as the group lists it, and whether it has rows at a moment; by the rows that are kept, the key
-- with an index, and what a column shows of a key; and after a journal, the index of a key in a control row, and what a column shows of it.
pub record ShownTable (K R : Type 0) : Type 0 where
  pub listed : ListedTable
  pub is_open : ℕ → Bool
  pub key_at : R → List ℕ → Option K
  pub value_of : (row : ℕ) → R → K → (column : ℕ) → Val
  pub index : Counting → Journal → (row : ℕ) → K → List ℕ
  pub value : Counting → Journal → (row : ℕ) → K → (column : ℕ) → Val

module _ {K R : Type 0} where
  abbrev pub shown_by : (R → List ℕ → Option K) → (ℕ → Bool) → ((row : ℕ) → R → K → (column : ℕ) → Val) → (entry columns : List ℕ)
      → (Counting → Journal → (row : ℕ) → K → List ℕ) → (Counting → Journal → (row : ℕ) → K → (column : ℕ) → Val) → ShownTable K R
  shown_by key_at is_open value_of entry columns index value = record {
    listed = record { entry = entry; columns = columns };
    is_open = is_open;
    key_at = key_at;
    value_of = value_of;
    index = index;
    value = value;
  }

  module _ (table : ShownTable K R) where
    -- as the parts show it at a moment that are kept
    abbrev pub kept_table : (now : ℕ) → List (Slot (Sourced K R)) → Table
    kept_table now parts = parts_table (key_in_rows table.key_at) (value_in_rows table.value_of) (table.is_open now) table.listed.entry table.listed.columns parts

    -- after a journal
    abbrev pub table_after : {C : Type 0} → TableEntry → Sourcing K C R → Counting → Journal → Table
    table_after entry sourcing = held_table entry sourcing table.index table.value table.listed
