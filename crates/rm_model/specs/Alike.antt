-- Rows that are alike to a Set, however their columns are kept.
use Rattle.std.specs.Prelude.{◌≡◌, ℕ, true, false, Option, is_some, unwrap_or}
use Rattle.std.specs.List.{AllByRecursion}
use Rattle.rm_val.specs.Val.{Val}
use Rattle.rm_model.specs.ControlTable.{Column, ControlTable, row_index, default_of}
use Rattle.rm_model.specs.ControlRows.{Beginning, is_absent}

-- A column shows the same in both, and where a row needs it, it was set in both or in neither. One that has a default may
-- count as set to it.
pub record IsSameColumn (table : ControlTable) (set other : ℕ → Option Val) (column : Column) : Type 0 where
  pub shown : unwrap_or (set column.number) (default_of table column.number) ≡ unwrap_or (other column.number) (default_of table column.number)
  pub needed : column.needed ≡ true → is_some (set column.number) ≡ is_some (other column.number)

-- each column of a row is the same in both
abbrev pub HasSameColumns : ControlTable → (ℕ → Option Val) → (ℕ → Option Val) → Type 0
HasSameColumns table set other = AllByRecursion (IsSameColumn table set other) table.columns

-- the same rows are there, in the same states and with the same columns
pub record AreAlike (table : ControlTable) (rows others : Beginning) : Type 0 where
  pub states : (row : ℕ) → rows.state (row_index table row) ≡ others.state (row_index table row)
  pub columns : (row : ℕ) → is_absent (rows.state (row_index table row)) ≡ false → HasSameColumns table (rows.set (row_index table row)) (others.set (row_index table row))
