-- In which form the rows of a control table are kept.
use Rattle.std.specs.Prelude.{◌≡◌, ℕ, ◌+◌, List, [], ◌∷◌, length, Bool, true, false, ◌&&◌, nat_eq, nat_le, if◌then◌else◌, Option, Some, None, IsTrue}
use Rattle.rm_val.specs.Val.{Val}
use Rattle.rm_model.specs.Alike.{HasSameColumns}
use Rattle.rm_model.specs.ControlTable.{ControlTable, row_index}
use Rattle.rm_model.specs.Judgement.{column_kind, value_fault, is_sound}
use Rattle.rm_model.specs.Sheet.{are_apart}
use Rattle.rm_group.specs.Search.{are_rising}

-- whether numbers begin with 1.3, and are few enough for the name of a cell whose index has so many numbers at most
abbrev pub can_name : (longest : ℕ) → List ℕ → Bool
can_name longest (first ∷ second ∷ more) = nat_eq first 1 && (nat_eq second 3 && nat_le (length more + longest) 125)
can_name longest (first ∷ []) = false
can_name longest [] = false

-- What is fixed of the rows of a control table that a type keeps.
pub record RowForm (C : Type 0) : Type 0 where
  -- the table, and the numbers of all its columns
  pub table : ControlTable
  pub shown : List ℕ
  -- what each writable column was set to; one that has a default may count as set to it from the beginning
  pub set_to : C → ℕ → Option Val
  -- a new row, by its number, and a row with one of its columns set
  pub blank : ℕ → C
  pub with_column : C → ℕ → Val → C
  -- a column of a new row shows what it is set to at first, or its default; and isn't set where a row needs it and it isn't at first
  pub blank_alike : (index : ℕ) → HasSameColumns table (set_to (blank index)) (table.rules.first (row_index table index))
  -- a column that is set has the value that it was set to, and the others have theirs
  pub set_with : (row : C) (n other : ℕ) (value : Val) → value_fault (column_kind table n) value ≡ None → set_to (with_column row n value) other ≡ (if nat_eq n other then Some value else set_to row other)
  -- the status isn't among the other columns, and each of these takes its default, or a row needs it
  pub sound : IsTrue (is_sound table)
  -- no two columns have one number
  pub apart : are_apart table.columns ≡ true
  -- the columns rise, and a cell can be named
  pub rising : IsTrue (are_rising shown)
  pub named : IsTrue (can_name table.indexing.longest table.entry)
