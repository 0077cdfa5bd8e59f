-- Tables of inner rows.
use Rattle.std.specs.Prelude.{ℕ, List, [], ◌∷◌, Bool}
use Rattle.rm_val.specs.Val.{Val, null}
use Rattle.rm_model.specs.Cells.{Table}
use Rattle.rm_nested.specs.Nested.{is_nested, is_number}

-- the table with this entry, these columns and these inner rows, by what its columns show
abbrev pub inner_table : List ℕ → List ℕ → (ℕ → List ℕ → Bool) → (ℕ → List ℕ → Val) → Table
inner_table entry columns is_inner value = record {
  entry = entry;
  columns = columns;
  is_row = λ index. is_nested is_inner index;
  value = value;
}

-- what a column shows at an index, by what it shows of two numbers
abbrev pub numbered_value : ((row number column : ℕ) → Val) → (column : ℕ) → List ℕ → Val
numbered_value value column (row ∷ number ∷ []) = value row number column
numbered_value value column index = null

-- the table with this entry and these columns whose rows have two numbers each, by which two are those of a row and what a column shows of them
abbrev pub numbered_table : List ℕ → List ℕ → ((row number : ℕ) → Bool) → ((row number column : ℕ) → Val) → Table
numbered_table entry columns is_row value = inner_table entry columns (λ row. is_number (is_row row)) (numbered_value value)
