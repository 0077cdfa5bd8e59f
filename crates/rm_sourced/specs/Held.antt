-- The keys that a control row holds after a journal, and a table that shows them.
use Rattle.std.specs.Prelude.{ℕ, List, [], ◌∷◌, Option, is_some}
use Rattle.std.specs.Option.{option_map_or}
use Rattle.rm_val.specs.Val.{Val, null}
use Rattle.rm_model.specs.Counting.{Counting}
use Rattle.rm_model.specs.Journal.{Journal}
use Rattle.rm_model.specs.Cells.{Table}
use Rattle.rm_group.specs.Listed.{ListedTable}
use Rattle.rm_nested.specs.InnerTable.{inner_table}
use Rattle.rm_keyed.specs.Held.{key_of_index}
use Rattle.rm_keyed.specs.SourceControl.{TableEntry}
use Rattle.rm_sourced.specs.Sourcing.{Sourcing, mentions_of}

module _ (entry : TableEntry) {K C R : Type 0} (sourcing : Sourcing K C R) where
  -- the key that has these numbers for its index, by what the index of a key is, if one that is held has them
  abbrev pub held_with : Counting → Journal → (row : ℕ) → (K → List ℕ) → List ℕ → Option K
  held_with settings journal row index numbers = key_of_index sourcing.eq (sourcing.room settings) (mentions_of entry sourcing settings journal row) index numbers

  -- by what the index of a key is in a control row, and what a column shows of it
  module _ (index : Counting → Journal → (row : ℕ) → K → List ℕ) (value : Counting → Journal → (row : ℕ) → K → (column : ℕ) → Val) where
    abbrev pub held_value : Counting → Journal → (column : ℕ) → List ℕ → Val
    held_value settings journal column [] = null
    held_value settings journal column (row ∷ numbers) =
        option_map_or (λ key. value settings journal row key column) (held_with settings journal row (index settings journal row) numbers) null

    -- the table after a journal
    abbrev pub held_table : ListedTable → Counting → Journal → Table
    held_table listed settings journal =
        inner_table listed.entry listed.columns (λ row numbers. is_some (held_with settings journal row (index settings journal row) numbers)) (held_value settings journal)
