-- Tables whose rows have two numbers each, cell by cell.
use Rattle.std.proofs.Common.{◌≡◌, ℕ, List, [], ◌∷◌, Bool, cond, Option, Some, None, refl}
use Rattle.rm_val.specs.Val.{Val}
use Rattle.rm_model.specs.Cells.{Table, cells_of, cell_at, instance_of}
use Rattle.rm_model.specs.declared.instance.Instance.{Instance}
use Rattle.rm_nested.specs.InnerTable.{numbered_table}

-- one of them shows what another does, where it does at each two numbers
module _ (entry columns : List ℕ) (is_row : ℕ → ℕ → Bool) (value : ℕ → ℕ → ℕ → Val) (is_other : ℕ → ℕ → Bool) (other : ℕ → ℕ → ℕ → Val)
    (same : (row number column : ℕ) → cond (is_row row number) (Some (value row number column)) None ≡ cond (is_other row number) (Some (other row number column)) None) where
  abbrev shown : Table
  shown = numbered_table entry columns is_row value

  abbrev table : Table
  table = numbered_table entry columns is_other other

  at_index : (column : ℕ) (index : List ℕ) → cell_at shown (Some (record { column = column; index = index })) ≡ cell_at table (Some (record { column = column; index = index }))
  at_index column [] = refl
  at_index column (row ∷ []) = refl
  at_index column (row ∷ number ∷ []) = same row number column
  at_index column (row ∷ number ∷ next ∷ more) = refl

  at_instance : (at : Option Instance) → cell_at shown at ≡ cell_at table at
  at_instance None = refl
  at_instance (Some at) = at_index at.column at.index

  pub same_numbered : (name : List ℕ) → cells_of shown name ≡ cells_of table name
  same_numbered name = at_instance (instance_of entry columns name)
