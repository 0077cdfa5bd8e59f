-- What parts show, cell by cell.
use Rattle.std.proofs.Common.{◌≡◌, ℕ, List, [], ◌∷◌, Bool, true, false, cond, Option, Some, None, refl, sym, ap, ◌∙◌, option_map}
use Rattle.std.specs.Prelude.{is_some}
use Rattle.std.specs.Option.{option_map_or}
use Rattle.rm_val.specs.Val.{Val, null}
use Rattle.rm_model.specs.Cells.{Table, cells_of, cell_at, instance_of}
use Rattle.rm_model.specs.declared.instance.Instance.{Instance}
use Rattle.rm_pool.specs.declared.slot.Slot.{Slot}
use Rattle.rm_pool.specs.Slots.{part_in}
use Rattle.rm_keyed.specs.PartRows.{key_in, value_in, cell_in, parts_table}

module _ {P K : Type 0} (key_at : P → List ℕ → Option K) (value_of : (row : ℕ) → P → K → (column : ℕ) → Val) where
  cell_is : (opened : Bool) (row : ℕ) (o : Option P) (index : List ℕ) (column : ℕ)
      → cond (is_some (key_in key_at opened o index)) (Some (value_in key_at value_of row o index column)) None ≡ cell_in key_at value_of opened row o index column
  cell_is false row o index column = refl
  cell_is true row None index column = refl
  cell_is true row (Some part) index column = by_key (key_at part index)
    where
      by_key : (o : Option K) → cond (is_some o) (Some (option_map_or (λ key. value_of row part key column) o null)) None ≡ option_map (λ key. value_of row part key column) o
      by_key None = refl
      by_key (Some key) = refl

  -- parts show what a table with these objects does, where the cells of each row do
  module _ (opened : Bool) (parts : List (Slot P)) (table : Table) (not_empty : table.is_row [] ≡ false)
      (same : (row : ℕ) (index : List ℕ) (column : ℕ) → cell_in key_at value_of opened row (part_in parts row) index column ≡ cond (table.is_row (row ∷ index)) (Some (table.value column (row ∷ index))) None) where
    abbrev shown : Table
    shown = parts_table key_at value_of opened table.entry table.columns parts

    at_index : (column : ℕ) (index : List ℕ) → cell_at shown (Some (record { column = column; index = index })) ≡ cell_at table (Some (record { column = column; index = index }))
    at_index column [] = sym (ap (λ t. cond t (Some (table.value column [])) None) not_empty)
    at_index column (row ∷ index) = cell_is opened row (part_in parts row) index column ∙ same row index column

    at_instance : (at : Option Instance) → cell_at shown at ≡ cell_at table at
    at_instance None = refl
    at_instance (Some at) = at_index at.column at.index

    pub same_table : (name : List ℕ) → cells_of shown name ≡ cells_of table name
    same_table name = at_instance (instance_of table.entry table.columns name)
