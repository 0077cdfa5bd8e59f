-- The inner rows that the parts of a pool show by the keys of these rows.
use Rattle.std.specs.Prelude.{◌≡◌, ℕ, List, [], ◌∷◌, Bool, true, false, if◌then◌else◌, Option, Some, None, option_map, is_some, refl}
use Rattle.std.proofs.Common.{ap}
use Rattle.std.specs.Option.{option_map_or, option_and_then}
use Rattle.rm_val.specs.Val.{Val, null}
use Rattle.rm_model.specs.Cells.{Table}
use Rattle.rm_pool.specs.declared.slot.Slot.{Slot}
use Rattle.rm_pool.specs.Slots.{part_in}
use Rattle.rm_nested.specs.InnerTable.{inner_table}

-- `key_at` is the key of the row that has an index in a part, and `value_of` what a column shows of a key. The table may have no row at some
-- moments, as those of RFC 2021 do while sysUpTime is 0: it is open otherwise.
module _ {P K : Type 0} (key_at : P → List ℕ → Option K) where
  -- the key of the row with that index, if the part of its control row is kept
  abbrev pub key_in : (opened : Bool) → Option P → List ℕ → Option K
  key_in opened o index = if opened then option_and_then (λ part. key_at part index) o else None

  module _ (value_of : (row : ℕ) → P → K → (column : ℕ) → Val) where
    -- what a column shows of it
    abbrev pub value_in : (row : ℕ) → Option P → List ℕ → (column : ℕ) → Val
    value_in row o index column = option_map_or (λ part. option_map_or (λ key. value_of row part key column) (key_at part index) null) o null

    abbrev pub value_shown : List (Slot P) → (column : ℕ) → List ℕ → Val
    value_shown parts column [] = null
    value_shown parts column (row ∷ index) = value_in row (part_in parts row) index column

    -- the table that the parts show, with this entry and these columns
    abbrev pub parts_table : (opened : Bool) → (entry columns : List ℕ) → List (Slot P) → Table
    parts_table opened entry columns parts = inner_table entry columns (λ row index. is_some (key_in opened (part_in parts row) index)) (value_shown parts)

    -- its cell in a column of the row with that index
    abbrev pub cell_in : (opened : Bool) → (row : ℕ) → Option P → List ℕ → (column : ℕ) → Option Val
    cell_in opened row o index column =
        if opened then option_and_then (λ part. option_map (λ key. value_of row part key column) (key_at part index)) o else None

-- no index is that of a row, where there is no part, and an empty one never is, where it isn't in any part
pub no_part : {P K : Type 0} (key_at : P → List ℕ → Option K) (opened : Bool) (o : Option P) (index : List ℕ) → is_some o ≡ false → is_some (key_in key_at opened o index) ≡ false
no_part key_at false o index none = refl
no_part key_at true None index none = refl
no_part key_at true (Some part) index none = absurd (cc)

pub no_empty : {P K : Type 0} (key_at : P → List ℕ → Option K) → ((part : P) → key_at part [] ≡ None) → (opened : Bool) (o : Option P) → is_some (key_in key_at opened o []) ≡ false
no_empty key_at none false o = refl
no_empty key_at none true None = refl
no_empty key_at none true (Some part) = ap is_some (none part)
