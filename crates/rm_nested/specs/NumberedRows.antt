-- Inner rows that the parts of a pool show by their numbers.
use Rattle.std.proofs.Common.{ap, refl, cond}
use Rattle.std.specs.Prelude.{◌≡◌, ℕ, List, [], ◌∷◌, Bool, false, is_some, Option, Some, None}
use Rattle.std.specs.Option.{option_map_or}
use Rattle.rm_val.specs.Val.{Val, null}
use Rattle.rm_pool.specs.declared.slot.Slot.{Slot}
use Rattle.rm_pool.specs.Slots.{part_in, has_part}
use Rattle.rm_nested.specs.Nested.{is_number}
use Rattle.rm_nested.specs.InnerTable.{numbered_value}

-- By whether a part shows a number at a moment.
module _ {P : Type 0} (is_shown : P → ℕ → ℕ → Bool) where
  -- whether the part that there may be of a row shows a number at a moment
  abbrev pub shown_by : Option P → ℕ → ℕ → Bool
  shown_by part now number = option_map_or (λ part. is_shown part now number) part false

  -- whether the part of a row shows a number at a moment, if the row has one
  abbrev pub shows : List (Slot P) → ℕ → ℕ → ℕ → Bool
  shows parts now row number = shown_by (part_in parts row) now number

  -- whether these numbers are the inner index of a row that is shown so
  abbrev pub is_kept_of : List (Slot P) → ℕ → ℕ → List ℕ → Bool
  is_kept_of parts now row index = is_number (shows parts now row) index

  -- a part that isn't there shows no number
  hides : (part : Option P) (now number : ℕ) → is_some part ≡ false → shown_by part now number ≡ false
  hides None now number none = refl
  hides (Some part) now number none = ap (λ t. cond t (is_shown part now number) false) none

  -- a row that has no part has no inner row
  pub no_inner : (parts : List (Slot P)) (now row : ℕ) (index : List ℕ) → has_part parts row ≡ false → is_kept_of parts now row index ≡ false
  no_inner parts now row [] none = refl
  no_inner parts now row (number ∷ []) none = hides (part_in parts row) now number none
  no_inner parts now row (number ∷ next ∷ more) none = refl

-- the numbers of an index that has two
abbrev pub two_numbers : List ℕ → Option (ℕ × ℕ)
two_numbers (row ∷ number ∷ []) = Some (row, number)
two_numbers index = None

-- By what a column shows: of the part of a row, a number and a column.
module _ {P : Type 0} (value : ℕ → P → ℕ → ℕ → Val) where
  -- what a column shows, by the part that there may be of a row
  abbrev pub value_by : ℕ → Option P → ℕ → ℕ → Val
  value_by row None number column = null
  value_by row (Some part) number column = value row part number column

  -- the same by the parts
  abbrev pub value_in : List (Slot P) → ℕ → ℕ → ℕ → Val
  value_in parts row number column = value_by row (part_in parts row) number column

  -- the same at an index
  abbrev pub value_at : List (Slot P) → ℕ → List ℕ → Val
  value_at parts = numbered_value (value_in parts)
