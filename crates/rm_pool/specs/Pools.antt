-- The parts of a pool, as callers see them.
use Rattle.std.specs.Prelude.{◌^◌, ◌≡◌, ℕ, ◌≤◌, List, Option, Some, None, Bool, true}
use Rattle.rm_model.specs.ControlRows.{is_valid}
use Rattle.rm_model.specs.Judgement.{count_below}
use Rattle.rm_status.specs.declared.row.Row.{Row}
use Rattle.rm_status.specs.Rows.{state_in}
use Rattle.rm_pool.specs.declared.slot.Slot.{Slot}
use Rattle.rm_pool.specs.Slots.{has_part}

-- whether a row of a control table is valid
abbrev pub valid_in : {C : Type 0} → List (Row C) → ℕ → Bool
valid_in rows row = is_valid (state_in rows row)

module _ {P : Type 0} where
  -- how many rows have a part
  abbrev pub in_use : List (Slot P) → ℕ
  in_use pool = count_below (has_part pool) (2 ^ 32)

  -- exactly the valid rows of a control table have a part
  abbrev pub IsOfValid : {C : Type 0} → List (Slot P) → List (Row C) → Type 0
  IsOfValid pool rows = (row : ℕ) → has_part pool row ≡ valid_in rows row

  -- no row that has a part is above the greatest index of a control table
  abbrev pub AreNumbered : List (Slot P) → Type 0
  AreNumbered pool = (row : ℕ) → has_part pool row ≡ true → row ≤ 65535

  -- there is a part, and this holds of it
  abbrev pub IsThere : (P → Type 0) → Option P → Type 0
  IsThere holds None = ⊥
  IsThere holds (Some part) = holds part

  -- where there is a part, this holds of it
  abbrev pub Allowed : (P → Type 0) → Option P → Type 0
  Allowed allows None = Unit {0}
  Allowed allows (Some part) = allows part

  -- what became of the part that there may be of a row: there is one as before, and it is related so to what it was
  abbrev pub Became : (P → P → Type 0) → Option P → Option P → Type 0
  Became makes None None = Unit {0}
  Became makes None (Some new) = ⊥
  Became makes (Some part) None = ⊥
  Became makes (Some part) (Some new) = makes part new
