-- The parts of a pool, and the rows that they are of.
use Rattle.std.specs.Prelude.{◌^◌, ◌≡◌, ℕ, ◌<◌, List, [], ◌∷◌, Bool, false, find, is_some, is_none, nat_eq, if◌then◌else◌, Option, Some, None}
use Rattle.std.specs.Option.{option_map_or, option_and_then}
use Rattle.std.specs.Prelude.{Vec, slice_get}
use Rattle.std.specs.Vec.{with_item}
use Rattle.std.specs.declared.alloc.Global.{Global}
use Rattle.rm_pool.specs.declared.slot.Slot.{Slot}

module _ {P : Type 0} where
  -- whether a part is that of a row
  abbrev pub is_of : ℕ → Slot P → Bool
  is_of row slot = option_map_or (λ holder. nat_eq holder row) slot.row false

  -- whether a part is spare
  abbrev pub is_spare : Slot P → Bool
  is_spare slot = is_none slot.row

  abbrev pub spare : P → Slot P
  spare part = record { row = None; part = part }

  -- the row that a part is of, if there is one
  abbrev pub holder : Slot P → Option ℕ
  holder slot = slot.row

  -- a part whose row isn't valid is spare
  abbrev pub released : (ℕ → Bool) → Slot P → Slot P
  released is_valid slot = record slot { row = option_and_then (λ row. if is_valid row then Some row else None) slot.row }

  abbrev pub part_seen : Option (Slot P) → Option P
  part_seen None = None
  part_seen (Some slot) = Some slot.part

  -- the part of a row, if it has one
  abbrev pub part_in : List (Slot P) → ℕ → Option P
  part_in pool row = part_seen (find (is_of row) pool)

  -- whether a row has a part
  abbrev pub has_part : List (Slot P) → ℕ → Bool
  has_part pool row = is_some (part_in pool row)

  -- a part is spare, or that of a row that has no other one, and that has an index that a row can have
  abbrev pub IsApart : List (Slot P) → Option ℕ → Type 0
  IsApart others None = Unit {0}
  IsApart others (Some row) = (row < 2 ^ 32) × (has_part others row ≡ false)

  -- no row has two parts
  abbrev pub AreApart : List (Slot P) → Type 0
  AreApart [] = Unit {0}
  AreApart (slot ∷ slots) = IsApart slots slot.row × AreApart slots

  -- a pool with the part of a row changed
  abbrev pub with_part : List (Slot P) → ℕ → P → List (Slot P)
  with_part [] row part = []
  with_part (slot ∷ slots) row part = if is_of row slot then record slot { part = part } ∷ slots else slot ∷ with_part slots row part

  -- the parts that are kept
  abbrev pub kept : Option (Vec (Slot P) Global) → List (Slot P)
  kept slots = option_map_or (λ slots. slots.items) slots []

  -- the same with the part at a place changed
  abbrev pub with_part_at : Vec (Slot P) Global → ℕ → P → Vec (Slot P) Global
  with_part_at slots place part = option_map_or (λ slot. with_item slots place (record slot { part = part })) (slice_get slots.items place) slots
