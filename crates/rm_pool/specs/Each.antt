-- Parts that are changed, each in its place.
use Rattle.std.specs.Prelude.{◌≡◌, ℕ, List, [], ◌∷◌, Option, Some, None}
use Rattle.rm_pool.specs.declared.slot.Slot.{Slot}

module _ {P : Type 0} where
  -- a part of a row is related so to what it was, by the row's number, and a spare one isn't changed
  abbrev pub PartBecomes : (ℕ → P → P → Type 0) → Option ℕ → P → P → Type 0
  PartBecomes makes None part new = new ≡ part
  PartBecomes makes (Some row) part new = makes row part new

  abbrev pub SlotBecomes : (ℕ → P → P → Type 0) → Slot P → Slot P → Type 0
  SlotBecomes makes slot new = (new.row ≡ slot.row) × PartBecomes makes slot.row slot.part new.part

  -- each part became another
  abbrev pub EachBecomes : (Slot P → Slot P → Type 0) → List (Slot P) → List (Slot P) → Type 0
  EachBecomes becomes [] [] = Unit {0}
  EachBecomes becomes (slot ∷ slots) (new ∷ more) = becomes slot new × EachBecomes becomes slots more
  EachBecomes becomes [] (new ∷ more) = ⊥
  EachBecomes becomes (slot ∷ slots) [] = ⊥

  -- a part may be changed, unless it is spare
  abbrev pub IsAllowed : (ℕ → P → Type 0) → Slot P → Type 0
  IsAllowed allows slot = (row : ℕ) → slot.row ≡ Some row → allows row slot.part

  abbrev pub AreAllowed : (ℕ → P → Type 0) → List (Slot P) → Type 0
  AreAllowed allows [] = Unit {0}
  AreAllowed allows (slot ∷ slots) = IsAllowed allows slot × AreAllowed allows slots
