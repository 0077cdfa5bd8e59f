-- What is known of the rows and the parts that are held.
use Rattle.std.specs.Prelude.{◌≡◌, ℕ, List, Some}
use Rattle.rm_status.specs.declared.row.Row.{Row}
use Rattle.rm_status.specs.Rows.{row_in}
use Rattle.rm_pool.specs.declared.slot.Slot.{Slot}
use Rattle.rm_pool.specs.Slots.{part_in}
use Rattle.rm_pool.specs.Pools.{Allowed, IsOfValid}
use Rattle.rm_collect.specs.Collection.{Collection}
use Rattle.rm_collect.specs.Held.{Held}

module _ {C P S J : Type 0} (collection : Collection C P S J) where
  -- the columns of each row are in range
  abbrev pub AreAllInRange : List (Row C) → Type 0
  AreAllInRange rows = (index : ℕ) (row : Row C) → row_in rows index ≡ Some row → collection.in_range row.columns

  -- nothing in a part is later than a moment, or beyond so many frames
  abbrev pub AllFit : (last frames : ℕ) → List (Slot P) → Type 0
  AllFit last frames parts = (row : ℕ) → Allowed (collection.fits last frames) (part_in parts row)

  -- the columns are in range, nothing in a part is later than the last moment or beyond so many frames, and exactly the valid rows have one
  pub record IsWellHeld (held : Held C P S) : Type 0 where
    pub in_range : AreAllInRange held.rows
    pub fits : AllFit held.last held.frames held.parts
    pub of_valid : IsOfValid held.parts held.rows

  pub all_in_range_prop : (rows : List (Row C)) → IsProp (AreAllInRange rows)
  all_in_range_prop rows = hlevel collection.in_range_prop
