-- The parts of valid rows that begin, one by one.
use Rattle.std.specs.Prelude.{◌≡◌, ℕ, ◌<◌, ◌≤◌, List, length, Bool, true, None}
use Rattle.rm_pool.specs.declared.slot.Slot.{Slot}
use Rattle.rm_pool.specs.Pools.{IsThere}
use Rattle.rm_pool.specs.Slots.{part_in, has_part}

-- So far the parts were begun of the valid rows up to an index that had none: what had one has it still, and no other row has one.
pub record AreBegun {P : Type 0} (valid : ℕ → Bool) (begun : ℕ → P → Type 0) (before after : List (Slot P)) (last : ℕ) : Type 0 where
  pub size : length after ≡ length before
  pub stays : (row : ℕ) → has_part before row ≡ true → part_in after row ≡ part_in before row
  pub begins : (row : ℕ) → row ≤ last → valid row ≡ true → part_in before row ≡ None → IsThere (begun row) (part_in after row)
  pub later : (row : ℕ) → last < row → part_in after row ≡ part_in before row
  pub used : (row : ℕ) → has_part after row ≡ true → valid row ≡ true
