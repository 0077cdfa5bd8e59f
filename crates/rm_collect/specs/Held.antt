-- What is held of a control table and of what its valid rows collect.
use Rattle.std.specs.Prelude.{ℕ, List}
use Rattle.rm_status.specs.declared.row.Row.{Row}
use Rattle.rm_pool.specs.declared.slot.Slot.{Slot}

-- the rows, the parts of the valid ones, what all rows share, how many frames were given, and the moment of the last frame or Set, in milliseconds
pub record Held (C P S : Type 0) : Type 0 where
  pub rows : List (Row C)
  pub parts : List (Slot P)
  pub shared : S
  pub frames : ℕ
  pub last : ℕ
