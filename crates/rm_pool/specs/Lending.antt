-- What a pool ends as, where the part of a row is lent.
use Rattle.std.specs.Prelude.{ℕ, List, Option}
use Rattle.std.specs.Option.{option_map}
use Rattle.std.specs.Borrow.{LendsIf, Fml, RattleType, MutBor}
use Rattle.std.specs.Prelude.{Vec}
use Rattle.std.specs.contracts.alloc.Global as global
use Rattle.std.specs.contracts.vec.Vec as vector
use Rattle.std.specs.contracts.option.Option as option
use Rattle.std.specs.contracts.impls.GlobalAllocator.TheImpl.{ghosts}
use Rattle.std.specs.declared.alloc.Global.{Global}
use Rattle.rm_pool.specs.declared.slot.Slot.{Slot}
use Rattle.rm_pool.specs.Slots.{with_part, with_part_at}
use Rattle.rm_pool.specs.contracts.slot.Slot as slot
use Rattle.rm_pool.specs.contracts.pool.Pool.{the_row}

module _ (P : RattleType) where
  -- the part of that row ends as what was last written through r
  abbrev pub lends_part : MutBor (List (Slot P.Denot)) → ℕ → Option (MutBor P.Denot) → Fml
  lends_part pool row r = LendsIf (the_row P) P pool r (with_part pool.now row) pool.now

  abbrev pub slots_row : RattleType
  slots_row = vector.the_row (slot.the_row P) global.the_row ghosts

  -- the part at that place does
  abbrev pub lends_part_at : MutBor (Vec (Slot P.Denot) Global) → ℕ → Option (MutBor P.Denot) → Fml
  lends_part_at slots place r = LendsIf slots_row P slots r (with_part_at slots.now place) slots.now

  abbrev pub lends_kept_at : MutBor (Option (Vec (Slot P.Denot) Global)) → ℕ → Option (MutBor P.Denot) → Fml
  lends_kept_at slots place r = LendsIf (option.the_row slots_row) P slots r (λ part. option_map (λ kept. with_part_at kept place part) slots.now) slots.now
