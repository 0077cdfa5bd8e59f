use Rattle.std.proofs.Common.{◌≡◌, ◌++◌, map, take, drop}
use Rattle.rm_pool.specs.Pools.{valid_in}
use Rattle.rm_pool.specs.Slots.{released}
use Rattle.rm_pool.proofs.follow.release_in.Given as goal

abbrev pub invariant-loop-slot : goal.invariant-loop-slot
invariant-loop-slot g l = l.slots ≡ map (released (valid_in l.rows)) (take l.slot-index l.initial.slots) ++ drop l.slot-index l.initial.slots
