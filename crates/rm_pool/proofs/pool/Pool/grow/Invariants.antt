use Rattle.std.proofs.Common.{◌≡◌, ℕ, ◌-◌, ◌≤◌, length}
use Rattle.std.specs.Prelude.{max}
use Rattle.rm_pool.specs.Slots.{part_in}
use Rattle.rm_pool.proofs.pool.Pool.grow.Given as goal

abbrev pub invariant-loop-alloc : goal.invariant-loop-alloc
invariant-loop-alloc g l = record {
  parts : (row : ℕ) → part_in l.self row ≡ part_in l.fn.self row;
  no_more : length l.self ≤ max l.count (length l.fn.self);
  more : length l.fn.self ≤ length l.self;
}

abbrev pub decreases-loop-alloc : goal.decreases-loop-alloc
decreases-loop-alloc g l = l.count - length l.self
