use Rattle.std.proofs.Common.{◌≡◌, ℕ, ◌≤◌, length}
use Rattle.std.specs.Prelude.{min}
use Rattle.rm_pool.specs.Slots.{part_in, AreApart}
use Rattle.rm_pool.proofs.storage.trim_in.Given as goal

abbrev pub invariant-loop-slots : goal.invariant-loop-slots
invariant-loop-slots g l = record {
  parts : (row : ℕ) → part_in l.slots.items row ≡ part_in l.fn.slots.items row;
  apart : AreApart l.slots.items;
  enough : min l.count (length l.fn.slots.items) ≤ length l.slots.items;
  no_more : length l.slots.items ≤ length l.fn.slots.items;
}

abbrev pub decreases-loop-slots : goal.decreases-loop-slots
decreases-loop-slots g l = length l.slots.items
