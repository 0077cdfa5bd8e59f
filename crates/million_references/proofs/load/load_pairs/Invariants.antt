use Rattle.std.proofs.Common.{◌≡◌, ◌<◌, ◌≤◌}
use Rattle.std.specs.Str.{bytes_eq}
use Rattle.million_references.specs.Loaded.{IsHeld}
use Rattle.million_references.specs.Load.{number, pair_references, tick}
use Rattle.million_references.specs.declared.load.TheConstants.{MODULUS}
use Rattle.million_references.proofs.load.load_pairs.Given as goal

abbrev pub invariant-loop-frame : goal.invariant-loop-frame
invariant-loop-frame l = record {
  drawn : l.number ≡ number l.frame;
  below : l.number < MODULUS;
  held : IsHeld bytes_eq l.capacity (pair_references l.frame) l.pairs;
  stamps : l.pairs.table.stamps ≤ l.frame;
  tick : l.pairs.table.tick ≤ tick l.frame;
  few : l.pairs.evicted ≤ l.frame;
}
