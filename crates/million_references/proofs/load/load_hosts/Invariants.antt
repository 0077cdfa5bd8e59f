use Rattle.std.proofs.Common.{◌≡◌, ◌<◌, ◌≤◌, ◌*◌}
use Rattle.std.specs.Str.{bytes_eq}
use Rattle.million_references.specs.Loaded.{IsHeld}
use Rattle.million_references.specs.Load.{number, host_references, tick}
use Rattle.million_references.specs.declared.load.TheConstants.{MODULUS}
use Rattle.million_references.proofs.load.load_hosts.Given as goal

abbrev pub invariant-loop-frame : goal.invariant-loop-frame
invariant-loop-frame l = record {
  drawn : l.number ≡ number l.frame;
  below : l.number < MODULUS;
  held : IsHeld bytes_eq l.capacity (host_references l.frame) l.hosts;
  stamps : l.hosts.table.stamps ≤ 2 * l.frame;
  tick : l.hosts.table.tick ≤ tick l.frame;
  few : l.hosts.evicted ≤ 2 * l.frame;
}
