use Rattle.std.proofs.Common.{◌≡◌, ◌+◌, ◌<◌, ◌^◌, drop}
use Rattle.rm_evicting.specs.Octets.{with_octets}
use Rattle.rm_evicting.proofs.octets.with_octets.Given as goal

abbrev pub invariant-loop-octet : goal.invariant-loop-octet
invariant-loop-octet l = record {
  value : with_octets l.number (drop l.octet-index l.octets) ≡ with_octets l.front l.octets;
  bound : l.number < 256 ^ (l.octet-index + 4);
}
