use Rattle.std.proofs.Common.{length}
use Rattle.rm_ring.specs.Kept.{stored}
use Rattle.rm_ring.proofs.CostLemmas.{IsDropping}
use Rattle.rm_ring.proofs.ring.Ring.keep_latest.Given as goal

abbrev pub invariant-dropping : goal.invariant-dropping
invariant-dropping g l = IsDropping l.fn.self l.self (stored l.info l.octets)

abbrev pub decreases-dropping : goal.decreases-dropping
decreases-dropping g l = length l.self.packets
