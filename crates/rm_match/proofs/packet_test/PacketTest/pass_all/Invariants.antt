use Rattle.std.proofs.Common.{◌≡◌}
use Rattle.rm_acts.specs.Bits.{test_of, pass}
use Rattle.rm_match.proofs.TestLemmas.{from_place}
use Rattle.rm_match.proofs.packet_test.PacketTest.pass_all.Given as goal

-- whether the octets from here on pass decides it
abbrev pub invariant-loop-at : goal.invariant-loop-at
invariant-loop-at l =
    from_place l.self.data.now l.self.mask.now l.self.not_mask.now l.octets l.at l.asks_difference l.differs
    ≡ pass (test_of l.self.data.now l.self.mask.now l.self.not_mask.now) l.octets
