use Rattle.std.proofs.Common.{◌∙◌, arith}
use Rattle.rm_match.proofs.TestLemmas.{nothing_left}
use Rattle.rm_match.proofs.packet_test.PacketTest.passes.Goals as goal

pub returns-in-None : goal.returns-in-None
returns-in-None c =
    c.is_empty.ensures
    ∙ nothing_left c.args.self.now.data.now c.args.self.now.mask.now c.args.self.now.not_mask.now c.args.octets.now c.args.self.now.offset (omega (arith, c.in-None.ensures.lookup))
