use Rattle.rm_ber.proofs.CanonicalGroups.{weights, one_digit, no_digit}
use Rattle.rm_ber.proofs.writer.content.group.Goals as goal
use Rattle.rm_ber.proofs.writer.content.group.Goals.{then-number-weight, else-number-weight}

pub loop-weight-preserved : goal.loop-weight-preserved
loop-weight-preserved c =
    elim c.if-number-weight.branch [
      | then-number-weight w ↦ rw w.octets-is (one_digit weights _ _ _ _ c.loop-weight.invariant c.loop-weight-test.true w.if-number-weight.true w.push.ensures.items)
      | else-number-weight w ↦ rw w.octets-is (no_digit weights _ _ _ c.loop-weight.invariant c.loop-weight-test.true w.if-number-weight.false)
    ]
