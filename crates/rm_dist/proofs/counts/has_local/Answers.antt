use Rattle.std.proofs.Common.{sym, arith}
use Rattle.rm_dist.proofs.MarkLemmas.{none_local}
use Rattle.rm_dist.proofs.counts.has_local.Goals as goal

pub returns : goal.returns
returns c =
    let over = c.loop-slot-test.false in
    let count = c.loop-slot.invariant.count (omega (arith, over)) in
    sym (none_local c.args.protocols.now c.args.local (λ slot within. c.loop-slot.invariant.none slot (omega (arith, within, count, over))))
