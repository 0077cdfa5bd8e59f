use Rattle.std.proofs.Common.{arith}
use Rattle.rm_rows.proofs.TouchLemmas.{empty_reserved}
use Rattle.rm_rows.proofs.rows.Rows.reserve.Goals as goal

pub invariant_of-result : goal.invariant_of-result
invariant_of-result g c =
    let e = c.in_ok-list.ensures in
    empty_reserved g.K.Ord.cmp c.in_ok-list.list c.in_ok-entered.entered c.in_ok-index.index e.0 c.in_ok-entered.ensures.items c.in_ok-index.ensures.items c.args.capacity c.args.capacity c.requires.some (omega arith) e.1 c.in_ok-entered.ensures.capacity c.in_ok-index.ensures.capacity
