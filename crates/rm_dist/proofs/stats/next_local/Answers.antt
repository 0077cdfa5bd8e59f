use Rattle.std.proofs.Common.{◌<◌, length, is_some, sym, subst, ◌∙◌, arith}
use Rattle.rm_model.specs.Numbers.{IsNumberAbove}
use Rattle.rm_dist.specs.Counts.{count_in}
use Rattle.rm_dist.proofs.Walk.{above_first, above_none}
use Rattle.rm_dist.proofs.stats.next_local.Goals as goal

pub returns-then-len-eq0 : goal.returns-then-len-eq0
returns-then-len-eq0 c = above_none c.args.counts.now c.args.index.now c.first.result (sym c.len.ensures.value ∙ c.if-len-eq0.true) c.first.ensures

pub returns-else-len-eq0 : goal.returns-else-len-eq0
returns-else-len-eq0 c =
    let some : 0 < length c.args.index.now = omega (arith, c.len.ensures.value, c.if-len-eq0.false) in
    above_first (λ local. is_some (count_in c.args.counts.now local)) c.args.index.now c.above.result some
    (subst (λ n. IsNumberAbove (λ local. is_some (count_in c.args.counts.now local)) n c.above.result) c.at.ensures c.above.ensures)
