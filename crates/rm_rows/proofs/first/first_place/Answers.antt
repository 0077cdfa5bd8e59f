use Rattle.std.proofs.Common.{sym, ◌∙◌, true≢false}
use Rattle.rm_rows.proofs.FindLemmas.{raised, lowered}
use Rattle.rm_rows.proofs.first.first_place.Goals as goal

pub loop-low-preserved-then-is_above : goal.loop-low-preserved-then-is_above
loop-low-preserved-then-is_above g c =
    let at = sym c.is_above.ensures ∙ c.if-is_above.true in
    lowered g.K.Ord.cmp c.args.list.now c.args.index.now c.loop-low.low c.loop-low.high c.requires.index c.loop-low-test.true
    c.index-index-middle.result c.row.result.now c.index-index-middle.is c.row.ensures c.loop-low.invariant at (λ k l. c.requires.upward c.row.result.now.key k at l)

pub loop-low-preserved : goal.loop-low-preserved
loop-low-preserved g c =
    let off = sym c.is_above.ensures ∙ c.if-is_above.false in
    raised g.K.Ord.cmp c.args.list.now c.args.index.now c.loop-low.low c.loop-low.high c.requires.index c.loop-low-test.true
    c.index-index-middle.result c.row.result.now c.index-index-middle.is c.row.ensures c.loop-low.invariant
    (λ e. true≢false (sym e ∙ off)) (λ k l e. true≢false (sym (c.requires.upward k c.row.result.now.key e l) ∙ off))
