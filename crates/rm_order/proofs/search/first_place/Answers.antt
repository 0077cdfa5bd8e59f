use Rattle.std.proofs.Common.{sym, ◌∙◌}
use Rattle.rm_order.proofs.PlaceLemmas.{raised, lowered}
use Rattle.rm_order.proofs.search.first_place.Goals as goal

pub loop-low-preserved-then-is_above : goal.loop-low-preserved-then-is_above
loop-low-preserved-then-is_above g c =
    lowered g.K.Ord.cmp (g.A.Above.is_above c.args.point.now) c.requires.upward c.args.keys.now c.requires.rising c.loop-low.low c.loop-low.high c.loop-low-test.true
    c.index-keys-middle.result c.index-keys-middle.is c.loop-low.invariant (sym c.is_above.ensures ∙ c.if-is_above.true)

pub loop-low-preserved : goal.loop-low-preserved
loop-low-preserved g c =
    raised g.K.Ord.cmp (g.A.Above.is_above c.args.point.now) c.requires.upward c.args.keys.now c.requires.rising c.loop-low.low c.loop-low.high c.loop-low-test.true
    c.index-keys-middle.result c.index-keys-middle.is c.loop-low.invariant (sym c.is_above.ensures ∙ c.if-is_above.false)
