use Rattle.std.proofs.Common.{sym, ◌∙◌}
use Rattle.rm_upper.proofs.CellLemmas.{next_place}
use Rattle.rm_upper.proofs.walk.show_application.Goals as goal

pub loop-place-preserved : goal.loop-place-preserved
loop-place-preserved g c =
    next_place c.args.protocol c.loop-place.place c.args.slots.now c.args.applications.now c.loop-place-test.true c.requires (sym c.is_in.ensures ∙ c.if-is_in.false)
    ∙ c.loop-place.invariant
