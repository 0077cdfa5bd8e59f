use Rattle.std.proofs.Common.{sym, ◌∙◌}
use Rattle.rm_upper.proofs.SlotLemmas.{next_without, without_all}
use Rattle.rm_upper.proofs.slots.place_of.Goals as goal

pub loop-place-preserved : goal.loop-place-preserved
loop-place-preserved c = next_without c.args.protocol c.loop-place.place c.args.slots.now c.loop-place-test.true c.loop-place.invariant (sym c.is_in.ensures ∙ c.if-is_in.false)

pub returns-clause-none : goal.returns-clause-none
returns-clause-none c = without_all c.args.protocol c.loop-place.place c.args.slots.now c.loop-place-test.false c.loop-place.invariant
