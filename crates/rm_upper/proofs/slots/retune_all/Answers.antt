use Rattle.rm_upper.proofs.KeptLemmas.{next_slots}
use Rattle.rm_upper.proofs.slots.retune_all.Goals as goal

pub loop-place-preserved : goal.loop-place-preserved
loop-place-preserved c = rw c.retuned.ensures (next_slots c.args.stamp c.loop-place.place c.args.slots.now c.args.protocols.now c.loop-place.slots c.loop-place-test.true c.requires c.loop-place.invariant)
