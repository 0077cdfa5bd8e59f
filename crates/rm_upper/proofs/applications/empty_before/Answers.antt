use Rattle.std.proofs.Common.{◌<◌, length, arith}
use Rattle.rm_upper.proofs.FilledLemmas.{next_emptied}
use Rattle.rm_upper.proofs.applications.empty_before.Goals as goal

pub loop-place-preserved : goal.loop-place-preserved
loop-place-preserved g c =
    let within : c.loop-place.place < length c.args.slots.now = omega (arith, c.loop-place-test.true, c.requires) in
    next_emptied c.loop-place.place c.args.slots.now c.loop-place.slots within c.loop-place.invariant
