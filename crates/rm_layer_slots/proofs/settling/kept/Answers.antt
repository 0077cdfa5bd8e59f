use Rattle.std.proofs.Common.{◌≡◌, None, arith, ◌∙◌}
use Rattle.rm_layer_slots.specs.Settled.{kept_in}
use Rattle.rm_layer_slots.proofs.FillLemmas.{next_slot, all_slots}
use Rattle.rm_layer_slots.proofs.settling.kept.Goals as goal

pub loop-slot-preserved : goal.loop-slot-preserved
loop-slot-preserved c = rw c.kept_in.ensures (next_slot (kept_in c.args.on.now) None c.loop-slot.slot c.args.old.now c.loop-slot.slots c.loop-slot-test.true c.told-old c.loop-slot.invariant)

pub returns : goal.returns
returns c =
    let end : c.loop-slot.slot ≡ 32 = omega (arith, c.loop-slot-test.false, c.loop-slot.auto.slot-end) in
    c.loop-slot.invariant ∙ all_slots (kept_in c.args.on.now) c.loop-slot.slot c.args.old.now end c.told-old
