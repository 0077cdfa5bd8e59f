use Rattle.std.proofs.Common.{◌≡◌, ◌<◌, ◌∙◌, arith}
use Rattle.std.specs.Prelude.{None}
use Rattle.rm_layer_slots.specs.On.{local_on}
use Rattle.rm_layer_slots.proofs.FillLemmas.{next_slot, all_slots}
use Rattle.rm_layer_slots.proofs.slots.slots_on.Goals as goal

pub loop-slot-preserved : goal.loop-slot-preserved
loop-slot-preserved c = record {
  on = rw (c.local_on.ensures, c.get.ensures.value) (next_slot (local_on c.args.kind) None c.loop-slot.slot c.args.protocols.now c.loop-slot.on c.loop-slot-test.true c.get.ensures.count c.loop-slot.invariant.on);
  count = λ some. c.get.ensures.count;
}

pub returns : goal.returns
returns c =
    let end : c.loop-slot.slot ≡ 32 = omega (arith, c.loop-slot-test.false, c.loop-slot.auto.slot-end) in
    let some : 0 < c.loop-slot.slot = omega (arith, end) in
    c.loop-slot.invariant.on ∙ all_slots (local_on c.args.kind) c.loop-slot.slot c.args.protocols.now end (c.loop-slot.invariant.count some)
