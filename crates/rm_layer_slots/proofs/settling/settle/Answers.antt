use Rattle.std.proofs.Common.{◌≡◌, ◌+◌, suc, arith, ◌∙◌, sym, ap, subst, Some}
use Rattle.std.proofs.lemmas.List.{take_all}
use Rattle.rm_layer_slots.proofs.SettledLemmas.{begins, skips, places, ends, got, IsSettling}
use Rattle.rm_layer_slots.proofs.settling.settle.Goals as goal
use Rattle.rm_layer_slots.proofs.settling.settle.Goals.{in-Some, in_default}

pub loop-slot-init : goal.loop-slot-init
loop-slot-init c = rw c.kept-slots.ensures (begins c.args.old.now c.args.on.now (c.told-old ∙ sym c.told-on) c.requires)

pub loop-slot-preserved : goal.loop-slot-preserved
loop-slot-preserved c =
    let at = c.loop-slot.slot in
    let here = got at c.args.on.now (omega (arith, c.loop-slot-test.true, c.told-on)) in
    let one : suc at ≡ at + 1 = omega arith in
    subst (λ n. IsSettling c.args.old.now c.args.on.now n c.match-on-slot.slots) one
    (elim c.match-on-slot.branch as (λ _. IsSettling c.args.old.now c.args.on.now (suc at) c.match-on-slot.slots) [
      | in-Some w ↦ rw (w.slots-is, w.place.ensures) (places c.args.old.now c.args.on.now c.loop-slot.slots at c.loop-slot.invariant w.in-Some.protocol (here ∙ ap Some w.in-Some.is))
      | in_default w ↦ rw w.slots-is (skips c.args.old.now c.args.on.now c.loop-slot.slots at c.loop-slot.invariant (here ∙ ap Some w.in_default.is))
    ])

pub returns-clause-same : goal.returns-clause-same
returns-clause-same c = ends c.args.old.now c.args.on.now c.loop-slot.slots c.loop-slot.slot c.loop-slot.invariant (take_all c.loop-slot.slot c.args.on.now (omega (arith, c.loop-slot-test.false, c.told-on)))
