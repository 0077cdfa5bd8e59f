use Rattle.std.proofs.Common.{◌≡◌, ◌+◌, ◌≤◌, [], ◌∷◌, ◌++◌, length, take, sym, ap, ◌∙◌, length-take, take_all, arith}
use Rattle.rm_dir.specs.Paths.{path_after}
use Rattle.rm_layer_tables.specs.Paths.{locals_in}
use Rattle.rm_layer_tables.proofs.PathLemmas.{few, more, locals_are, one_local, none}
use Rattle.rm_layer_tables.proofs.locals.locals_above_ip.Goals as goal
use Rattle.rm_layer_tables.proofs.locals.locals_above_ip.Goals.{in-Some, in_default}

pub push-requires : goal.push-requires
push-requires c =
    let slots = c.protocols-protocols.result.now in
    let path = c.as_slice-slot-items.result.now in
    let are : length c.loop-slot.locals.items ≡ length (locals_in slots (take c.loop-slot.slot-index path)) = ap length c.loop-slot.invariant in
    let many : length (locals_in slots (take c.loop-slot.slot-index path)) ≤ length (take c.loop-slot.slot-index path) = few slots (take c.loop-slot.slot-index path) in
    let cut = length-take c.loop-slot.slot-index path in
    let fits = c.as_slice-slot-items.ensures.fits in
    let here = c.loop-slot-test.true in
    omega (arith, are, many, cut, fits, here)

pub loop-slot-preserved : goal.loop-slot-preserved
loop-slot-preserved c =
    let slots = c.protocols-protocols.result.now in
    let path = c.as_slice-slot-items.result.now in
    let at = c.loop-slot.slot-index in
    let next = more slots at path c.local_above.result c.loop-slot-test.true c.local_above.ensures in
    elim c.match-local_above.branch as (λ _. c.match-local_above.locals.items ≡ locals_in slots (take (at + 1) path)) [
      | in-Some w ↦ rw w.locals-is (w.push.ensures.items ∙ ap (λ l. l ++ w.in-Some.local ∷ []) c.loop-slot.invariant ∙ sym (next ∙ ap (λ o. locals_in slots (take at path) ++ one_local o) w.in-Some.is))
      | in_default w ↦ rw w.locals-is (c.loop-slot.invariant ∙ sym (next ∙ ap (λ o. locals_in slots (take at path) ++ one_local o) w.in_default.is ∙ none (locals_in slots (take at path))))
    ]

pub returns : goal.returns
returns c journal stands =
    let whole = take_all c.loop-slot.slot-index c.as_slice-slot-items.result.now c.loop-slot-test.false ∙ c.as_slice-slot-items.ensures.value in
    c.loop-slot.invariant ∙ ap (locals_in c.protocols-protocols.result.now) whole
    ∙ rw c.protocols-protocols.ensures.value (locals_are journal c.args.directory.now.protocols (rw c.protocols-protocols.ensures.value at (c.protocols-protocols.ensures.active journal stands)) c.path.result.items (path_after journal c.args.facts.now) (c.path.ensures.protocols journal stands))
