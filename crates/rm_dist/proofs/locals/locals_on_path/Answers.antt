use Rattle.std.proofs.Common.{◌≡◌, length, map, take, ap, ◌∙◌, length-take, take_all, arith}
use Rattle.std.proofs.lemmas.List.{length-map}
use Rattle.rm_dist.specs.Slots.{local_in}
use Rattle.rm_dist.proofs.SlotLocals.{locals_are}
use Rattle.rm_dist.proofs.locals.locals_on_path.Goals as goal

pub push-requires : goal.push-requires
push-requires c =
    let slots = c.protocols-protocols.result.now in
    let path = c.as_slice-slot-items.result.now in
    let many : length c.loop-slot.locals.items ≡ length (take c.loop-slot.slot-index path) = ap length c.loop-slot.invariant.are ∙ length-map (take c.loop-slot.slot-index path) (local_in slots) in
    let few = length-take c.loop-slot.slot-index path in
    let fits = c.as_slice-slot-items.ensures.fits in
    let here = c.loop-slot-test.true in
    omega (arith, many, few, fits, here)

pub returns-clause-locals : goal.returns-clause-locals
returns-clause-locals c journal stands =
    let whole = take_all c.loop-slot.slot-index c.as_slice-slot-items.result.now c.loop-slot-test.false ∙ c.as_slice-slot-items.ensures.value in
    c.loop-slot.invariant.are ∙ ap (map (local_in c.protocols-protocols.result.now)) whole
    ∙ rw c.protocols-protocols.ensures.value (locals_are journal c.args.directory.now.protocols (rw c.protocols-protocols.ensures.value at (c.protocols-protocols.ensures.active journal stands)) c.path.result.items _ (c.path.ensures.protocols journal stands))

pub returns-clause-count : goal.returns-clause-count
returns-clause-count c some = rw c.protocols-protocols.ensures.value at (c.loop-slot.invariant.count some)
