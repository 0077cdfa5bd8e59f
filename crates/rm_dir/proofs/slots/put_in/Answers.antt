use Rattle.std.proofs.Common.{◌<◌, ◌≤◌, length, sym, ◌∙◌, arith}
use Rattle.rm_dir.proofs.InSlots.{found_held, found_named, known_then, active_then, not_active, some_free}
use Rattle.rm_dir.proofs.slots.put_in.Goals as goal

pub returns-in-Some-free_slot-clause-known : goal.returns-in-Some-free_slot-clause-known
returns-in-Some-free_slot-clause-known c =
    let within : c.in-Some-free_slot.slot < length c.args.protocols.now = omega (arith, c.in-Some-free_slot.ensures.slots.count, c.in-Some-free_slot.ensures.some.0) in
    rw c.add.ensures (known_then c.args.rows.now c.args.number c.in-Some.protocol (sym c.in-Some.ensures) c.args.protocols.now c.in-Some-free_slot.slot c.requires within)

pub returns-in-Some-free_slot-clause-active : goal.returns-in-Some-free_slot-clause-active
returns-in-Some-free_slot-clause-active c identifier protocol same active =
    let within : c.in-Some-free_slot.slot < length c.args.protocols.now = omega (arith, c.in-Some-free_slot.ensures.slots.count, c.in-Some-free_slot.ensures.some.0) in
    let named = found_named c.args.rows.now c.args.number c.in-Some.protocol (sym c.in-Some.ensures) identifier protocol same active in
    rw (c.add.ensures, ← named) (active_then c.args.rows.now c.args.number c.in-Some.protocol (sym c.in-Some.ensures) c.args.protocols.now c.in-Some-free_slot.slot within)

-- each slot would have a protocol, and one more would be active
pub returns-in_default-free_slot-clause-active : goal.returns-in_default-free_slot-clause-active
returns-in_default-free_slot-clause-active c identifier protocol same active =
    let few : length c.args.rows.now ≤ 32 = omega (arith, c.len.ensures.value, c.len.ensures.most) in
    let held = found_held c.args.rows.now c.args.number c.in-Some.protocol (sym c.in-Some.ensures) in
    absurd (some_free c.args.rows.now c.args.protocols.now c.requires c.in_default-free_slot.ensures.slots few (sym c.len.ensures.value ∙ c.len.ensures.counted) c.in-Some.protocol.identifier c.in-Some.protocol held (not_active c.args.protocols.now c.in-Some.protocol.identifier c.slot_of.result c.slot_of.ensures (sym c.is_some.ensures ∙ c.if-is_some.false)) c.in_default-free_slot.ensures.none)
