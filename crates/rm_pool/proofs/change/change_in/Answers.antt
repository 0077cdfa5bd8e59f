use Rattle.std.proofs.Common.{◌≡◌, sym, subst, length, get_or, arith}
use Rattle.rm_pool.specs.Each.{SlotBecomes, IsAllowed}
use Rattle.rm_pool.proofs.Each.{FirstBecome, next_is, one_more_becomes, all_become, allowed_at}
use Rattle.rm_pool.proofs.change.change_in.Goals as goal

pub change_one-requires : goal.change_one-requires
change_one-requires g c =
    let becomes = SlotBecomes (g.V.Change.makes c.args.how.now) in
    let allows = g.V.Change.allows c.args.how.now in
    let k = c.loop-slot.slot-index in
    let d = c.slot-item.result in
    let same : get_or c.args.slots.now k d ≡ get_or c.loop-slot.slots k d = sym (next_is becomes k c.args.slots.now c.loop-slot.slots d c.loop-slot.invariant) in
    subst (IsAllowed allows) same (allowed_at allows c.args.slots.now k d (omega arith) c.requires)

pub loop-slot-preserved : goal.loop-slot-preserved
loop-slot-preserved g c =
    let becomes = SlotBecomes (g.V.Change.makes c.args.how.now) in
    one_more_becomes becomes c.loop-slot.slot-index c.args.slots.now c.loop-slot.slots c.slot-item.result c.change_one.new.slot (omega arith) c.loop-slot.invariant c.change_one.ensures

pub returns : goal.returns
returns g c =
    let becomes = SlotBecomes (g.V.Change.makes c.args.how.now) in
    let all : c.loop-slot.slot-index ≡ length c.args.slots.now = omega arith in
    all_become becomes c.args.slots.now c.loop-slot.slots (subst (λ n. FirstBecome becomes n c.args.slots.now c.loop-slot.slots) all c.loop-slot.invariant)
