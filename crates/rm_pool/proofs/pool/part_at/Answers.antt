use Rattle.std.proofs.Common.{◌≡◌, ℕ, ◌<◌, Some, length, ap, refl, subst, slice_get}
use Rattle.rm_pool.specs.Slots.{part_seen}
use Rattle.rm_pool.proofs.Lent.{got, lent_at}
use Rattle.rm_pool.proofs.pool.part_at.Goals as goal

pub returns-in-Some : goal.returns-in-Some
returns-in-Some g c =
    let lt : c.args.place < length c.args.slots.now.items = subst (λ (n : ℕ). c.args.place < n) c.args.slots.now.ok.0 (c.in-Some.ensures.variant.0 refl) in
    let at : slice_get c.args.slots.now.items c.args.place ≡ Some c.in-Some.slot.now = got c.args.slots.now.items c.args.place c.in-Some.slot.now lt c.in-Some.ensures.value in
    let same = λ (part : g.row.P.Denot). lent_at c.args.slots.now c.args.place c.in-Some.slot.now part at in
    (simp same, record { writes_back = tt; value = ap part_seen at; none = tt })
