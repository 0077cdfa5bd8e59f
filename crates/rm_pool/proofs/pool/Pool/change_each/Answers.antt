use Rattle.std.proofs.Common.{List, ap, length, subst, ◌∙◌}
use Rattle.rm_pool.specs.declared.slot.Slot.{Slot}
use Rattle.rm_pool.specs.Pools.{Became}
use Rattle.rm_pool.specs.Slots.{kept, part_in}
use Rattle.rm_pool.specs.Each.{SlotBecomes}
use Rattle.rm_pool.proofs.Each.{all_allowed, each_apart, each_became, each_length}
use Rattle.rm_pool.proofs.pool.Pool.change_each.Goals as goal

pub change_all-requires : goal.change_all-requires
change_all-requires g c =
    let allows = g.V.Change.allows c.args.how.now in
    all_allowed allows (kept c.self.inside.slots) c.self.invariant (λ row. rw c.self.view_is (c.requires row))

pub invariant_of-self : goal.invariant_of-self
invariant_of-self g c = each_apart (g.V.Change.makes c.args.how.now) (kept c.self.inside.slots) (kept c.change_all.new.slots) c.change_all.ensures c.self.invariant

pub returns-clause-parts : goal.returns-clause-parts
returns-clause-parts g c = λ row.
    let makes = g.V.Change.makes c.args.how.now in
    subst (λ (l : List (Slot g.row.P.Denot)). Became (makes row) (part_in l row) (part_in (kept c.change_all.new.slots) row)) c.self.view_is
    (each_became makes (kept c.self.inside.slots) (kept c.change_all.new.slots) c.change_all.ensures row)

pub returns-clause-size : goal.returns-clause-size
returns-clause-size g c =
    each_length (SlotBecomes (g.V.Change.makes c.args.how.now)) (kept c.self.inside.slots) (kept c.change_all.new.slots) c.change_all.ensures ∙ ap length c.self.view_is
