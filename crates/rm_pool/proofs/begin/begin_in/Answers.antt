use Rattle.std.proofs.Common.{◌≡◌, ℕ, List, cond, Some, None, sym, ◌∙◌, ap, subst, rules, arith}
use Rattle.std.specs.List.{position}
use Rattle.rm_pool.specs.declared.slot.Slot.{Slot}
use Rattle.rm_pool.specs.Pools.{IsThere}
use Rattle.rm_pool.specs.Slots.{is_spare, part_in}
use Rattle.rm_pool.proofs.Spares.{eq_itself, spare_at, set_in, apart_set, all_used}
use Rattle.rm_pool.proofs.begin.begin_in.Goals as goal

pub returns-in-Some : goal.returns-in-Some
returns-in-Some g c =
    let slots = c.args.slots.now.items in
    let y = c.begin_one.new.slot in
    let d = c.index_mut.result.now in
    let at = spare_at slots c.in-Some.place d (subst (λ (l : List (Slot g.row.P.Denot)). position is_spare l ≡ Some c.in-Some.place) c.as_slice.ensures.value (sym c.in-Some.ensures)) in
    let here = λ (other : ℕ). set_in y c.args.row c.begin_one.ensures.row slots c.in-Some.place d at.0 at.1 c.requires.none other in
    record {
      begun = subst (IsThere (g.B.Begin.begun c.args.how.now c.args.row)) (sym (here c.args.row ∙ ap (λ t. cond t (Some y.part) (part_in slots c.args.row)) (eq_itself c.args.row))) c.begin_one.ensures.begun;
      others = λ other apart. here other ∙ ap (λ t. cond t (Some y.part) (part_in slots other)) apart;
      size = search rules;
      apart = apart_set y c.args.row c.begin_one.ensures.row c.requires.fits slots c.in-Some.place d at.0 at.1 c.requires.none c.requires.apart;
    }

pub returns-in_default-clause-begun : goal.returns-in_default-clause-begun
returns-in_default-clause-begun g c =
    let all = all_used c.args.slots.now.items c.requires.apart (subst (λ (l : List (Slot g.row.P.Denot)). None ≡ position is_spare l) c.as_slice.ensures.value c.in_default.ensures) in
    absurd (omega (arith, all, c.requires.spare))
