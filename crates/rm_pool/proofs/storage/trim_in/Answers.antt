use Rattle.std.proofs.Common.{◌≡◌, List, None, Some, ap, sym, subst, ◌∙◌, arith}
use Rattle.std.specs.List.{position}
use Rattle.rm_pool.specs.declared.slot.Slot.{Slot}
use Rattle.rm_pool.specs.Slots.{is_spare, part_in, AreApart}
use Rattle.rm_pool.proofs.Spares.{spare_at, removed_in, apart_removed, all_used, same_in_use}
use Rattle.rm_pool.proofs.storage.trim_in.Goals as goal

pub loop-slots-preserved : goal.loop-slots-preserved
loop-slots-preserved g c =
    let slots = c.loop-slots.slots.items in
    let d = c.remove.result in
    let at = spare_at slots c.in-Some.place d (subst (λ (l : List (Slot g.row.P.Denot)). position is_spare l ≡ Some c.in-Some.place) c.as_slice.ensures.value (sym c.in-Some.ensures)) in
    record {
      parts = λ row. ap (λ l. part_in l row) c.remove.ensures.items ∙ removed_in slots c.in-Some.place d at.0 at.1 row ∙ c.loop-slots.invariant.parts row;
      apart = subst AreApart (sym c.remove.ensures.items) (apart_removed slots c.in-Some.place d at.0 at.1 c.loop-slots.invariant.apart);
      enough = omega (arith, c.remove.ensures.len, c.len.ensures, c.loop-slots-test.true, c.loop-slots.invariant.enough);
      no_more = omega (arith, c.remove.ensures.len, c.loop-slots.invariant.no_more);
    }

pub returns-in-None-clause-size : goal.returns-in-None-clause-size
returns-in-None-clause-size g c =
    let slots = c.loop-slots.slots.items in
    let all = all_used slots c.loop-slots.invariant.apart (subst (λ (l : List (Slot g.row.P.Denot)). None ≡ position is_spare l) c.as_slice.ensures.value c.in-None.ensures) in
    let same = same_in_use c.args.slots.now.items slots c.loop-slots.invariant.parts in
    absurd (omega (arith, all, same, c.requires.enough, c.loop-slots-test.true, c.len.ensures))
