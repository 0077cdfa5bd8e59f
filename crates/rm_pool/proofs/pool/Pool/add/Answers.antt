use Rattle.std.proofs.Common.{Bool, true, false, List, [], ◌∷◌, ◌++◌, cond, sym, subst}
use Rattle.std.specs.Prelude.{is_ok}
use Rattle.rm_pool.specs.declared.slot.Slot.{Slot}
use Rattle.rm_pool.specs.Slots.{kept, spare, AreApart}
use Rattle.rm_pool.proofs.Spares.{apart_more}
use Rattle.rm_pool.proofs.pool.Pool.add.Goals as goal

apart_either : {P : Type 0} (slots : List (Slot P)) (part : P) (b : Bool) → AreApart slots → AreApart (cond b (slots ++ spare part ∷ []) slots)
apart_either slots part true h = apart_more slots part h
apart_either slots part false h = h

pub invariant_of-self : goal.invariant_of-self
invariant_of-self g c = subst AreApart (sym c.add_to.ensures) (apart_either (kept c.self.inside.slots) c.args.part (is_ok c.add_to.result) c.self.invariant)
