use Rattle.std.proofs.Common.{ℕ, ◌≡◌, ◌≤◌, zero, suc, List, [], ◌∷◌, drop, length, None, refl, sym, ap, ◌∙◌, subst, arith}
use Rattle.std.specs.Ordering.{nat_cmp}
use Rattle.rm_layers.specs.Marks.{IsLeast, IsAboveName}
use Rattle.rm_upper.specs.Walk.{IsMarked, best_of}
use Rattle.rm_upper.proofs.WalkLemmas.{best_is}
use Rattle.rm_upper.proofs.walk.next_protocol.Goals as goal

drop_end : {X : Type 0} (i : ℕ) (xs : List X) → length xs ≤ i → drop i xs ≡ []
drop_end i [] le = drop_none i
  where
    drop_none : {X : Type 0} (i : ℕ) → drop i (let none : List X = [] in none) ≡ []
    drop_none zero = refl
    drop_none (suc i) = refl
drop_end zero (x ∷ xs) le = absurd (omega arith)
drop_end (suc i) (x ∷ xs) le = drop_end i xs (omega arith)

pub returns-clause-least : goal.returns-clause-least
returns-clause-least g c =
    let none = drop_end c.loop-place.place c.args.slots.now c.loop-place-test.false in
    let found : c.loop-place.best ≡ best_of c.args.mark c.args.from c.args.slots.now c.args.applications.now None = ap (λ l. best_of c.args.mark c.args.from l (drop c.loop-place.place c.args.applications.now) c.loop-place.best) (sym none) ∙ c.loop-place.invariant.best in
    subst (IsLeast nat_cmp (IsMarked c.args.mark c.args.slots.now c.args.applications.now) (IsAboveName nat_cmp c.args.from)) (sym found) (best_is c.args.mark c.args.from c.args.slots.now c.args.applications.now)
