-- Loops that write each element of a list.
use Rattle.std.proofs.Common.{◌≡◌, ℕ, ◌<◌, ◌≤◌, ◌+◌, ◌-◌, zero, suc, List, [], ◌∷◌, ◌++◌, length, map, Option, Some, refl, sym, ap, ◌∙◌, arith, get_or, take, drop, slice_set, add-one}
use Rattle.std.specs.List.{filter_map, cons_option}
use Rattle.rm_model.specs.declared.row.State.{State}
use Rattle.rm_status.specs.declared.row.Row.{Row}
use Rattle.rm_status.specs.Rows.{with_state_at}

module _ {X : Type 0} (f : X → X) where
  abbrev done : List X → ℕ → List X
  done init k = map f (take k init) ++ drop k init

  more : (init : List X) (k : ℕ) (d : X) → k < length init → slice_set (done init k) k (f (get_or init k d)) ≡ done init (suc k)
  more [] k d lt = absurd (omega arith)
  more (a ∷ init) zero d lt = refl
  more (a ∷ init) (suc k) d lt = ap (λ l. f a ∷ l) (more init k d (omega arith))

  at : (init : List X) (k : ℕ) (d : X) → k < length init → get_or (done init k) k d ≡ get_or init k d
  at [] k d lt = absurd (omega arith)
  at (a ∷ init) zero d lt = refl
  at (a ∷ init) (suc k) d lt = at init k d (omega arith)

  -- one more element written, where x was read at its place and y written there
  pub one_more : (init rows : List X) (k : ℕ) (d y : X) → rows ≡ done init k → k < length init → y ≡ f (get_or rows k d) → slice_set rows k y ≡ done init (k + 1)
  one_more init rows k d y is lt e =
      let here : get_or rows k d ≡ get_or init k d = ap (λ l. get_or l k d) is ∙ at init k d lt in
      ap (λ l. slice_set l k y) is ∙ ap (λ v. slice_set (done init k) k v) (e ∙ ap f here) ∙ more init k d lt ∙ ap (done init) (sym (add-one k))

module _ {C : Type 0} (f : Row C → Option (Row C)) where
  abbrev left : List (Row C) → ℕ → List (Row C)
  left init k = take k init ++ filter_map f (drop k init)

  read : (init : List (Row C)) (k : ℕ) (d : Row C) → k < length init → get_or (left init (suc k)) k d ≡ get_or init k d
  read [] k d lt = absurd (omega arith)
  read (a ∷ init) zero d lt = refl
  read (a ∷ init) (suc k) d lt = read init k d (omega arith)

  kept : (init : List (Row C)) (k : ℕ) (d : Row C) (s : State) → k < length init → f (get_or init k d) ≡ Some (record (get_or init k d) { state = s }) → with_state_at (left init (suc k)) k s ≡ left init k
  kept [] k d s lt e = absurd (omega arith)
  kept (a ∷ init) zero d s lt e = ap (λ o. cons_option o (filter_map f init)) (sym e)
  kept (a ∷ init) (suc k) d s lt e = ap (λ l. a ∷ l) (kept init k d s (omega arith) e)

  module _ (init rows : List (Row C)) (p : ℕ) (x : Row C) (is : rows ≡ left init p) (some : 0 < p) (lt : p ≤ length init) (seen : x ≡ get_or rows (p - 1) x) where
    up : suc (p - 1) ≡ p
    up = omega arith

    here : x ≡ get_or init (p - 1) x
    here = seen ∙ ap (λ l. get_or l (p - 1) x) (is ∙ ap (left init) (sym up)) ∙ read init (p - 1) x (omega arith)

    pub one_kept : (s : State) → f x ≡ Some (record x { state = s }) → with_state_at rows (p - 1) s ≡ left init (p - 1)
    one_kept s e = ap (λ l. with_state_at l (p - 1) s) (is ∙ ap (left init) (sym up)) ∙ kept init (p - 1) x s (omega arith) (ap f (sym here) ∙ e ∙ ap {A = Row C} {B = Option (Row C)} (λ y. Some (record y { state = s })) here)
