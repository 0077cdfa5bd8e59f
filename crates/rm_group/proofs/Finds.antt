-- A search through a list by a loop.
use Rattle.std.proofs.Common.{◌≡◌, ℕ, ◌<◌, ◌≤◌, zero, suc, Bool, true, false, ◌||◌, List, [], ◌∷◌, length, Some, None, refl, arith, get_or, take}
use Rattle.std.specs.List.{find, list_any}

module _ {X : Type 0} (p : X → Bool) (d : X) where
  pub find_here : (xs : List X) (k : ℕ) → k < length xs → ((j : ℕ) → j < k → p (get_or xs j d) ≡ false) → p (get_or xs k d) ≡ true → find p xs ≡ Some (get_or xs k d)
  find_here [] k lt before here = absurd (omega arith)
  find_here (x ∷ xs) zero lt before here = rw here
  find_here (x ∷ xs) (suc k) lt before here = rw (before 0 (omega arith)) (find_here xs k (omega arith) (λ j h. before (suc j) (omega arith)) here)

  pub find_never : (xs : List X) → ((j : ℕ) → j < length xs → p (get_or xs j d) ≡ false) → find p xs ≡ None
  find_never [] none = refl
  find_never (x ∷ xs) none = rw (none 0 (omega arith)) (find_never xs (λ j h. none (suc j) (omega arith)))

  pub any_here : (xs : List X) (j k : ℕ) → j < k → j < length xs → p (get_or xs j d) ≡ true → list_any p (take k xs) ≡ true
  any_here [] j k lt in_xs here = absurd (omega arith)
  any_here (x ∷ xs) j zero lt in_xs here = absurd (omega arith)
  any_here (x ∷ xs) zero (suc k) lt in_xs here = rw here
  any_here (x ∷ xs) (suc j) (suc k) lt in_xs here = elim (p x) as (λ t. (t || list_any p (take k xs)) ≡ true) [ true ↦ refl | false ↦ any_here xs j k (omega arith) (omega arith) here ]

  pub any_never : (xs : List X) (k : ℕ) → k ≤ length xs → ((j : ℕ) → j < k → p (get_or xs j d) ≡ false) → list_any p (take k xs) ≡ false
  any_never [] zero h none = refl
  any_never [] (suc k) h none = absurd (omega arith)
  any_never (x ∷ xs) zero h none = refl
  any_never (x ∷ xs) (suc k) h none = rw (none 0 (omega arith)) (any_never xs k (omega arith) (λ j h. none (suc j) (omega arith)))
