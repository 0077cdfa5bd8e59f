-- The first of some elements that passes a test, by what stands for each.
use Rattle.std.proofs.Common.{◌≡◌, List, [], ◌∷◌, map, Bool, true, false, cond, Some, find, option_map, refl}

pub find-map : {A B : Type 0} (f : A → B) (test : B → Bool) (xs : List A) → option_map f (find (λ x. test (f x)) xs) ≡ find test (map f xs)
find-map f test [] = refl
find-map f test (x ∷ xs) = elim (test (f x)) as (λ t. option_map f (cond t (Some x) (find (λ y. test (f y)) xs)) ≡ cond t (Some (f x)) (find test (map f xs))) [
  | true ↦ refl
  | false ↦ find-map f test xs
]
