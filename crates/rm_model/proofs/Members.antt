-- What is in a list.
use Rattle.std.proofs.Common.{◌≡◌, ◌<◌, ◌⊎◌, inl, inr, List, [], ◌∷◌, map, subst, Contains, arith}
use Rattle.std.proofs.lemmas.List.Elements.{Contains-append_left, Contains-append_right, Contains-append_cases, Contains-push, Contains-push_cases}

module _ {X : Type 0} where
  pub none_in : (x : X) → Contains [] x → ⊥
  none_in x within = let under : within.0 < 0 = within.1 in omega arith

  pub here : (x : X) (xs : List X) → Contains (x ∷ xs) x
  here x xs = Contains-append_left (x ∷ []) xs x (Contains-push [] x)

  pub there : (x : X) (xs : List X) (y : X) → Contains xs y → Contains (x ∷ xs) y
  there x xs y within = Contains-append_right (x ∷ []) xs y within

  -- what holds of the first, and of each of the others
  pub each : (P : X → Type 0) (x : X) (xs : List X) → P x → ((y : X) → Contains xs y → P y) → (y : X) → Contains (x ∷ xs) y → P y
  each P x xs first others y within = by_part (Contains-append_cases (x ∷ []) xs y within)
    where
      by_one : Contains [] y ⊎ (x ≡ y) → P y
      by_one (inl none) = absurd (none_in y none)
      by_one (inr same) = subst P same first

      by_part : Contains (x ∷ []) y ⊎ Contains xs y → P y
      by_part (inl one) = by_one (Contains-push_cases [] x y one)
      by_part (inr more) = others y more

pub in_map : {X Y : Type 0} (f : X → Y) (xs : List X) (x : X) → Contains xs x → Contains (map f xs) (f x)
in_map f [] x within = absurd (none_in x within)
in_map f (y ∷ ys) x within =
    each (λ z. Contains (f y ∷ map f ys) (f z)) y ys (here (f y) (map f ys)) (λ z more. there (f y) (map f ys) (f z) (in_map f ys z more)) x within
