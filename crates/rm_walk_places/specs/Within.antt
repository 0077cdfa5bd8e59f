-- Numbers within bounds.
use Rattle.std.specs.Prelude.{ℕ, ◌≤◌, Bool, true, false, ◌&&◌, nat_le, List, [], ◌∷◌, ⊤}
use Rattle.rm_walk_places.specs.declared.places.Bounds.{Bounds}

-- no least number is above the greatest at its place
abbrev pub AreBounds : List Bounds → Type 0
AreBounds [] = ⊤
AreBounds (bound ∷ bounds) = (bound.least ≤ bound.greatest) × AreBounds bounds

-- there are as many numbers as bounds, none below its least nor above its greatest
abbrev pub AreWithin : (bounds : List Bounds) → List ℕ → Type 0
AreWithin [] [] = ⊤
AreWithin [] (number ∷ numbers) = ⊥
AreWithin (bound ∷ bounds) [] = ⊥
AreWithin (bound ∷ bounds) (number ∷ numbers) = (bound.least ≤ number) × (number ≤ bound.greatest) × AreWithin bounds numbers

-- the same as a test
abbrev pub are_within : (bounds : List Bounds) → List ℕ → Bool
are_within [] [] = true
are_within [] (number ∷ numbers) = false
are_within (bound ∷ bounds) [] = false
are_within (bound ∷ bounds) (number ∷ numbers) = nat_le bound.least number && (nat_le number bound.greatest && are_within bounds numbers)
