-- Numbers within bounds pass the test.
use Rattle.std.proofs.Common.{◌≡◌, ℕ, Bool, true, false, ◌&&◌, nat_le, List, [], ◌∷◌, refl}
use Rattle.std.proofs.lemmas.Bool.{le-leb}
use Rattle.rm_walk_places.specs.declared.places.Bounds.{Bounds}
use Rattle.rm_walk_places.specs.Within.{AreWithin, are_within}

and_both : (a b : Bool) → a ≡ true → b ≡ true → (a && b) ≡ true
and_both true b first second = second
and_both false b first second = first

pub test : (bounds : List Bounds) (numbers : List ℕ) → AreWithin bounds numbers → are_within bounds numbers ≡ true
test [] [] are = refl
test [] (number ∷ numbers) are = absurd are
test (bound ∷ bounds) [] are = absurd are
test (bound ∷ bounds) (number ∷ numbers) are =
    and_both (nat_le bound.least number) (nat_le number bound.greatest && are_within bounds numbers) (le-leb bound.least number are.0)
    (and_both (nat_le number bound.greatest) (are_within bounds numbers) (le-leb number bound.greatest are.1) (test bounds numbers are.2))
