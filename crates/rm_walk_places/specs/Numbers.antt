-- Lists of numbers within bounds are finitely many.
use Rattle.std.proofs.Common.{◌≡◌, ℕ, Bool, true, ◌&&◌, nat_le, List, [], ◌∷◌, Contains}
use Rattle.std.proofs.lemmas.Bool.{and_parts, leb-true}
use Rattle.rm_model.proofs.Members.{here}
use Rattle.rm_nested.proofs.Finite.{numbers, in_numbers, nested, in_nested}
use Rattle.rm_walk_places.specs.declared.places.Bounds.{Bounds}
use Rattle.rm_walk_places.specs.Within.{are_within}

-- all lists with no number above its greatest, among which are those within bounds
abbrev pub lists_within : (bounds : List Bounds) → List (List ℕ)
lists_within [] = [] ∷ []
lists_within (bound ∷ bounds) = nested (numbers bound.greatest) (λ number. lists_within bounds)

module _ (bound : Bounds) (bounds : List Bounds) where
  -- the test of a number and what stands behind it
  abbrev begins : ℕ → List ℕ → Bool
  begins number index = are_within (bound ∷ bounds) (number ∷ index)

  not_above : (number : ℕ) (index : List ℕ) → begins number index ≡ true → (nat_le number bound.greatest ≡ true) × (are_within bounds index ≡ true)
  not_above number index within =
      and_parts (nat_le number bound.greatest) (are_within bounds index) (and_parts (nat_le bound.least number) (nat_le number bound.greatest && are_within bounds index) within).1

pub in_lists : (bounds : List Bounds) (index : List ℕ) → are_within bounds index ≡ true → Contains (lists_within bounds) index
in_lists [] [] is = here [] []
in_lists [] (number ∷ index) is = absurd (cc)
in_lists (bound ∷ bounds) [] is = absurd (cc)
in_lists (bound ∷ bounds) (number ∷ index) is =
    in_nested (begins bound bounds) (numbers bound.greatest) (λ number. lists_within bounds)
    (λ number index within. in_numbers (λ n. nat_le n bound.greatest) bound.greatest (λ n le. leb-true n bound.greatest le) (number ∷ []) (not_above bound bounds number index within).0)
    (λ number index within. in_lists bounds index (not_above bound bounds number index within).1)
    (number ∷ index) is
