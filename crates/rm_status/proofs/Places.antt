-- Where the row of an index stands.
use Rattle.std.proofs.Common.{◌≡◌, ℕ, ◌≤◌, ◌+◌, suc, Bool, true, false, cond, not, nat_lt, List, [], ◌∷◌, length, Some, None, position, refl, arith}
use Rattle.std.specs.List.{position_or_len}
use Rattle.std.proofs.lemmas.Bool.Decides.{nat_tests}

-- what a search for a place gives
pub place_of_some : {X : Type 0} (p : X → Bool) (xs : List X) (k : ℕ) → Some k ≡ position p xs → k ≡ position_or_len p xs
place_of_some p xs k e =
    elim (nat_lt (position_or_len p xs) (length xs)) as (λ t. Some k ≡ cond t (Some (position_or_len p xs)) None → k ≡ position_or_len p xs) [ true ↦ λ h. cc | false ↦ λ h. cc ] e

pub within : {X : Type 0} (p : X → Bool) (xs : List X) → position_or_len p xs ≤ length xs
within p [] = omega arith
within p (x ∷ xs) = elim (p x) as (λ t. cond (not t) (1 + position_or_len p xs) 0 ≤ suc (length xs)) [ true ↦ omega arith | false ↦ omega (arith, within p xs) ]

pub place_of_none : {X : Type 0} (p : X → Bool) (xs : List X) → None ≡ position p xs → length xs ≡ position_or_len p xs
place_of_none p xs e =
    elim (nat_lt (position_or_len p xs) (length xs)) as (λ t. nat_lt (position_or_len p xs) (length xs) ≡ t → None ≡ cond t (Some (position_or_len p xs)) None → length xs ≡ position_or_len p xs) [ true ↦ λ _ h. cc | false ↦ λ f _. let le : length xs ≤ position_or_len p xs = grind (arith, nat_tests) in omega (arith, within p xs) ] refl e
