-- The numbers from 1 to another are those that aren't below 1 and not above it.
use Rattle.std.proofs.Common.{◌≡◌, ℕ, zero, suc, ◌≤◌, ◌⊎◌, inl, inr, [], ◌∷◌, refl, subst, true, false, ◌&&◌, nat_eq, nat_le, Contains, arith}
use Rattle.std.proofs.lemmas.Bool.{and_parts}
use Rattle.std.proofs.lemmas.Bool.Decides.{nat_tests}
use Rattle.std.proofs.lemmas.List.Elements.{Contains-append_left, Contains-push, Contains-push_cases}
use Rattle.rm_model.specs.Interfaces.{up_to}
use Rattle.rm_model.proofs.Members.{none_in}

pub up_to_has : (n k : ℕ) → 1 ≤ k → k ≤ n → Contains (up_to n) k
up_to_has zero k some most = absurd (omega (arith, some, most))
up_to_has (suc n) k some most =
    elim (nat_eq k (suc n)) as (λ t. nat_eq k (suc n) ≡ t → Contains (up_to (suc n)) k) [
      | true ↦ λ same.
          let is : suc n ≡ k = grind (arith, nat_tests) in
          subst (Contains (up_to (suc n))) is (Contains-push (up_to n) (suc n))
      | false ↦ λ differs.
          let below : k ≤ n = grind (arith, nat_tests) in
          Contains-append_left (up_to n) (suc n ∷ []) k (up_to_has n k some below)
    ] refl

pub up_to_within : (n k : ℕ) → Contains (up_to n) k → (1 ≤ k) × (k ≤ n)
up_to_within zero k within = absurd (none_in k within)
up_to_within (suc n) k within = by_place (up_to_within n k) (Contains-push_cases (up_to n) (suc n) k within)
  where
    by_place : (Contains (up_to n) k → (1 ≤ k) × (k ≤ n)) → Contains (up_to n) k ⊎ (suc n ≡ k) → (1 ≤ k) × (k ≤ suc n)
    by_place bounds (inl earlier) = let is = bounds earlier in (is.0, omega (arith, is.1))
    by_place bounds (inr last) = (omega (arith, last), omega (arith, last))

pub numbers_listed : (n k : ℕ) → (nat_le 1 k && nat_le k n) ≡ true → Contains (up_to n) k
numbers_listed n k between =
    let both = and_parts (nat_le 1 k) (nat_le k n) between in
    let some : 1 ≤ k = grind (arith, nat_tests, both.0) in
    let most : k ≤ n = grind (arith, nat_tests, both.1) in
    up_to_has n k some most
