-- The interface that a data source names, as the first one of all that it names.
use Rattle.std.proofs.Common.{◌≡◌, ℕ, ◌≤◌, List, [], ◌∷◌, Bool, true, false, cond, ◌||◌, Option, Some, None, refl, sym, ap, ◌∙◌, subst, find, Contains}
use Rattle.std.specs.Prelude.{IsTrue, is_some, ◌↔◌}
use Rattle.std.specs.List.{list_any}
use Rattle.rm_val.specs.Val.{Val}
use Rattle.rm_model.specs.Interfaces.{up_to, is_interface, is_source, interfaces}
use Rattle.rm_model.specs.declared.interface.TheConstants.{INTERFACES}
use Rattle.rm_model.proofs.Members.{none_in, here, there, each}
use Rattle.rm_model.proofs.UpTo.{up_to_has, up_to_within}

-- The first number of a list that passes a test.
module _ (test : ℕ → Bool) where
  found_in : (xs : List ℕ) (k : ℕ) → find test xs ≡ Some k → Contains xs k × (test k ≡ true)
  found_in [] k found = absurd (cc)
  found_in (x ∷ xs) k found =
      elim (test x) as (λ t. test x ≡ t → cond t (Some x) (find test xs) ≡ Some k → Contains (x ∷ xs) k × (test k ≡ true)) [
        | true ↦ λ passes is. let same : x ≡ k = cc in (subst (Contains (x ∷ xs)) same (here x xs), subst (λ n. test n ≡ true) same passes)
        | false ↦ λ _ later. let rest = found_in xs k later in (there x xs k rest.0, rest.1)
      ] refl found

  none_found : (xs : List ℕ) → find test xs ≡ None → (k : ℕ) → Contains xs k → test k ≡ false
  none_found [] none k within = absurd (none_in k within)
  none_found (x ∷ xs) none k within =
      elim (test x) as (λ t. test x ≡ t → cond t (Some x) (find test xs) ≡ None → test k ≡ false) [
        | true ↦ λ _ is. absurd (cc)
        | false ↦ λ fails later. each (λ n. test n ≡ false) x xs fails (none_found xs later) k within
      ] refl none

  any_found : (xs : List ℕ) → list_any test xs ≡ is_some (find test xs)
  any_found [] = refl
  any_found (x ∷ xs) =
      elim (test x) as (λ t. (t || list_any test xs) ≡ is_some (cond t (Some x) (find test xs))) [
        | true ↦ refl
        | false ↦ any_found xs
      ]

module _ (value : Val) (found : Option ℕ) (is : (k : ℕ) → (found ≡ Some k) ↔ (IsTrue (is_interface value k) × (1 ≤ k) × (k ≤ INTERFACES))) where
  by_first : (first : Option ℕ) → find (is_interface value) interfaces ≡ first → found ≡ first
  by_first (Some k) e =
      let facts = found_in (is_interface value) interfaces k e in
      let bounds = up_to_within INTERFACES k facts.0 in
      (is k).1 (facts.1, bounds.0, bounds.1)
  by_first None e = by_found found refl
    where
      by_found : (o : Option ℕ) → found ≡ o → found ≡ None
      by_found None none = none
      by_found (Some k) some =
          let facts = (is k).0 some in
          let not_named : is_interface value k ≡ false = none_found (is_interface value) interfaces e k (up_to_has INTERFACES k facts.1 facts.2) in
          let named : is_interface value k ≡ true = facts.0 in
          absurd (cc)

  pub first_named : found ≡ find (is_interface value) interfaces
  first_named = by_first (find (is_interface value) interfaces) refl

  pub source_found : is_source value ≡ is_some found
  source_found = any_found (is_interface value) interfaces ∙ ap is_some (sym first_named)
