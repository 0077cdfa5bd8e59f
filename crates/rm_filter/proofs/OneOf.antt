-- What is so of each of some numbers is so of one of them.
use Rattle.std.proofs.Common.{◌≡◌, ℕ, List, [], ◌∷◌, true, false, ◌||◌, refl, subst, nat_eq, arith}
use Rattle.std.specs.List.{AllByRecursion}
use Rattle.std.proofs.lemmas.Bool.Decides.{nat_tests}
use Rattle.rm_model.specs.Cells.{is_one_of}

pub each_of : (P : ℕ → Type 0) (numbers : List ℕ) → AllByRecursion P numbers → (n : ℕ) → is_one_of numbers n ≡ true → P n
each_of P [] all n is = absurd (cc)
each_of P (m ∷ more) all n is =
    elim (nat_eq m n) as (λ t. nat_eq m n ≡ t → (t || is_one_of more n) ≡ true → P n) [
      | true ↦ λ same _. let e : m ≡ n = grind (arith, nat_tests) in subst P e all.0
      | false ↦ λ _ rest. each_of P more all.1 n rest
    ] refl is
