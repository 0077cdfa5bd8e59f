-- A sum of which one part becomes less, and the others stay, becomes less.
use Rattle.std.proofs.Common.{◌≡◌, ℕ, zero, suc, ◌+◌, ◌<◌, true, false, refl, sym, subst, nat_eq, arith}
use Rattle.std.proofs.lemmas.Bool.Decides.{nat_tests}
use borrow.Author.Tests.{eqb-true}
use Rattle.rm_alarm.specs.Left.{sum_below}

sum_same : (f g : ℕ → ℕ) (n : ℕ) → ((i : ℕ) → i < n → f i ≡ g i) → sum_below f n ≡ sum_below g n
unfolding sum_below
sum_same f g zero same = refl
sum_same f g (suc n) same = let here = same n (omega arith) in let rest = sum_same f g n (λ i low. same i (omega arith)) in omega arith

apart : (i j : ℕ) → i < j → nat_eq j i ≡ false
apart i j low = grind (arith, nat_tests)

lower : (j n : ℕ) → j < suc n → nat_eq j n ≡ false → j < n
lower j n within other = grind (arith, nat_tests)

pub sum_less : (f g : ℕ → ℕ) (j n : ℕ) → j < n → ((i : ℕ) → nat_eq j i ≡ false → f i ≡ g i) → f j < g j → sum_below f n < sum_below g n
unfolding sum_below
sum_less f g j zero within others less = absurd (omega arith)
sum_less f g j (suc n) within others less =
    elim (nat_eq j n) as (λ t. nat_eq j n ≡ t → f n + sum_below f n < g n + sum_below g n) [
      | true ↦ λ e.
          let here : f n < g n = subst (λ k. f k < g k) (eqb-true j n e) less in
          let rest = sum_same f g n (λ i low. others i (subst (λ k. nat_eq k i ≡ false) (sym (eqb-true j n e)) (apart i n low))) in
          omega arith
      | false ↦ λ e.
          let here = others n e in
          let rest = sum_less f g j n (lower j n within e) others less in
          omega arith
    ] refl
