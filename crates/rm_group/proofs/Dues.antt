-- The first of what falls due.
use Rattle.std.proofs.Common.{◌≡◌, ◌⊎◌, inl, inr, ℕ, ◌<◌, ◌≤◌, Option, Some, None, refl, sym, ◌∙◌, subst, ap, arith}
use Rattle.std.specs.Prelude.{◌↔◌}
use Rattle.rm_group.specs.declared.due.Due.{Due}
use Rattle.rm_group.specs.Due.{ComesFirst, IsFirst, IsSooner, HaveEnded}

pub through : (a b c : Due) → ComesFirst a b → ComesFirst b c → ComesFirst a c
through a b c (inl x) (inl y) = inl (omega (arith, x, y))
through a b c (inl x) (inr y) = inl (omega (arith, x, y.0))
through a b c (inr x) (inl y) = inl (omega (arith, x.0, y))
through a b c (inr x) (inr y) = inr (x.0 ∙ y.0, kinds x.1 y.1)
  where
    kinds : (a.kind < b.kind) ⊎ ((a.kind ≡ b.kind) × (a.number ≤ b.number)) → (b.kind < c.kind) ⊎ ((b.kind ≡ c.kind) × (b.number ≤ c.number)) → (a.kind < c.kind) ⊎ ((a.kind ≡ c.kind) × (a.number ≤ c.number))
    kinds (inl x) (inl y) = inl (omega (arith, x, y))
    kinds (inl x) (inr y) = inl (omega (arith, x, y.0))
    kinds (inr x) (inl y) = inl (omega (arith, x.0, y))
    kinds (inr x) (inr y) = inr (x.0 ∙ y.0, omega (arith, x.1, y.1))

-- the first of some, where the first of others doesn't come before it
pub of_both : (some others : Due → Type 0) (one other : Due) → IsFirst some (Some one) → IsFirst others (Some other) → ComesFirst one other
    → IsFirst (λ due. some due ⊎ others due) (Some one)
of_both some others one other first second before =
    (inl first.0, λ due is. elim is as (λ _. ComesFirst one due) [ inl x ↦ first.1 due x | inr y ↦ through one other due before (second.1 due y) ])

pub of_both_second : (some others : Due → Type 0) (one other : Due) → IsFirst some (Some one) → IsFirst others (Some other) → ComesFirst other one
    → IsFirst (λ due. some due ⊎ others due) (Some other)
of_both_second some others one other first second before =
    (inr second.0, λ due is. elim is as (λ _. ComesFirst other due) [ inl x ↦ through other one due before (first.1 due x) | inr y ↦ second.1 due y ])

pub of_first : (some others : Due → Type 0) (one : Due) → IsFirst some (Some one) → IsFirst others None → IsFirst (λ due. some due ⊎ others due) (Some one)
of_first some others one first none =
    (inl first.0, λ due is. elim is as (λ _. ComesFirst one due) [ inl x ↦ first.1 due x | inr y ↦ absurd (none due y) ])

pub of_second : (some others : Due → Type 0) (other : Option Due) → IsFirst some None → IsFirst others other → IsFirst (λ due. some due ⊎ others due) other
of_second some others (Some other) none second =
    (inr second.0, λ due is. elim is as (λ _. ComesFirst other due) [ inl x ↦ absurd (none due x) | inr y ↦ second.1 due y ])
of_second some others None none also = λ due is. elim is as (λ _. ⊥) [ inl x ↦ none due x | inr y ↦ also due y ]

-- the sooner of two that are the first of some
pub of_sooner : (some others : Due → Type 0) (one other result : Option Due) → IsSooner one other result → IsFirst some one → IsFirst others other
    → IsFirst (λ due. some due ⊎ others due) result
of_sooner some others None other result is first second =
    subst (IsFirst (λ due. some due ⊎ others due)) (sym is) (of_second some others other first second)
of_sooner some others (Some one) None result is first second =
    subst (IsFirst (λ due. some due ⊎ others due)) (sym is) (of_first some others one first second)
of_sooner some others (Some one) (Some other) result is first second =
    elim is as (λ _. IsFirst (λ due. some due ⊎ others due) result) [
      | inl x ↦ subst (IsFirst (λ due. some due ⊎ others due)) (sym x.0) (of_both some others one other first second x.1)
      | inr y ↦ subst (IsFirst (λ due. some due ⊎ others due)) (sym y.0) (of_both_second some others one other first second y.1)
    ]

-- A report that ends at 5: all has ended at 4, but not at 5. So a group of which it falls due can't be one that may always be asked.
abbrev end_at : ℕ → Due
end_at moment = record { moment = moment; kind = 0; number = 1 }

ended_before : HaveEnded (λ due. due ≡ end_at 5) 4
ended_before due is below = let at : due.moment ≡ 5 = ap (λ (d : Due). d.moment) is in omega (arith, at)

not_always_asked : ((moment : ℕ) → Unit {0} ↔ HaveEnded (λ due. due ≡ end_at 5) moment) → ⊥
not_always_asked asked = let late : 5 < 5 = (asked 5).0 tt (end_at 5) refl (omega arith) in omega (arith, late)
