-- The sample that falls due first.
use Rattle.std.proofs.Common.{◌≡◌, inl, inr, ℕ, Option, Some, None, refl, sym, ◌∙◌}
use Rattle.rm_acts.specs.Alarms.{IsNextDue}
use Rattle.rm_group.specs.Due.{ComesFirst, IsFirst}

pub sample_due : (due : ℕ → Option ℕ) (moment number : ℕ) → IsNextDue due (Some (moment, number))
    → IsFirst (λ one. (one.kind ≡ 1) × (due one.number ≡ Some one.moment)) (Some (record { moment = moment; kind = 1; number = number }))
sample_due due moment number next = (
  (refl, next.0),
  λ other is. elim (next.1 other.number other.moment is.1) as (λ _. ComesFirst (record { moment = moment; kind = 1; number = number }) other) [
    | inl x ↦ inl x
    | inr y ↦ inr (y.0, inr (sym is.0, y.1))
  ],
)

pub no_sample_due : (due : ℕ → Option ℕ) → IsNextDue due None → IsFirst (λ one. (one.kind ≡ 1) × (due one.number ≡ Some one.moment)) None
no_sample_due due none one is = let gone : None ≡ Some one.moment = sym (none one.number) ∙ is.1 in absurd (cc)
