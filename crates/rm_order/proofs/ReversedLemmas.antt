-- Keys told the other way round.
use Rattle.std.proofs.Common.{◌≡◌, Bool, ◌||◌, List, [], ◌∷◌, map, refl, sym, ap, ◌∙◌, subst, inl, inr, true≢false}
use Rattle.std.specs.List.{list_any}
use Rattle.std.proofs.lemmas.Bool.{cases_Bool}
use Rattle.rm_evicting.specs.Held.{IsExact}

module _ {K : Type 0} (eq : K → K → Bool) where
  -- keys are one where they are one told the other way round, if a key told so twice is itself
  pub alike_of : IsExact eq → (to : K → K) → ((key : K) → to (to key) ≡ key) → (one other : K) → eq (to one) (to other) ≡ eq one other
  alike_of exact to twice one other = elim (cases_Bool (eq one other)) [
    | inl e ↦ subst (λ key. eq (to one) (to key) ≡ eq one key) (exact.same one other e) (exact.itself (to one) ∙ sym (exact.itself one))
    | inr e ↦ elim (cases_Bool (eq (to one) (to other))) [
      | inl f ↦ let same : one ≡ other = sym (twice one) ∙ ap to (exact.same (to one) (to other) f) ∙ twice other in
          absurd (true≢false (sym (exact.itself one) ∙ ap (eq one) same ∙ e))
      | inr f ↦ f ∙ sym e
    ]
  ]

  -- a key is among others where it is so once each is told the other way round
  pub any-of : (to : K → K) → ((one other : K) → eq (to one) (to other) ≡ eq one other) → (key : K) (keys : List K) → list_any (eq (to key)) (map to keys) ≡ list_any (eq key) keys
  any-of to alike key [] = refl
  any-of to alike key (other ∷ keys) = λ d. alike key other d || any-of to alike key keys d
