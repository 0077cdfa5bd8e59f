-- What is held where each key is replaced by another that stands for it.
use Rattle.std.proofs.Common.{◌≡◌, ℕ, Bool, ◌&&◌, List, [], ◌∷◌, map, length, min, nat_lt, refl, ap, ◌∙◌, inl, inr}
use Rattle.std.proofs.lemmas.Bool.{cases_Bool}
use Rattle.std.proofs.lemmas.List.{length-map}
use Rattle.rm_order.proofs.ReversedLemmas.{any-of}
use Rattle.rm_evicting.specs.Held.{without, distinct, after_last, held, size}

module _ {K : Type 0} (eq : K → K → Bool) (to : K → K) (alike : (one other : K) → eq (to one) (to other) ≡ eq one other) where
  without-of : (k : K) (ks : List K) → without eq (to k) (map to ks) ≡ map to (without eq k ks)
  without-of k [] = refl
  without-of k (j ∷ ks) = elim (cases_Bool (eq k j)) [
    | inl e ↦ rw (alike k j, e) (without-of k ks)
    | inr e ↦ rw (alike k j, e) (ap (λ l. to j ∷ l) (without-of k ks))
  ]

  distinct-of : (ks : List K) → distinct eq (map to ks) ≡ map to (distinct eq ks)
  distinct-of [] = refl
  distinct-of (k ∷ ks) = ap (λ l. to k ∷ without eq (to k) l) (distinct-of ks) ∙ ap (λ l. to k ∷ l) (without-of k (distinct eq ks))

  after_last-of : (k : K) (ks : List K) → after_last eq (to k) (map to ks) ≡ map to (after_last eq k ks)
  after_last-of k [] = refl
  after_last-of k (j ∷ ks) = elim (cases_Bool (eq k j)) [
    | inl e ↦ rw (alike k j, e) refl
    | inr e ↦ rw (alike k j, e) (ap (λ l. to j ∷ l) (after_last-of k ks))
  ]

  many-of : (ks : List K) → length (distinct eq (map to ks)) ≡ length (distinct eq ks)
  many-of ks = ap length (distinct-of ks) ∙ length-map (distinct eq ks) to

  pub held-of : (capacity : ℕ) (k : K) (ks : List K) → held eq capacity (to k) (map to ks) ≡ held eq capacity k ks
  held-of capacity k ks = λ d. any-of eq to alike k ks d && nat_lt ((ap (λ l. length (distinct eq l)) (after_last-of k ks) ∙ many-of (after_last eq k ks)) d) capacity

  pub size-of : (capacity : ℕ) (ks : List K) → size eq capacity (map to ks) ≡ size eq capacity ks
  size-of capacity ks = ap (min capacity) (many-of ks)
