-- The last arrival is the least place from which on neighbouring occurrences are near.
use Rattle.std.proofs.Common.{◌≡◌, ℕ, ◌<◌, suc, Bool, true, false, cond, not, ◌&&◌, ◌||◌, nat_lt, List, [], ◌∷◌, ◌++◌, length, refl, sym, ap, ◌∙◌, arith, subst, inl, inr}
use Rattle.std.specs.List.{list_any}
use Rattle.std.proofs.lemmas.Bool.{cases_Bool, true≢false, not-false}
use Rattle.rm_evicting.specs.Mention.{Mention, refers, strays, keys}
use Rattle.rm_evicting.specs.Held.{distinct, after_last, held, is_arrival, since_entry}
use Rattle.rm_evicting.specs.Neighbours.{is_near, is_unbroken, ends_in, from_entry, IsLeastEntry}
use Rattle.rm_evicting.proofs.Recency.{and_false}

module _ {K : Type 0} (eq : K → K → Bool) (cap : ℕ) where
  among_ends : (h : K) (front : List K) → ends_in eq cap h front ≡ true → list_any (eq h) front ≡ true
  among_ends h [] e = e
  among_ends h (k ∷ []) e = ap (λ b. b || false) e
  among_ends h (k ∷ (j ∷ ks)) e = elim (cases_Bool (eq h k)) [ inl t ↦ rw t refl | inr f ↦ rw f (among_ends h (j ∷ ks) e) ]

  -- what comes after the last h doesn't depend on what comes before it
  after_last-front : (h : K) (front before : List K) → list_any (eq h) front ≡ true → after_last eq h (front ++ before) ≡ after_last eq h front
  after_last-front h [] before i = absurd (true≢false (sym i))
  after_last-front h (k ∷ front) before i = elim (cases_Bool (eq h k)) [
    | inl e ↦ rw e refl
    | inr e ↦ rw e (ap (λ l. k ∷ l) (after_last-front h front before (rw e at i)))
  ]

  among_front : (h : K) (front before : List K) → list_any (eq h) front ≡ true → list_any (eq h) (front ++ before) ≡ true
  among_front h [] before i = absurd (true≢false (sym i))
  among_front h (k ∷ front) before i = elim (cases_Bool (eq h k)) [
    | inl e ↦ rw e refl
    | inr e ↦ rw e (among_front h front before (rw e at i))
  ]

  rest_of : (h : K) (ks : List K) → (rest : List K) × (ks ≡ from_entry eq cap h ks ++ rest)
  rest_of h [] = ([], refl)
  rest_of h (k ∷ ks) = elim (cases_Bool (eq h k && is_arrival eq cap h ks)) [
    | inl e ↦ (ks, rw e refl)
    | inr e ↦ let more = rest_of h ks in (more.0, rw e (ap (λ l. k ∷ l) more.1))
  ]

  -- from the entry on the last occurrence is near
  near_entry : (h : K) (ks : List K) → held eq cap h ks ≡ true → is_near eq cap h (from_entry eq cap h ks) ≡ true
  near_entry h ks i = elim (cases_Bool (list_any (eq h) (from_entry eq cap h ks))) [
    | inl e ↦
        let rest = rest_of h ks in
        let same : after_last eq h ks ≡ after_last eq h (from_entry eq cap h ks) = ap (after_last eq h) rest.1 ∙ after_last-front h (from_entry eq cap h ks) rest.0 e in
        rw (e, ← same) (few (list_any (eq h) ks) (nat_lt (length (distinct eq (after_last eq h ks))) cap) i)
    | inr e ↦ rw e refl
  ]
    where
      few : (a b : Bool) → (a && b) ≡ true → b ≡ true
      few true b e = e
      few false b e = absurd (true≢false (sym e))

  unbroken_entry : (h : K) (ks : List K) → is_unbroken eq cap h (from_entry eq cap h ks) ≡ true
  unbroken_entry h [] = refl
  unbroken_entry h (k ∷ ks) = elim (cases_Bool (eq h k)) [
    | inl e ↦ elim (cases_Bool (is_arrival eq cap h ks)) [
      | inl y ↦ rw (e, y) refl
      | inr y ↦ rw (e, y, near_entry h ks (not-false (held eq cap h ks) y)) (unbroken_entry h ks)
    ]
    | inr e ↦ rw e (unbroken_entry h ks)
  ]

  parts_of : (a b : Bool) → (a && b) ≡ true → (a ≡ true) × (b ≡ true)
  parts_of true b e = (refl, e)
  parts_of false b e = absurd (true≢false (sym e))

  -- an arrival whose key comes before lies far from it
  far : (h : K) (front before : List K) → list_any (eq h) front ≡ true → is_arrival eq cap h (front ++ before) ≡ true → is_near eq cap h front ≡ false
  far h front before i a = rw (i, ← after_last-front h front before i) (few (nat_lt (length (distinct eq (after_last eq h (front ++ before)))) cap) (rw (among_front h front before i) at a))
    where
      few : (b : Bool) → not (true && b) ≡ true → b ≡ false
      few true e = absurd (true≢false (sym e))
      few false e = refl

  least_entry : (h : K) (front before : List K) → ends_in eq cap h front ≡ true → length (from_entry eq cap h (front ++ before)) < length front → is_unbroken eq cap h front ≡ false
  least_entry h [] before e lt = absurd (omega arith)
  least_entry h (k ∷ []) before e lt = absurd (omega arith)
  least_entry h (k ∷ (j ∷ front)) before e lt = elim (cases_Bool (eq h k && is_arrival eq cap h ((j ∷ front) ++ before))) [
    | inl y ↦ let both = parts_of (eq h k) (is_arrival eq cap h ((j ∷ front) ++ before)) y in rw (both.0, far h (j ∷ front) before (among_ends h (j ∷ front) e) both.1) refl
    | inr y ↦ rw (least_entry h (j ∷ front) before e (let less : suc (length (from_entry eq cap h ((j ∷ front) ++ before))) < suc (suc (length front)) = rw y at lt in omega arith)) (and_false (cond (eq h k) (is_near eq cap h (j ∷ front)) true))
  ]

  pub least : (h : K) (ks : List K) → IsLeastEntry eq cap h ks
  least h ks = record {
    near = unbroken_entry h ks;
    least = λ front before e ends lt. least_entry h front before ends (subst (λ l. length (from_entry eq cap h l) < length front) e lt);
  }

module _ {K C : Type 0} (eq : K → K → Bool) (cap : ℕ) where
  -- the keys of the mentions from the entry on
  pub keys-since_entry : (h : K) (r : List (Mention K C)) → keys (since_entry eq cap h r) ≡ from_entry eq cap h (keys r)
  keys-since_entry h [] = refl
  keys-since_entry h (strays k c ∷ r) = keys-since_entry h r
  keys-since_entry h (refers k s t c ∷ r) = elim (cases_Bool (eq h k && is_arrival eq cap h (keys r))) [
    | inl y ↦ rw y refl
    | inr y ↦ rw y (ap (λ l. k ∷ l) (keys-since_entry h r))
  ]
