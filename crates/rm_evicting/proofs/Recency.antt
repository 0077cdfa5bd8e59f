-- The distinct keys by their last place, and what a reference does to the first of them.
use Rattle.std.proofs.Common.{◌≡◌, ℕ, ◌<◌, zero, suc, Bool, true, false, not, ◌&&◌, ◌||◌, nat_lt, List, [], ◌∷◌, ◌++◌, length, take, refl, sym, ap, ◌∙◌, arith, subst, inl, inr}
use Rattle.std.specs.List.{list_any, AllByRecursion}
use Rattle.std.proofs.lemmas.Bool.{cases_Bool, true≢false, both_ways}
use Rattle.std.proofs.lemmas.Bool.Decides.{nat_tests}
use Rattle.rm_evicting.specs.Held.{IsExact, without, distinct, after_last, held}

pub and_false : (b : Bool) → (b && false) ≡ false
and_false true = refl
and_false false = refl

lt_zero : (n : ℕ) → nat_lt n 0 ≡ false
lt_zero n = grind (arith, nat_tests)

lt_suc : (m n : ℕ) → nat_lt (suc m) (suc n) ≡ nat_lt m n
lt_suc m n = grind (arith, nat_tests)

zero_lt : (n : ℕ) → nat_lt 0 (suc n) ≡ true
zero_lt n = grind (arith, nat_tests)

pub and_true : (b : Bool) → (b && true) ≡ b
and_true true = refl
and_true false = refl

module _ {K : Type 0} (eq : K → K → Bool) (exact : IsExact eq) where
  abbrev among : K → List K → Bool
  among h ks = list_any (eq h) ks

  pub back : (h k : K) → eq h k ≡ false → eq k h ≡ false
  back h k e = elim (cases_Bool (eq k h)) [
    | inl t ↦ absurd (both_ways (eq h k) e (subst (λ j. eq h j ≡ true) (sym (exact.same k h t)) (exact.itself h)))
    | inr f ↦ f
  ]

  -- what one key does, its equal does
  pub swap : (h j k : K) → eq j k ≡ true → eq h j ≡ eq h k
  swap h j k e = ap (eq h) (exact.same j k e)

  pub any-without : (h k : K) (xs : List K) → among h (without eq k xs) ≡ (among h xs && not (eq h k))
  any-without h k [] = refl
  any-without h k (x ∷ xs) = elim (cases_Bool (eq k x)) [
    | inl e ↦ rw e (elim (cases_Bool (eq h x)) [
      | inl f ↦ let g : eq h k ≡ true = swap h k x e ∙ f in rw (f, any-without h k xs, g) (and_false (among h xs))
      | inr f ↦ rw f (any-without h k xs)
    ])
    | inr e ↦ rw e (elim (cases_Bool (eq h x)) [
      | inl f ↦ let g : eq h k ≡ false = back k h (subst (λ j. eq k j ≡ false) (sym (exact.same h x f)) e) in rw (f, g) refl
      | inr f ↦ rw f (any-without h k xs)
    ])
  ]

  pub any-distinct : (h : K) (ks : List K) → among h (distinct eq ks) ≡ among h ks
  any-distinct h [] = refl
  any-distinct h (k ∷ ks) = elim (cases_Bool (eq h k)) [
    | inl e ↦ rw e refl
    | inr e ↦ rw (any-without h k (distinct eq ks), any-distinct h ks, e) (and_true (among h ks))
  ]

  after_last-without : (h k : K) (xs : List K) → eq h k ≡ false → after_last eq h (without eq k xs) ≡ without eq k (after_last eq h xs)
  after_last-without h k [] e = refl
  after_last-without h k (x ∷ xs) e = elim (cases_Bool (eq k x)) [
    | inl t ↦ let f : eq h x ≡ false = sym (swap h k x t) ∙ e in rw (t, f, t) (after_last-without h k xs e)
    | inr f ↦ elim (cases_Bool (eq h x)) [
      | inl t ↦ rw (f, t) refl
      | inr n ↦ rw (f, n, f) (ap (λ l. x ∷ l) (after_last-without h k xs e))
    ]
  ]

  pub distinct-after_last : (h : K) (ks : List K) → distinct eq (after_last eq h ks) ≡ after_last eq h (distinct eq ks)
  distinct-after_last h [] = refl
  distinct-after_last h (k ∷ ks) = elim (cases_Bool (eq h k)) [
    | inl e ↦ rw e refl
    | inr e ↦ rw (e, after_last-without h k (distinct eq ks) e) (ap (λ l. k ∷ without eq k l) (distinct-after_last h ks))
  ]

  within : (h : K) (n : ℕ) (xs : List K) → (among h xs && nat_lt (length (after_last eq h xs)) n) ≡ among h (take n xs)
  within h zero xs = rw (lt_zero (length (after_last eq h xs))) (and_false (among h xs))
  within h (suc n) [] = refl
  within h (suc n) (x ∷ xs) = elim (cases_Bool (eq h x)) [
    | inl e ↦ rw e (zero_lt n)
    | inr e ↦ rw (e, lt_suc (length (after_last eq h xs)) n) (within h n xs)
  ]

  -- the keys held are the first cap of the distinct ones
  pub held_first : (cap : ℕ) (h : K) (ks : List K) → held eq cap h ks ≡ among h (take cap (distinct eq ks))
  held_first cap h ks = rw (distinct-after_last h ks, ← any-distinct h ks) (within h cap (distinct eq ks))

  -- no key stands twice
  abbrev pub IsApart : List K → Type 0
  IsApart [] = Unit {0}
  IsApart (x ∷ xs) = (among x xs ≡ false) × IsApart xs

  apart-without : (k : K) (xs : List K) → IsApart xs → IsApart (without eq k xs)
  apart-without k [] a = tt
  apart-without k (x ∷ xs) a = elim (cases_Bool (eq k x)) [
    | inl e ↦ rw e (apart-without k xs a.1)
    | inr e ↦ rw e (any-without x k xs ∙ ap (λ b. b && not (eq x k)) a.0, apart-without k xs a.1)
  ]

  pub distinct-apart : (ks : List K) → IsApart (distinct eq ks)
  distinct-apart [] = tt
  distinct-apart (k ∷ ks) = (any-without k k (distinct eq ks) ∙ ap (λ b. among k (distinct eq ks) && not b) (exact.itself k) ∙ and_false (among k (distinct eq ks)), apart-without k (distinct eq ks) (distinct-apart ks))

  without-absent : (k : K) (xs : List K) → among k xs ≡ false → without eq k xs ≡ xs
  without-absent k [] a = refl
  without-absent k (x ∷ xs) a = elim (cases_Bool (eq k x)) [
    | inl e ↦ absurd (true≢false (rw e at a))
    | inr e ↦ rw e (ap (λ l. x ∷ l) (without-absent k xs (rw e at a)))
  ]

  pub take_absent : (k : K) (n : ℕ) (xs : List K) → among k xs ≡ false → among k (take n xs) ≡ false
  take_absent k zero xs a = refl
  take_absent k (suc n) [] a = refl
  take_absent k (suc n) (x ∷ xs) a = elim (cases_Bool (eq k x)) [
    | inl e ↦ absurd (true≢false (rw e at a))
    | inr e ↦ rw e (take_absent k n xs (rw e at a))
  ]

  take-without_in : (k : K) (n : ℕ) (xs : List K) → IsApart xs → among k (take (suc n) xs) ≡ true → take n (without eq k xs) ≡ without eq k (take (suc n) xs)
  take-without_in k n [] a i = absurd (true≢false (sym i))
  take-without_in k n (x ∷ xs) a i = elim (cases_Bool (eq k x)) [
    | inl e ↦
        let off : among k xs ≡ false = ap (λ j. among j xs) (exact.same k x e) ∙ a.0 in
        rw (e, without-absent k xs off) (sym (without-absent k (take n xs) (take_absent k n xs off)))
    | inr e ↦ rw e (deeper k n x xs (λ m. take-without_in k m xs a.1) (rw e at i))
  ] where
    deeper : (k : K) (n : ℕ) (x : K) (xs : List K) → ((m : ℕ) → among k (take (suc m) xs) ≡ true → take m (without eq k xs) ≡ without eq k (take (suc m) xs)) → among k (take n xs) ≡ true → take n (x ∷ without eq k xs) ≡ x ∷ without eq k (take n xs)
    deeper k zero x xs rec i = absurd (true≢false (sym i))
    deeper k (suc m) x xs rec i = ap (λ l. x ∷ l) (rec m i)

  pub take-without_out : (k : K) (n : ℕ) (xs : List K) → among k (take n xs) ≡ false → take n (without eq k xs) ≡ take n xs
  take-without_out k zero xs o = refl
  take-without_out k (suc n) [] o = refl
  take-without_out k (suc n) (x ∷ xs) o = elim (cases_Bool (eq k x)) [
    | inl e ↦ absurd (true≢false (rw e at o))
    | inr e ↦ rw e (ap (λ l. x ∷ l) (take-without_out k n xs (rw e at o)))
  ]

  -- a reference to a key among the first n leaves them as they were
  pub first-in : (k : K) (n : ℕ) (xs : List K) → IsApart xs → among k (take n xs) ≡ true → (h : K) → among h (take n (k ∷ without eq k xs)) ≡ among h (take n xs)
  first-in k zero xs a i h = absurd (true≢false (sym i))
  first-in k (suc n) xs a i h = rw (take-without_in k n xs a i, any-without h k (take (suc n) xs)) (elim (cases_Bool (eq h k)) [
    | inl e ↦ rw e (sym (ap (λ j. among j (take (suc n) xs)) (exact.same h k e) ∙ i))
    | inr e ↦ rw e (and_true (among h (take (suc n) xs)))
  ])

  -- any other key pushes them back by one
  pub first-out : (k : K) (n : ℕ) (xs : List K) → among k (take n xs) ≡ false → (h : K) → among h (take (suc n) (k ∷ without eq k xs)) ≡ (eq h k || among h (take n xs))
  first-out k n xs o h = rw (take-without_out k n xs o) refl

  pub absent_sooner : (k : K) (n : ℕ) (xs : List K) → among k (take (suc n) xs) ≡ false → among k (take n xs) ≡ false
  absent_sooner k zero xs o = refl
  absent_sooner k (suc n) [] o = refl
  absent_sooner k (suc n) (x ∷ xs) o = elim (cases_Bool (eq k x)) [
    | inl e ↦ absurd (true≢false (rw e at o))
    | inr e ↦ rw e (absent_sooner k n xs (rw e at o))
  ]

  pub take_split : (n : ℕ) (xs : List K) → n < length xs → (x : K) × (take (suc n) xs ≡ take n xs ++ x ∷ [])
  take_split n [] lt = absurd (omega arith)
  take_split zero (x ∷ xs) lt = (x, refl)
  take_split (suc n) (x ∷ xs) lt = let more = take_split n xs (omega arith) in (more.0, ap (λ l. x ∷ l) more.1)

  pub apart-take : (n : ℕ) (xs : List K) → IsApart xs → IsApart (take n xs)
  apart-take zero xs a = tt
  apart-take (suc n) [] a = tt
  apart-take (suc n) (x ∷ xs) a = (take_absent x n xs a.0, apart-take n xs a.1)

  last_absent : (h x : K) (xs : List K) → among h (xs ++ x ∷ []) ≡ false → eq h x ≡ false
  last_absent h x [] a = elim (cases_Bool (eq h x)) [ inl e ↦ absurd (true≢false (rw e at a)) | inr e ↦ e ]
  last_absent h x (y ∷ xs) a = elim (cases_Bool (eq h y)) [ inl e ↦ absurd (true≢false (rw e at a)) | inr e ↦ last_absent h x xs (rw e at a) ]

  -- all but the last
  pub front : (x : K) (xs : List K) → IsApart (xs ++ x ∷ []) → (h : K) → (among h (xs ++ x ∷ []) && not (eq h x)) ≡ among h xs
  front x [] a h = elim (cases_Bool (eq h x)) [ inl e ↦ rw e refl | inr e ↦ rw e refl ]
  front x (y ∷ xs) a h = elim (cases_Bool (eq h y)) [
    | inl e ↦ let off : eq h x ≡ false = ap (λ j. eq j x) (exact.same h y e) ∙ last_absent y x xs a.0 in rw (e, off) refl
    | inr e ↦ rw e (front x xs a.1 h)
  ]

  pub length-without : (k : K) (xs : List K) → IsApart xs → among k xs ≡ true → suc (length (without eq k xs)) ≡ length xs
  length-without k [] a i = absurd (true≢false (sym i))
  length-without k (x ∷ xs) a i = elim (cases_Bool (eq k x)) [
    | inl e ↦
        let off : among k xs ≡ false = ap (λ j. among j xs) (exact.same k x e) ∙ a.0 in
        rw (e, without-absent k xs off) refl
    | inr e ↦ rw e (ap suc (length-without k xs a.1 (rw e at i)))
  ]

  -- each key of a list, from what holds of the keys among it
  pub each_among : (P : K → Type 0) (xs : List K) → ((j : K) → among j xs ≡ true → P j) → AllByRecursion P xs
  each_among P [] p = tt
  each_among P (x ∷ xs) p = (p x (ap (λ b. b || among x xs) (exact.itself x)), each_among P xs (λ j i. p j (later j i)))
    where
      later : (j : K) → among j xs ≡ true → among j (x ∷ xs) ≡ true
      later j i = elim (cases_Bool (eq j x)) [ inl e ↦ rw e refl | inr e ↦ rw (e, i) refl ]

  -- and back
  pub among_each : (P : K → Type 0) (xs : List K) → AllByRecursion P xs → (j : K) → among j xs ≡ true → P j
  among_each P [] p j i = absurd (true≢false (sym i))
  among_each P (x ∷ xs) p j i = elim (cases_Bool (eq j x)) [
    | inl e ↦ subst P (sym (exact.same j x e)) p.0
    | inr e ↦ among_each P xs p.1 j (rw e at i)
  ]
