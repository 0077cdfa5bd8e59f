-- The stamps of last references fall along the distinct keys.
use Rattle.std.proofs.Common.{◌≡◌, ℕ, ◌<◌, zero, suc, Bool, true, false, cond, List, [], ◌∷◌, ◌++◌, take, sym, ◌∙◌, subst, inl, inr}
use Rattle.std.specs.List.{list_any, AllByRecursion}
use Rattle.std.proofs.lemmas.Bool.{cases_Bool, true≢false}
use Rattle.rm_evicting.specs.Mention.{Mention, refers, strays, keys}
use Rattle.rm_evicting.specs.Held.{IsExact, without, distinct, is_arrival, last_stamp, entry, AllBefore, Rising}
use Rattle.rm_evicting.proofs.Recency.{back, any-distinct, each_among}

module _ {K : Type 0} where
  -- f falls along the keys
  abbrev pub IsFalling : (K → ℕ) → List K → Type 0
  IsFalling f [] = Unit {0}
  IsFalling f (k ∷ ks) = AllByRecursion (λ j. f j < f k) ks × IsFalling f ks

module _ {K : Type 0} (eq : K → K → Bool) (exact : IsExact eq) where
  abbrev among : K → List K → Bool
  among h ks = list_any (eq h) ks

  module _ (f : K → ℕ) (k : K) (s : ℕ) where
    -- f with s at k
    abbrev with : K → ℕ
    with j = cond (eq j k) s (f j)

    lower : (b : ℕ) (xs : List K) → AllByRecursion (λ j. f j < b) xs → AllByRecursion (λ j. with j < b) (without eq k xs)
    lower b [] a = tt
    lower b (x ∷ xs) a = elim (cases_Bool (eq k x)) [
      | inl e ↦ rw e (lower b xs a.1)
      | inr e ↦ let other : eq x k ≡ false = back eq exact k x e in rw (e, other) (a.0, lower b xs a.1)
    ]

    falling-without : (xs : List K) → IsFalling f xs → IsFalling with (without eq k xs)
    falling-without [] a = tt
    falling-without (x ∷ xs) a = elim (cases_Bool (eq k x)) [
      | inl e ↦ rw e (falling-without xs a.1)
      | inr e ↦ let other : eq x k ≡ false = back eq exact k x e in rw (e, other) (lower (f x) xs a.0, falling-without xs a.1)
    ]

    pub falling-cons : (xs : List K) → IsFalling f xs → AllByRecursion (λ j. f j < s) xs → IsFalling with (k ∷ without eq k xs)
    falling-cons xs a b = rw (exact.itself k) (lower s xs b, falling-without xs a)

  last_lower : (f : K → ℕ) (b : ℕ) (x : K) (xs : List K) → AllByRecursion (λ j. f j < b) (xs ++ x ∷ []) → f x < b
  last_lower f b x [] a = a.0
  last_lower f b x (y ∷ xs) a = last_lower f b x xs a.1

  pub held_among : (cap : ℕ) (h : K) (ks : List K) → is_arrival eq cap h ks ≡ false → list_any (eq h) ks ≡ true
  held_among cap h ks e = elim (cases_Bool (list_any (eq h) ks)) [
    | inl i ↦ i
    | inr i ↦ absurd (true≢false (rw i at e))
  ]

  -- the last is below each before it
  pub front_above : (f : K → ℕ) (x : K) (xs : List K) → IsFalling f (xs ++ x ∷ []) → (h : K) → among h xs ≡ true → f x < f h
  front_above f x [] a h i = absurd (true≢false (sym i))
  front_above f x (y ∷ xs) a h i = elim (cases_Bool (eq h y)) [
    | inl e ↦ subst (λ j. f x < f j) (sym (exact.same h y e)) (last_lower f (f y) x xs a.0)
    | inr e ↦ front_above f x xs a.1 h (rw e at i)
  ]

  each-take : (P : K → Type 0) (n : ℕ) (xs : List K) → AllByRecursion P xs → AllByRecursion P (take n xs)
  each-take P zero xs a = tt
  each-take P (suc n) [] a = tt
  each-take P (suc n) (x ∷ xs) a = (a.0, each-take P n xs a.1)

  pub falling-take : (f : K → ℕ) (n : ℕ) (xs : List K) → IsFalling f xs → IsFalling f (take n xs)
  falling-take f zero xs a = tt
  falling-take f (suc n) [] a = tt
  falling-take f (suc n) (x ∷ xs) a = (each-take (λ j. f j < f x) n xs a.0, falling-take f n xs a.1)

module _ {K C : Type 0} (eq : K → K → Bool) (exact : IsExact eq) where
  -- a key referred to has its last stamp below what all stamps are below
  pub stamp_before : (s : ℕ) (r : List (Mention K C)) → AllBefore s r → (h : K) → list_any (eq h) (keys r) ≡ true → last_stamp eq h r < s
  stamp_before s [] b h i = absurd (true≢false (sym i))
  stamp_before s (refers k n t c ∷ r) b h i = elim (cases_Bool (eq h k)) [
    | inl e ↦ rw e b.0
    | inr e ↦ rw e (stamp_before s r b.1 h (rw e at i))
  ]
  stamp_before s (strays k c ∷ r) b h i = stamp_before s r b h i

  pub falling : (r : List (Mention K C)) → Rising r → IsFalling (λ h. last_stamp eq h r) (distinct eq (keys r))
  falling [] a = tt
  falling (refers k s t c ∷ r) a =
      falling-cons eq exact (λ h. last_stamp eq h r) k s (distinct eq (keys r)) (falling r a.1)
      (each_among eq exact (λ h. last_stamp eq h r < s) (distinct eq (keys r)) (λ h i. stamp_before s r a.0 h (sym (any-distinct eq exact h (keys r)) ∙ i)))
  falling (strays k c ∷ r) a = falling r a

  module _ (cap : ℕ) where
    pub entry_before : (s : ℕ) (r : List (Mention K C)) → AllBefore s r → (h : K) → list_any (eq h) (keys r) ≡ true → entry eq cap h r < s
    entry_before s [] b h i = absurd (true≢false (sym i))
    entry_before s (refers k n t c ∷ r) b h i = elim (cases_Bool (eq h k)) [
      | inl e ↦ elim (cases_Bool (is_arrival eq cap h (keys r))) [
        | inl y ↦ rw (e, y) b.0
        | inr y ↦ rw (e, y) (entry_before s r b.1 h (held_among eq exact cap h (keys r) y))
      ]
      | inr e ↦ rw e (entry_before s r b.1 h (rw e at i))
    ]
    entry_before s (strays k c ∷ r) b h i = entry_before s r b h i
