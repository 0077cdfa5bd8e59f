-- Members of lists, and pairs in order.
use Rattle.std.proofs.Common.{◌≡◌, ℕ, zero, suc, ◌+◌, ◌-◌, ◌/◌, ◌<◌, ◌≤◌, List, [], ◌∷◌, ◌++◌, take, drop, length, slice_get, Option, Some, None, ◌⊎◌, refl, sym, ap, ◌∙◌, subst, arith, inl, inr}
use Rattle.std.specs.List.{AllByRecursion}
use Rattle.rm_rows.specs.Stored.{In, Distinct, Pairwise, Alike}

pub of_some : {X : Type 0} {x y : X} → Some x ≡ Some y → x ≡ y
of_some e = cc

pub compared : (i j : ℕ) → (i < j) ⊎ ((i ≡ j) ⊎ (j < i))
compared zero zero = inr (inl refl)
compared zero (suc j) = inl (omega arith)
compared (suc i) zero = inr (inr (omega arith))
compared (suc i) (suc j) = elim (compared i j) [
  | inl h ↦ inl (omega arith)
  | inr h ↦ elim h [ inl e ↦ inr (inl (ap suc e)) | inr k ↦ inr (inr (omega arith)) ]
]

-- half of the way from one place to another
pub half : (low high : ℕ) → low < high → (low ≤ low + (high - low) / 2) × (low + (high - low) / 2 < high)
half low high lt = (omega arith, omega arith)

-- at one place there is one row
pub same_at : {P R : Type 0} (row : P → Option R) (xs : List P) (i k : ℕ) (p q : P) (r x : R) → slice_get xs i ≡ Some p → row p ≡ Some r → k ≡ i → slice_get xs k ≡ Some q → row q ≡ Some x → x ≡ r
same_at row xs i k p q r x got here e g f = of_some (sym f ∙ ap row (of_some (sym g ∙ ap (slice_get xs) e ∙ got)) ∙ here)

-- what holds of the row at a place, and of those before it or behind it
module _ {P R : Type 0} (row : P → Option R) (xs : List P) (m : ℕ) (p : P) (r : R) (got : slice_get xs m ≡ Some p) (here : row p ≡ Some r) (Q : R → Type 0) (at : Q r) where
  pub up_to : ((k : ℕ) (q : P) (x : R) → k < m → slice_get xs k ≡ Some q → row q ≡ Some x → Q x) → (k : ℕ) (q : P) (x : R) → k < m + 1 → slice_get xs k ≡ Some q → row q ≡ Some x → Q x
  up_to before k q x l g f = elim (compared k m) [
    | inl b ↦ before k q x b g f
    | inr b ↦ elim b [ inl c ↦ subst Q (sym (same_at row xs m k p q r x got here c g f)) at | inr c ↦ absurd (omega arith) ]
  ]

  pub from_on : ((k : ℕ) (q : P) (x : R) → m < k → slice_get xs k ≡ Some q → row q ≡ Some x → Q x) → (k : ℕ) (q : P) (x : R) → m ≤ k → slice_get xs k ≡ Some q → row q ≡ Some x → Q x
  from_on behind k q x l g f = elim (compared k m) [
    | inl b ↦ absurd (omega arith)
    | inr b ↦ elim b [ inl c ↦ subst Q (sym (same_at row xs m k p q r x got here c g f)) at | inr c ↦ behind k q x c g f ]
  ]

module _ {P : Type 0} where
  pub in_at : (p : P) (xs : List P) → In p xs → (i : ℕ) × (i < length xs) × (slice_get xs i ≡ Some p)
  in_at p [] h = absurd h
  in_at p (x ∷ xs) h = elim h [
    | inl e ↦ (zero, omega arith, ap Some (sym e))
    | inr k ↦ let on = in_at p xs k in let lt = on.1 in (suc on.0, omega arith, on.2)
  ]

  pub at_in : (p : P) (xs : List P) (i : ℕ) → slice_get xs i ≡ Some p → In p xs
  at_in p [] i e = absurd (none_some e)
    where
      none_some : {p : P} → None ≡ Some p → ⊥
      none_some e = cc
  at_in p (x ∷ xs) zero e = inl (sym (of_some e))
  at_in p (x ∷ xs) (suc i) e = inr (at_in p xs i e)

  pub in_left : (p : P) (xs ys : List P) → In p xs → In p (xs ++ ys)
  in_left p [] ys h = absurd h
  in_left p (x ∷ xs) ys h = elim h [ inl e ↦ inl e | inr k ↦ inr (in_left p xs ys k) ]

  pub in_right : (p : P) (xs ys : List P) → In p ys → In p (xs ++ ys)
  in_right p [] ys h = h
  in_right p (x ∷ xs) ys h = inr (in_right p xs ys h)

  pub in_append : (p : P) (xs ys : List P) → In p (xs ++ ys) → In p xs ⊎ In p ys
  in_append p [] ys h = inr h
  in_append p (x ∷ xs) ys h = elim h [
    | inl e ↦ inl (inl e)
    | inr k ↦ elim (in_append p xs ys k) [ inl a ↦ inl (inr a) | inr b ↦ inr b ]
  ]

  pub in_middle : (p : P) (xs ys : List P) → In p (xs ++ p ∷ ys)
  in_middle p xs ys = in_right p xs (p ∷ ys) (inl refl)

  -- a member of a list with p is p, or one of the others
  pub in_without : (q : P) (xs : List P) (p : P) (ys : List P) → In q (xs ++ p ∷ ys) → (q ≡ p) ⊎ In q (xs ++ ys)
  in_without q xs p ys h = elim (in_append q xs (p ∷ ys) h) [
    | inl a ↦ inr (in_left q xs ys a)
    | inr b ↦ elim b [ inl e ↦ inl e | inr k ↦ inr (in_right q xs ys k) ]
  ]

  pub in_with : (q : P) (xs : List P) (p : P) (ys : List P) → In q (xs ++ ys) → In q (xs ++ p ∷ ys)
  in_with q xs p ys h = elim (in_append q xs ys h) [ inl a ↦ in_left q xs (p ∷ ys) a | inr b ↦ in_right q xs (p ∷ ys) (inr b) ]

  -- a list cut at a member
  pub in_cut : (p : P) (xs : List P) → In p xs → (us : List P) × (vs : List P) × (xs ≡ us ++ p ∷ vs)
  in_cut p [] h = absurd h
  in_cut p (x ∷ xs) h = elim h [
    | inl e ↦ ([], xs, ap (λ y. y ∷ xs) (sym e))
    | inr k ↦ let on = in_cut p xs k in (x ∷ on.0, on.1, ap (λ l. x ∷ l) on.2)
  ]

  pub cut_at : (xs : List P) (i : ℕ) (p : P) → slice_get xs i ≡ Some p → xs ≡ take i xs ++ p ∷ drop (suc i) xs
  cut_at [] i p e = absurd (none_some e)
    where
      none_some : {p : P} → None ≡ Some p → ⊥
      none_some e = cc
  cut_at (x ∷ xs) zero p e = ap (λ y. y ∷ xs) (of_some e)
  cut_at (x ∷ xs) (suc i) p e = ap (λ l. x ∷ l) (cut_at xs i p e)

  pub join_at : (xs : List P) (i : ℕ) → take i xs ++ drop i xs ≡ xs
  join_at xs zero = refl
  join_at [] (suc i) = refl
  join_at (x ∷ xs) (suc i) = ap (λ l. x ∷ l) (join_at xs i)

  pub in_take : (q : P) (xs : List P) (i : ℕ) → In q (take i xs) → (k : ℕ) × (k < i) × (slice_get xs k ≡ Some q)
  in_take q xs zero h = absurd h
  in_take q [] (suc i) h = absurd h
  in_take q (x ∷ xs) (suc i) h = elim h [
    | inl e ↦ (zero, omega arith, ap Some (sym e))
    | inr k ↦ let on = in_take q xs i k in let lt = on.1 in (suc on.0, omega arith, on.2)
  ]

  pub in_drop : (q : P) (xs : List P) (i : ℕ) → In q (drop i xs) → (k : ℕ) × (i ≤ k) × (slice_get xs k ≡ Some q)
  in_drop q xs zero h = let on = in_at q xs h in (on.0, omega arith, on.2)
  in_drop q [] (suc i) h = absurd h
  in_drop q (x ∷ xs) (suc i) h = let on = in_drop q xs i h in let le = on.1 in (suc on.0, omega arith, on.2)

  -- facts of all members
  pub all_in : (Q : P → Type 0) (xs : List P) → ((p : P) → In p xs → Q p) → AllByRecursion Q xs
  all_in Q [] f = tt
  all_in Q (x ∷ xs) f = (f x (inl refl), all_in Q xs (λ p h. f p (inr h)))

  pub in_all : (Q : P → Type 0) (xs : List P) → AllByRecursion Q xs → (p : P) → In p xs → Q p
  in_all Q [] a p h = absurd h
  in_all Q (x ∷ xs) a p h = elim h [ inl e ↦ subst Q (sym e) a.0 | inr k ↦ in_all Q xs a.1 p k ]

  module _ (R : P → P → Type 0) where
    pub pair_without : (xs : List P) (p : P) (ys : List P) → Pairwise R (xs ++ p ∷ ys) → Pairwise R (xs ++ ys)
    pair_without [] p ys h = h.1
    pair_without (x ∷ xs) p ys h = (all_in (R x) (xs ++ ys) (λ q k. in_all (R x) (xs ++ p ∷ ys) h.0 q (in_with q xs p ys k)), pair_without xs p ys h.1)

    pub pair_with : (xs : List P) (p : P) (ys : List P) → ((q : P) → In q xs → R q p) → ((q : P) → In q ys → R p q) → Pairwise R (xs ++ ys) → Pairwise R (xs ++ p ∷ ys)
    pair_with [] p ys f g h = (all_in (R p) ys g, h)
    pair_with (x ∷ xs) p ys f g h = (
      all_in (R x) (xs ++ p ∷ ys) (λ q k. elim (in_without q xs p ys k) [ inl e ↦ subst (R x) (sym e) (f x (inl refl)) | inr m ↦ in_all (R x) (xs ++ ys) h.0 q m ]),
      pair_with xs p ys (λ q k. f q (inr k)) g h.1,
    )

    pub pair_push : (xs : List P) (p : P) → ((q : P) → In q xs → R q p) → Pairwise R xs → Pairwise R (xs ++ p ∷ [])
    pair_push [] p f h = (tt, tt)
    pair_push (x ∷ xs) p f h = (
      all_in (R x) (xs ++ p ∷ []) (λ q k. elim (in_append q xs (p ∷ []) k) [
        | inl a ↦ in_all (R x) xs h.0 q a
        | inr b ↦ elim b [ inl e ↦ subst (R x) (sym e) (f x (inl refl)) | inr z ↦ absurd z ]
      ]),
      pair_push xs p (λ q k. f q (inr k)) h.1,
    )

    pub pair_before : (xs : List P) (p : P) (ys : List P) → Pairwise R (xs ++ p ∷ ys) → (q : P) → In q xs → R q p
    pair_before [] p ys h q k = absurd k
    pair_before (x ∷ xs) p ys h q k = elim k [ inl e ↦ subst (λ y. R y p) (sym e) (in_all (R x) (xs ++ p ∷ ys) h.0 p (in_middle p xs ys)) | inr m ↦ pair_before xs p ys h.1 q m ]

    pub pair_at : (xs : List P) (i j : ℕ) (p q : P) → Pairwise R xs → i < j → slice_get xs i ≡ Some p → slice_get xs j ≡ Some q → R p q
    pair_at [] i j p q h lt e f = absurd (none_some e)
      where
        none_some : {p : P} → None ≡ Some p → ⊥
        none_some e = cc
    pair_at (x ∷ xs) i zero p q h lt e f = absurd (omega arith)
    pair_at (x ∷ xs) zero (suc j) p q h lt e f = subst (λ y. R y q) (of_some e) (in_all (R x) xs h.0 q (at_in q xs j f))
    pair_at (x ∷ xs) (suc i) (suc j) p q h lt e f = pair_at xs i j p q h.1 (omega arith) e f

    pub pair_weaker : (S : P → P → Type 0) (xs : List P) → ((p q : P) → In p xs → In q xs → R p q → S p q) → Pairwise R xs → Pairwise S xs
    pair_weaker S [] f h = tt
    pair_weaker S (x ∷ xs) f h = (all_in (S x) xs (λ q k. f x q (inl refl) (inr k) (in_all (R x) xs h.0 q k)), pair_weaker S xs (λ p q a b. f p q (inr a) (inr b)) h.1)

  pub distinct_push : (xs : List P) (p : P) → ¬ (In p xs) → Distinct xs → Distinct (xs ++ p ∷ [])
  distinct_push [] p n d = ((λ h. h), tt)
  distinct_push (x ∷ xs) p n d =
      ((λ h. elim (in_append x xs (p ∷ []) h) [ inl a ↦ d.0 a | inr b ↦ elim b [ inl e ↦ n (inl (sym e)) | inr z ↦ absurd z ] ]), distinct_push xs p (λ h. n (inr h)) d.1)

  pub distinct_without : (xs : List P) (p : P) (ys : List P) → Distinct (xs ++ p ∷ ys) → Distinct (xs ++ ys)
  distinct_without [] p ys d = d.1
  distinct_without (x ∷ xs) p ys d = ((λ h. d.0 (in_with x xs p ys h)), distinct_without xs p ys d.1)

  pub distinct_gone : (xs : List P) (p : P) (ys : List P) → Distinct (xs ++ p ∷ ys) → ¬ (In p (xs ++ ys))
  distinct_gone [] p ys d = d.0
  distinct_gone (x ∷ xs) p ys d = λ h. elim h [ inl e ↦ d.0 (subst (λ y. In y (xs ++ p ∷ ys)) e (in_middle p xs ys)) | inr k ↦ distinct_gone xs p ys d.1 k ]

  -- lists with the same members
  pub alike_trans : (a b c : List P) → Alike a b → Alike b c → Alike a c
  alike_trans a b c f g = record { there = λ p h. g.there p (f.there p h); back = λ p h. f.back p (g.back p h) }

  pub alike_sym : (a b : List P) → Alike a b → Alike b a
  alike_sym a b f = record { there = f.back; back = f.there }

  -- p moved from one place to another
  pub alike_moved : (xs ys us vs : List P) (p : P) → xs ++ ys ≡ us ++ vs → Alike (xs ++ p ∷ ys) (us ++ p ∷ vs)
  alike_moved xs ys us vs p e = record {
    there = λ q h. elim (in_without q xs p ys h) [ inl a ↦ subst (λ z. In z (us ++ p ∷ vs)) (sym a) (in_middle p us vs) | inr b ↦ in_with q us p vs (subst (In q) e b) ];
    back = λ q h. elim (in_without q us p vs h) [ inl a ↦ subst (λ z. In z (xs ++ p ∷ ys)) (sym a) (in_middle p xs ys) | inr b ↦ in_with q xs p ys (subst (In q) (sym e) b) ];
  }

  -- p added to both
  pub alike_added : (xs ys us vs : List P) (p : P) → Alike (xs ++ ys) (us ++ vs) → Alike (xs ++ p ∷ ys) (us ++ p ∷ vs)
  alike_added xs ys us vs p f = record {
    there = λ q h. elim (in_without q xs p ys h) [ inl a ↦ subst (λ z. In z (us ++ p ∷ vs)) (sym a) (in_middle p us vs) | inr b ↦ in_with q us p vs (f.there q b) ];
    back = λ q h. elim (in_without q us p vs h) [ inl a ↦ subst (λ z. In z (xs ++ p ∷ ys)) (sym a) (in_middle p xs ys) | inr b ↦ in_with q xs p ys (f.back q b) ];
  }

  -- in a list without repetition a member is p or is apart from it
  pub apart_in : (p : P) (xs : List P) → Distinct xs → In p xs → (q : P) → In q xs → (q ≡ p) ⊎ (¬ (q ≡ p))
  apart_in p xs d member q h =
      let cut = in_cut p xs member in
      elim (in_without q cut.0 p cut.1 (subst (In q) cut.2 h)) [
        | inl same ↦ inl same
        | inr m ↦ inr (λ z. distinct_gone cut.0 p cut.1 (subst Distinct cut.2 d) (subst (λ y. In y (cut.0 ++ cut.1)) z m))
      ]
