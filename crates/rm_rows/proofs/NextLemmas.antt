-- The next key by the index.
use Rattle.std.proofs.Common.{◌≡◌, ℕ, suc, ◌+◌, ◌<◌, ◌≤◌, List, [], ◌∷◌, map, length, slice_get, nat_le, Option, Some, None, Contains, refl, sym, ap, ◌∙◌, subst, arith, inl, inr}
use Rattle.std.specs.List.{AllByRecursion}
use Rattle.std.specs.declared.cmp.Ordering.{Ordering}
use Rattle.std.specs.declared.cmp.Ordering.TheVariants.{Less}
use Rattle.std.specs.Cmp.{IsTotalOrder}
use Rattle.std.proofs.lemmas.Bool.{cases_Bool, le-leb, leb-true}
use Rattle.std.proofs.lemmas.List.Elements.{All-from_recursion}
use denote.RawPtr.{Ptr}
use Rattle.rm_evicting.specs.declared.Row.{Row}
use Rattle.rm_recency.specs.declared.RecencyList.{RecencyList}
use Rattle.rm_recency.specs.Chain.{Run}
use Rattle.rm_recency.specs.Threads.{next_of, IsAt, row_at}
use Rattle.rm_rows.specs.Stored.{In, Pairwise, rows_by, Has, Later, Before}
use Rattle.rm_rows.proofs.Members.{of_some, compared, in_at, at_in, in_all, pair_at}
use Rattle.rm_rows.proofs.Steps.{irreflexive}
use Rattle.rm_rows.proofs.WalkLemmas.{from_mark-zero}
use Rattle.rm_rows.specs.Table.{IsAbove, IsFirstKey, IsNextKey, keys_of, from_mark}
use Rattle.rm_rows.specs.Index.{rows_in, IsGap, HasKey, IsCut, Kept}

module _ {P K V : Type 0} (row : P → Option (Row K V)) (mark : ℕ) where
  -- what holds of each row that stands at a mark holds of the keys from it
  keys_all : (Q : K → Type 0) (es : List P) → ((q : P) → In q es → Has row q) → ((q : P) → In q es → (s : Row K V) → row q ≡ Some s → mark ≤ s.tick → Q s.key) → AllByRecursion Q (keys_of (from_mark mark (rows_by row es)))
  keys_all Q [] has f = tt
  keys_all Q (x ∷ es) has f =
      let on = has x (inl refl) in
      rw on.1 (elim (cases_Bool (nat_le mark on.0.tick)) [
        | inl a ↦ rw a (f x (inl refl) on.0 on.1 (leb-true mark on.0.tick a), keys_all Q es (λ q m. has q (inr m)) (λ q m. f q (inr m)))
        | inr b ↦ rw b (keys_all Q es (λ q m. has q (inr m)) (λ q m. f q (inr m)))
      ])

  contains_later : (k j : K) (ks : List K) → Contains ks k → Contains (j ∷ ks) k
  contains_later k j ks c = let lt = c.1 in (suc c.0, omega arith, c.2)

  keys_in : (es : List P) (p : P) (r : Row K V) → ((q : P) → In q es → Has row q) → In p es → row p ≡ Some r → mark ≤ r.tick → Contains (keys_of (from_mark mark (rows_by row es))) r.key
  keys_in [] p r has h e le = absurd h
  keys_in (x ∷ es) p r has h e le = elim h [
    | inl z ↦ let here : row x ≡ Some r = ap row (sym z) ∙ e in rw (here, le-leb mark r.tick le) (0, omega arith, refl)
    | inr m ↦ let on = has x (inl refl) in let deep = keys_in es p r (λ q n. has q (inr n)) m e le in
        rw on.1 (elim (cases_Bool (nat_le mark on.0.tick)) [ inl a ↦ rw a (contains_later r.key on.0.key (keys_of (from_mark mark (rows_by row es))) deep) | inr b ↦ rw b deep ])
  ]

module _ {K V : Type 0} (cmp : K → K → Ordering) (order : IsTotalOrder cmp) (t : RecencyList K V) (xs : List Ptr) where
  -- a gap is a cut, and the place after a key too
  pub cut_none : IsCut t xs (IsAbove cmp None) 0
  cut_none = record { order = omega arith; within = omega arith; below = λ k q r lt g e. absurd (omega arith); above = λ k q r le g e. tt }

  pub cut_gap : (h : K) (i : ℕ) → IsGap cmp t xs h i → IsCut t xs (IsAbove cmp (Some h)) i
  cut_gap h i gap = record {
    order = gap.order;
    within = gap.within;
    below = λ k q r lt g e up. irreflexive cmp order h (order.trans h r.key h up (gap.below k q r lt g e));
    above = gap.above;
  }

  pub cut_hit : (h : K) (i : ℕ) (p : Ptr) → Pairwise (Before (row_at t) cmp) xs → i < length xs → slice_get xs i ≡ Some p → HasKey cmp t p h → IsCut t xs (IsAbove cmp (Some h)) (i + 1)
  cut_hit h i p sorted lt got has = record {
    order = omega arith;
    within = omega arith;
    below = λ k q r le g e up. elim (compared k i) [
      | inl less ↦ irreflexive cmp order h (order.trans h r.key h up (subst (λ w. cmp r.key w ≡ Less) has.2 (pair_at (Before (row_at t) cmp) xs k i q p sorted less g got r has.0 e has.1)))
      | inr m ↦ elim m [
        | inl same ↦ irreflexive cmp order h (subst (λ w. cmp h w ≡ Less) (ap (λ (w : Row K V). w.key) (of_some (sym e ∙ ap (row_at t) (of_some (sym g ∙ ap (slice_get xs) same ∙ got)) ∙ has.1)) ∙ has.2) up)
        | inr more ↦ absurd (omega arith)
      ]
    ];
    above = λ k q r le g e. subst (λ w. cmp w r.key ≡ Less) has.2 (pair_at (Before (row_at t) cmp) xs i k p q sorted (omega arith) got g has.0 r has.1 e);
  }

  module _ (es : List Ptr) (k : Kept cmp t es xs) (mark : ℕ) (IsSuch : K → Type 0) (first : ℕ) (cut : IsCut t xs IsSuch first) where
    abbrev ks : List K
    ks = keys_of (from_mark mark (rows_in t es))

    -- none of the places from first to i stands at the mark
    abbrev pub IsPassed : ℕ → Type 0
    IsPassed i = (j : ℕ) (q : Ptr) (r : Row K V) → first ≤ j → j < i → slice_get xs j ≡ Some q → row_at t q ≡ Some r → ¬ (mark ≤ r.tick)

    pub next_none : IsPassed (length xs) → IsFirstKey cmp IsSuch ks None
    next_none passed = (All-from_recursion (λ (j : K). ¬ (IsSuch j)) (keys_of (from_mark mark (rows_by (row_at t) es)))
        (keys_all (row_at t) mark (λ (j : K). ¬ (IsSuch j)) es k.stored.has (λ q m s e le up.
        let at = in_at q xs (k.stored.index.there q m) in
        elim (compared at.0 first) [
          | inl lt ↦ cut.below at.0 q s lt at.2 e up
          | inr n ↦ passed at.0 q s (elim n [ inl z ↦ omega arith | inr z ↦ omega arith ]) at.1 at.2 e le
        ])))

    pub next_some : (i : ℕ) (p : Ptr) (r : Row K V) → first ≤ i → slice_get xs i ≡ Some p → row_at t p ≡ Some r → mark ≤ r.tick → IsPassed i → IsFirstKey cmp IsSuch ks (Some r.key)
    next_some i p r after got e le passed = (
      (keys_in (row_at t) mark es p r k.stored.has (k.stored.index.back p (at_in p xs i got)) e le),
      cut.above i p r after got e,
      (All-from_recursion (λ (j : K). IsSuch j → ¬ (cmp j r.key ≡ Less)) (keys_of (from_mark mark (rows_by (row_at t) es)))
          (keys_all (row_at t) mark (λ (j : K). IsSuch j → ¬ (cmp j r.key ≡ Less)) es k.stored.has (λ q m s f up rises less.
          let at = in_at q xs (k.stored.index.there q m) in
          elim (compared at.0 i) [
            | inl lt ↦ elim (compared at.0 first) [
              | inl low ↦ cut.below at.0 q s low at.2 f rises
              | inr n ↦ passed at.0 q s (elim n [ inl z ↦ omega arith | inr z ↦ omega arith ]) lt at.2 f up
            ]
            | inr n ↦ elim n [
              | inl same ↦ irreflexive cmp order r.key (subst (λ w. cmp w r.key ≡ Less) (ap (λ (w : Row K V). w.key) (of_some (sym f ∙ ap (row_at t) (of_some (sym at.2 ∙ ap (slice_get xs) same ∙ got)) ∙ e))) less)
              | inr gt ↦ irreflexive cmp order r.key (order.trans r.key s.key r.key (pair_at (Before (row_at t) cmp) xs i at.0 p q k.stored.sorted gt got at.2 r s e f) less)
            ]
          ]))),
    )

  -- the first key of a cut, of all rows
  module _ (es : List Ptr) (k : Kept cmp t es xs) (IsSuch : K → Type 0) (first : ℕ) (cut : IsCut t xs IsSuch first) where
    pub first_none : length xs ≤ first → IsFirstKey cmp IsSuch (keys_of (rows_in t es)) None
    first_none le =
        subst (λ (rows : List (Row K V)). IsFirstKey cmp IsSuch (keys_of rows) None) (from_mark-zero (rows_in t es))
        (next_none es k 0 IsSuch first cut (λ j q r a b g e up. omega arith))

    pub first_some : (p : Ptr) (r : Row K V) → slice_get xs first ≡ Some p → row_at t p ≡ Some r → IsFirstKey cmp IsSuch (keys_of (rows_in t es)) (Some r.key)
    first_some p r got e =
        subst (λ (rows : List (Row K V)). IsFirstKey cmp IsSuch (keys_of rows) (Some r.key)) (from_mark-zero (rows_in t es))
        (next_some es k 0 IsSuch first cut first p r (omega arith) got e (omega arith) (λ j q x a b g f up. omega arith))

-- the first node by recency has the greatest tick
module _ {K V : Type 0} (cmp : K → K → Ordering) (t : RecencyList K V) (es xs : List Ptr) (k : Kept cmp t es xs) where
  clash : {X : Type 0} {x : X} → Some None ≡ Some (Some x) → ⊥
  clash e = cc

  pub front_head : (l : List Ptr) → Run (next_of t) None (map Some l) None → (p : Ptr) → next_of t None ≡ Some (Some p) → (m : List Ptr) × (l ≡ p ∷ m)
  front_head [] r p e = absurd (clash (sym r ∙ e))
  front_head (x ∷ l) r p e = (l, ap (λ y. y ∷ l) (of_some (of_some (sym r.0 ∙ e))))

  front_nil : (l : List Ptr) → Run (next_of t) None (map Some l) None → next_of t None ≡ Some None → (q : Ptr) → In q l → ⊥
  front_nil [] r e q h = h
  front_nil (x ∷ l) r e q h = clash (sym e ∙ r.0)

  pub front_none : next_of t None ≡ Some None → (q : Ptr) → In q xs → ⊥
  front_none e q h = front_nil k.rs k.recency.ring.forward e q (k.stored.recent.there q (k.stored.index.back q h))

  module _ (p : Ptr) (e : next_of t None ≡ Some (Some p)) where
    abbrev head : (m : List Ptr) × (k.rs ≡ p ∷ m)
    head = front_head k.rs k.recency.ring.forward p e

    pub front_at : IsAt t p
    front_at = (subst (AllByRecursion (IsAt t)) head.1 k.recency.links).0

    pub front_tops : (r : Row K V) → row_at t p ≡ Some r → (q : Ptr) (s : Row K V) → In q xs → row_at t q ≡ Some s → s.tick ≤ r.tick
    front_tops r here q s h there =
        let falls : Pairwise (Later (row_at t)) (p ∷ head.0) = subst (Pairwise (Later (row_at t))) head.1 k.stored.falls in
        elim (subst (In q) head.1 (k.stored.recent.there q (k.stored.index.back q h))) [
          | inl z ↦ subst (λ (w : Row K V). s.tick ≤ w.tick) (of_some (sym there ∙ ap (row_at t) z ∙ here)) (omega arith)
          | inr m ↦ (in_all (Later (row_at t) p) head.0 falls.0 q m r s here there).1
        ]

module _ {K V : Type 0} (cmp : K → K → Ordering) (t : RecencyList K V) (es xs : List Ptr) (k : Kept cmp t es xs) (mark : ℕ) (from : Option K) where
  -- where no row stands at a mark, there is no next key
  pub past_none : ((q : Ptr) (s : Row K V) → In q xs → row_at t q ≡ Some s → ¬ (mark ≤ s.tick)) → IsNextKey cmp (keys_of (from_mark mark (rows_in t es))) from None
  past_none off =
      All-from_recursion (λ (j : K). ¬ (IsAbove cmp from j)) (keys_of (from_mark mark (rows_by (row_at t) es)))
      (keys_all (row_at t) mark (λ (j : K). ¬ (IsAbove cmp from j)) es k.stored.has (λ q m s e le up. off q s (k.stored.index.there q m) e le))
