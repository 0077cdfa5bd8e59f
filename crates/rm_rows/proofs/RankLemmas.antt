-- The rows by their rank of entry.
use Rattle.std.proofs.Common.{◌≡◌, ℕ, zero, suc, ◌+◌, ◌-◌, ◌/◌, ◌<◌, ◌≤◌, Bool, true, false, List, [], ◌∷◌, length, position, find, slice_get, Option, Some, None, refl, sym, ap, ◌∙◌, subst, arith, inl, inr}
use Rattle.std.specs.declared.cmp.Ordering.{Ordering}
use Rattle.std.specs.Cmp.{IsTotalOrder}
use Rattle.std.proofs.lemmas.Option.{slice_get_within}
use Rattle.std.proofs.lemmas.Bool.{lt-ltb, le-ltb, cases_Bool}
use Rattle.std.proofs.Math.Numerals.{one-add}
use Rattle.std.specs.List.{position_or_len}
use denote.RawPtr.{Ptr}
use Rattle.rm_evicting.specs.declared.Row.{Row}
use Rattle.rm_evicting.specs.Held.{IsExact}
use Rattle.rm_recency.specs.declared.RecencyList.{RecencyList}
use Rattle.rm_recency.specs.Threads.{row_at}
use Rattle.rm_rows.specs.Stored.{In, Pairwise, rows_by, Has, Earlier}
use Rattle.rm_rows.proofs.Members.{of_some, compared, half, in_at, at_in, pair_at, up_to, from_on}
use Rattle.rm_rows.proofs.Steps.{keys_apart}
use Rattle.rm_rows.specs.Index.{rows_in, HasEntry, HasKey, IsEntryBetween, Kept}

none_some : {X : Type 0} {x : X} → None ≡ Some x → ⊥
none_some e = cc

-- a step of the search by entry
module _ {K V : Type 0} (t : RecencyList K V) (es : List Ptr) (entry low high : ℕ) (rises : Pairwise (Earlier (row_at t)) es) where
  module _ (s : IsEntryBetween t es entry low high) (lt : low < high) (p : Ptr) (r : Row K V) (got : slice_get es (low + (high - low) / 2) ≡ Some p) (row : row_at t p ≡ Some r) where
    abbrev m : ℕ
    m = low + (high - low) / 2

    pub later : r.entry < entry → IsEntryBetween t es entry (m + 1) high
    later e = let a = (half low high lt).1 in record {
      order = omega arith;
      within = s.within;
      below = up_to (row_at t) es m p r got row (λ x. x.entry < entry) e (λ k q x l g f. let before : x.entry < r.entry = pair_at (Earlier (row_at t)) es k m q p rises l g got x r f row in omega arith);
      above = s.above;
    }

    pub sooner : entry < r.entry → IsEntryBetween t es entry low m
    sooner e = let a = (half low high lt).0 in let b = (half low high lt).1 in let w = s.within in record {
      order = omega arith;
      within = omega arith;
      below = s.below;
      above = from_on (row_at t) es m p r got row (λ x. entry < x.entry) e (λ k q x l g f. let after : r.entry < x.entry = pair_at (Earlier (row_at t)) es m k p q rises l got g r x row f in omega arith);
    }

  -- no place is left where the entry could stand
  pub none_between : IsEntryBetween t es entry low high → high ≤ low → (p : Ptr) → In p es → ¬ (HasEntry t p entry)
  none_between s le p member has =
      let on = in_at p es member in
      elim (compared on.0 low) [
        | inl lt ↦ let below = s.below on.0 p has.0 lt on.2 has.1 in let e = has.2 in omega arith
        | inr m ↦ let above = s.above on.0 p has.0 (elim m [ inl e ↦ omega arith | inr lt ↦ omega arith ]) on.2 has.1 in let e = has.2 in omega arith
      ]

-- two places with one entry have one link
pub entry_place : {K V : Type 0} (t : RecencyList K V) (es : List Ptr) (entry : ℕ) → Pairwise (Earlier (row_at t)) es → (i j : ℕ) (p q : Ptr) → slice_get es i ≡ Some p → HasEntry t p entry → slice_get es j ≡ Some q → HasEntry t q entry → i ≡ j
entry_place t es entry rises i j p q e a f b = elim (compared i j) [
  | inl lt ↦ let before : a.0.entry < b.0.entry = pair_at (Earlier (row_at t)) es i j p q rises lt e f a.0 b.0 a.1 b.1 in let x = a.2 in let y = b.2 in absurd (omega arith)
  | inr m ↦ elim m [
    | inl same ↦ same
    | inr lt ↦ let before : b.0.entry < a.0.entry = pair_at (Earlier (row_at t)) es j i q p rises lt f e b.0 a.0 b.1 a.1 in let x = a.2 in let y = b.2 in absurd (omega arith)
  ]
]

module _ {P K V : Type 0} (row : P → Option (Row K V)) where
  pub row_place : (es : List P) (i : ℕ) (p : P) → ((q : P) → In q es → Has row q) → slice_get es i ≡ Some p → slice_get (rows_by row es) i ≡ row p
  row_place [] i p has e = absurd (none_some e)
  row_place (x ∷ es) zero p has e = let on = has x (inl refl) in rw on.1 (sym on.1 ∙ ap row (of_some e))
  row_place (x ∷ es) (suc i) p has e = let on = has x (inl refl) in rw on.1 (row_place es i p (λ q m. has q (inr m)) e)

  pub row_none : (es : List P) (i : ℕ) → ((q : P) → In q es → Has row q) → slice_get es i ≡ None → slice_get (rows_by row es) i ≡ None
  row_none [] i has e = refl
  row_none (x ∷ es) zero has e = absurd (none_some (sym e))
  row_none (x ∷ es) (suc i) has e = let on = has x (inl refl) in rw on.1 (row_none es i (λ q m. has q (inr m)) e)

-- the first that passes
hit_at : {X : Type 0} (test : X → Bool) (xs : List X) (i : ℕ) (x : X) → slice_get xs i ≡ Some x → test x ≡ true → ((k : ℕ) (y : X) → k < i → slice_get xs k ≡ Some y → test y ≡ false) → position_or_len test xs ≡ i
hit_at test [] i x e t f = absurd (none_some e)
hit_at test (y ∷ ys) zero x e t f = let h : test y ≡ true = ap test (of_some e) ∙ t in rw h refl
hit_at test (y ∷ ys) (suc i) x e t f =
    let off : test y ≡ false = f 0 y (omega arith) refl in
    rw (off, one-add (position_or_len test ys)) (ap suc (hit_at test ys i x e t (λ k z lt g. f (suc k) z (omega arith) g)))

miss_at : {X : Type 0} (test : X → Bool) (xs : List X) → ((k : ℕ) (y : X) → slice_get xs k ≡ Some y → test y ≡ false) → position_or_len test xs ≡ length xs
miss_at test [] f = refl
miss_at test (y ∷ ys) f = let off : test y ≡ false = f 0 y refl in rw (off, one-add (position_or_len test ys)) (ap suc (miss_at test ys (λ k z g. f (suc k) z g)))

pub position_hit : {X : Type 0} (test : X → Bool) (xs : List X) (i : ℕ) (x : X) → slice_get xs i ≡ Some x → test x ≡ true → ((k : ℕ) (y : X) → k < i → slice_get xs k ≡ Some y → test y ≡ false) → position test xs ≡ Some i
position_hit test xs i x e t f = let at = hit_at test xs i x e t f in rw (at, lt-ltb i (length xs) (slice_get_within xs i x e)) refl

pub position_none : {X : Type 0} (test : X → Bool) (xs : List X) → ((k : ℕ) (y : X) → slice_get xs k ≡ Some y → test y ≡ false) → position test xs ≡ None
position_none test xs f = let at = miss_at test xs f in rw (at, le-ltb (length xs) (length xs) (omega arith)) refl

none_of_rest : {X : Type 0} (test : X → Bool) (x : X) (xs : List X) → find test (x ∷ xs) ≡ None → (test x ≡ false) × (find test xs ≡ None)
none_of_rest test x xs e = elim (cases_Bool (test x)) [
  | inl a ↦ let n : Some x ≡ None = rw a at e in absurd (none_some (sym n))
  | inr b ↦ (b, rw b at e)
]

find_none_at : {X : Type 0} (test : X → Bool) (xs : List X) → find test xs ≡ None → (k : ℕ) (y : X) → slice_get xs k ≡ Some y → test y ≡ false
find_none_at test [] e k y got = absurd (none_some got)
find_none_at test (x ∷ xs) e zero y got = ap test (sym (of_some got)) ∙ (none_of_rest test x xs e).0
find_none_at test (x ∷ xs) e (suc k) y got = find_none_at test xs (none_of_rest test x xs e).1 k y got

pub position_of_none : {X : Type 0} (test : X → Bool) (xs : List X) → find test xs ≡ None → position test xs ≡ None
position_of_none test xs e = position_none test xs (find_none_at test xs e)

-- the place of a key's row by entry
module _ {K V : Type 0} (cmp : K → K → Ordering) (order : IsTotalOrder cmp) (eq : K → K → Bool) (exact : IsExact eq) (t : RecencyList K V) (es xs : List Ptr) (k : Kept cmp t es xs) where
  pub row_ranked : (i : ℕ) (p : Ptr) → slice_get es i ≡ Some p → slice_get (rows_in t es) i ≡ row_at t p
  row_ranked i p e = row_place (row_at t) es i p k.stored.has e

  pub key_ranked : (h : K) (i : ℕ) (p : Ptr) → slice_get es i ≡ Some p → HasKey cmp t p h → position (λ (r : Row K V). eq h r.key) (rows_in t es) ≡ Some i
  key_ranked h i p e has =
      position_hit (λ (r : Row K V). eq h r.key) (rows_in t es) i has.0 (row_ranked i p e ∙ has.1) (subst (λ j. eq h j ≡ true) (sym has.2) (exact.itself h))
      (λ j y lt got. elim (cases_Bool (eq h y.key)) [
        | inl a ↦ absurd (earlier j y lt got (sym (exact.same h y.key a)))
        | inr b ↦ b
      ])
    where
      earlier : (j : ℕ) (y : Row K V) → j < i → slice_get (rows_in t es) j ≡ Some y → ¬ (y.key ≡ h)
      earlier j y lt got same = at_place (slice_get es j) refl
        where
          at_place : (o : Option Ptr) → slice_get es j ≡ o → ⊥
          at_place None f = none_some (sym (row_none (row_at t) es j k.stored.has f) ∙ got)
          at_place (Some q) f =
              let there : row_at t q ≡ Some y = sym (row_ranked j q f) ∙ got in
              let apart : ¬ (q ≡ p) = (λ z. let before = pair_at (Earlier (row_at t)) es j i q p k.stored.rises lt f e y y there (ap (row_at t) (sym z) ∙ there) in omega arith) in
              keys_apart cmp order (row_at t) xs k.stored.sorted q p (k.stored.index.there q (at_in q es j f)) (k.stored.index.there p (at_in p es i e)) apart y has.0 there has.1 (same ∙ sym has.2)

  -- a link by its entry is that of the key's row
  pub key_entered : (h : K) (i : ℕ) (p q : Ptr) (entry : ℕ) → slice_get es i ≡ Some q → HasEntry t q entry → In p xs → HasKey cmp t p h → HasEntry t p entry → position (λ (r : Row K V). eq h r.key) (rows_in t es) ≡ Some i
  key_entered h i p q entry e a member has b =
      let on = in_at p es (k.stored.index.back p member) in
      let same : i ≡ on.0 = entry_place t es entry k.stored.rises i on.0 q p e a on.2 b in
      key_ranked h i p (ap (slice_get es) same ∙ on.2) has
