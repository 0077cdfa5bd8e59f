-- What a table that is kept tells.
use Rattle.std.proofs.Common.{◌≡◌, ℕ, ◌*◌, ◌<◌, ◌≤◌, List, [], ◌∷◌, slice_get, Option, Some, None, All, sym, ap, ◌∙◌, subst, arith, inl, inr}
use Rattle.std.specs.List.{AllByRecursion}
use Rattle.std.specs.declared.cmp.Ordering.{Ordering}
use Rattle.std.specs.declared.cmp.Ordering.TheVariants.{Less}
use Rattle.std.specs.Cmp.{IsTotalOrder}
use Rattle.std.proofs.lemmas.Option.{slice_get-map}
use Rattle.std.proofs.lemmas.List.Elements.{recursion_from_All}
use denote.RawPtr.{Ptr, ◌+ₚ◌}
use Rattle.rm_evicting.specs.declared.Row.{Row}
use Rattle.rm_recency.specs.declared.RecencyList.{RecencyList}
use Rattle.rm_recency.specs.Threads.{row_of, Threaded, IsAt, place, next_of, row_at, SameNodes, IsIn, IsNone}
use Rattle.rm_recency.proofs.ThreadLemmas.{place_as}
use Rattle.rm_rows.specs.Stored.{In, add_row, rows_by, IsAfter, Before, Stored}
use Rattle.rm_rows.proofs.Members.{of_some, compared, in_at, at_in, in_cut, all_in, in_all, pair_at, pair_weaker}
use Rattle.rm_rows.proofs.Steps.{irreflexive}
use Rattle.rm_rows.specs.Index.{rows_in, IsIndex, HasKey, IsGap, Kept}

some_none : {X : Type 0} {x : X} → Some x ≡ None → ⊥
some_none e = cc

add_rest : {K V : Type 0} (Q : Row K V → Type 0) (o : Option (Row K V)) (l : List (Row K V)) → AllByRecursion Q (add_row o l) → AllByRecursion Q l
add_rest Q None l h = h
add_rest Q (Some r) l h = h.1

module _ {P K V : Type 0} (row : P → Option (Row K V)) (Q : Row K V → Type 0) where
  pub all_rows : (es : List P) → AllByRecursion Q (rows_by row es) → (q : P) → In q es → (s : Row K V) → row q ≡ Some s → Q s
  all_rows [] h q k s e = absurd k
  all_rows (x ∷ es) h q k s e = elim k [
    | inl z ↦ (subst (λ (o : Option (Row K V)). AllByRecursion Q (add_row o (rows_by row es))) (ap row (sym z) ∙ e) h).0
    | inr m ↦ all_rows es (add_rest Q (row x) (rows_by row es) h) q m s e
  ]

module _ {K V : Type 0} where
  pub same_place : (t : RecencyList K V) (p q : Ptr) → IsAt t p → IsAt t q → place t p ≡ place t q → p ≡ q
  same_place t p q a b e = a.1 ∙ (λ i. t.nodes.ptr +ₚ (e i * t.stride.bytes)) ∙ sym b.1

  pub none_from : (t : RecencyList K V) (p : Ptr) (ps : List Ptr) → IsAt t p → AllByRecursion (IsAt t) ps → ¬ (In p ps) → IsNone t p ps
  none_from t p [] a h n = tt
  none_from t p (q ∷ ps) a h n = ((λ e. n (inl (same_place t p q a h.0 e))), none_from t p ps a h.1 (λ k. n (inr k)))

  pub same_rows : (t u : RecencyList K V) → SameNodes t u → (q : Ptr) → row_at u q ≡ row_at t q
  same_rows t u s q = sym (slice_get-map row_of u.nodes.items (place u q)) ∙ (λ i. slice_get (s.rows i) (place_as t u s q i)) ∙ slice_get-map row_of t.nodes.items (place t q)

  module _ (t : RecencyList K V) (es : List Ptr) where
    all_of : (Q : Row K V → Type 0) → All Q (rows_in t es) → (q : Ptr) → In q es → (s : Row K V) → row_at t q ≡ Some s → Q s
    all_of Q h = all_rows (row_at t) Q es (recursion_from_All Q (rows_in t es) h)

    pub all_after : (r' : Row K V) → All (λ (r : Row K V). r.last < r'.last) (rows_in t es) → All (λ (r : Row K V). r.tick ≤ r'.tick) (rows_in t es) → (q : Ptr) → In q es → (s : Row K V) → row_at t q ≡ Some s → IsAfter r' s
    all_after r' h l q k s e = (all_of (λ (r : Row K V). r.last < r'.last) h q k s e, all_of (λ (r : Row K V). r.tick ≤ r'.tick) l q k s e)

  module _ (cmp : K → K → Ordering) (t : RecencyList K V) (es rs xs : List Ptr) (links : AllByRecursion (IsAt t) es) (recency : Threaded t rs) (stored : Stored (row_at t) cmp es rs xs) where
    pub member_at : (q : Ptr) → In q es → IsAt t q
    member_at q h = in_all (IsAt t) es links q h

    pub is_index : IsIndex cmp t xs
    is_index = (all_in (IsAt t) xs (λ q h. member_at q (stored.index.back q h)), stored.sorted)

    pub recent_in : (p : Ptr) → In p es → IsIn t p
    recent_in p h = let cut = in_cut p rs (stored.recent.there p h) in (cut.0, cut.1, subst (Threaded t) cut.2 recency)

  -- the first node of the list is one of those that are threaded
  pub first_in : (t : RecencyList K V) (rs : List Ptr) (p : Ptr) → Threaded t rs → next_of t None ≡ Some (Some p) → In p rs
  first_in t [] p h e = absurd (some_none (of_some (sym e ∙ h.ring.forward)))
  first_in t (q ∷ rs) p h e = inl (of_some (of_some (sym e ∙ h.ring.forward.0)))

  -- so it is one of the rows, and in the index
  pub newest_in : (cmp : K → K → Ordering) (t : RecencyList K V) (es xs : List Ptr) (p : Ptr) → Kept cmp t es xs → next_of t None ≡ Some (Some p) → In p es × In p xs
  newest_in cmp t es xs p k e = let member = k.stored.recent.back p (first_in t k.rs p k.recency e) in (member, k.stored.index.there p member)

  -- an index of one block is one of another with the same rows at its places
  pub index_as : (cmp : K → K → Ordering) (t u : RecencyList K V) (xs : List Ptr) → ((q : Ptr) → IsAt t q → IsAt u q) → ((q : Ptr) → row_at u q ≡ row_at t q) → IsIndex cmp t xs → IsIndex cmp u xs
  index_as cmp t u xs at same h = (
    all_in (IsAt u) xs (λ q k. at q (in_all (IsAt t) xs h.0 q k)),
    pair_weaker (Before (row_at t) cmp) (Before (row_at u) cmp) xs (λ p q a b l r s e f. l r s (sym (same p) ∙ e) (sym (same q) ∙ f)) h.1,
  )

  -- and a gap in the one is one in the other
  pub gap_as : (cmp : K → K → Ordering) (t u : RecencyList K V) (xs : List Ptr) (h : K) (i : ℕ) → ((q : Ptr) → In q xs → row_at u q ≡ row_at t q) → IsGap cmp t xs h i → IsGap cmp u xs h i
  gap_as cmp t u xs h i same gap = record {
    order = gap.order;
    within = gap.within;
    below = λ j q r lt got e. gap.below j q r lt got (sym (same q (at_in q xs j got)) ∙ e);
    above = λ j q r le got e. gap.above j q r le got (sym (same q (at_in q xs j got)) ∙ e);
  }

  module _ (cmp : K → K → Ordering) (order : IsTotalOrder cmp) (t : RecencyList K V) (xs : List Ptr) (index : IsIndex cmp t xs) where
    -- the place of a key is that of its node
    pub key_place : (j : ℕ) (q p : Ptr) (h : K) → slice_get xs j ≡ Some q → HasKey cmp t q h → In p xs → HasKey cmp t p h → q ≡ p
    key_place j q p h got a k b =
        let i = in_at p xs k in
        elim (compared j i.0) [
          | inl lt ↦ absurd (differ j i.0 q p lt got i.2 a b)
          | inr m ↦ elim m [ inl e ↦ of_some (sym got ∙ ap (slice_get xs) e ∙ i.2) | inr lt ↦ absurd (differ i.0 j p q lt i.2 got b a) ]
        ]
      where
        differ : (i j : ℕ) (p q : Ptr) → i < j → slice_get xs i ≡ Some p → slice_get xs j ≡ Some q → HasKey cmp t p h → HasKey cmp t q h → ⊥
        differ i j p q lt e f a b =
            irreflexive cmp order h (subst (λ (w : K × K). cmp w.0 w.1 ≡ Less) (λ i. (a.2 i, b.2 i)) (pair_at (Before (row_at t) cmp) xs i j p q index.1 lt e f a.0 b.0 a.1 b.1))

    -- a gap for a key has no node of it
    pub gap_none : (h : K) (i : ℕ) (p : Ptr) → IsGap cmp t xs h i → In p xs → HasKey cmp t p h → ⊥
    gap_none h i p gap k a =
        let on = in_at p xs k in
        elim (compared on.0 i) [
          | inl lt ↦ irreflexive cmp order h (subst (λ w. cmp w h ≡ Less) a.2 (gap.below on.0 p a.0 lt on.2 a.1))
          | inr m ↦ irreflexive cmp order h (subst (λ w. cmp h w ≡ Less) a.2 (gap.above on.0 p a.0 (elim m [ inl e ↦ omega arith | inr lt ↦ omega arith ]) on.2 a.1))
        ]
