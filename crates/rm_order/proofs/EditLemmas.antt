-- Keys that rise, where one comes in and where one goes.
use Rattle.std.proofs.Common.{◌≡◌, ◌↔◌, ◌⊎◌, ℕ, zero, suc, ◌+◌, ◌<◌, ◌≤◌, Bool, true, false, List, [], ◌∷◌, ◌++◌, take, drop, length, insert, remove, slice_get, slice_set, get_or, Some, Contains, refl, sym, ap, ◌∙◌, subst, arith, true≢false, inl, inr}
use Rattle.std.specs.declared.cmp.Ordering.{Ordering}
use Rattle.std.specs.declared.cmp.Ordering.TheVariants.{Less, Equal, Greater}
use Rattle.std.specs.Cmp.{IsTotalOrder}
use Rattle.std.specs.Ordering.{ordering_reverse, is_le}
use Rattle.std.proofs.lemmas.Cmp.{tied_itself}
use Rattle.std.proofs.lemmas.Option.{slice_get-get_or, slice_get_within}
use Rattle.std.proofs.lemmas.List.{take_at}
use Rattle.std.proofs.lemmas.List.Edits.{length-remove}
use Rattle.rm_rows.specs.Stored.{In}
use Rattle.rm_rows.specs.Index.{place_without}
use Rattle.rm_rows.proofs.Members.{compared, in_at, at_in, in_middle, in_without, in_with, in_take, in_drop, pair_without, pair_with, pair_at, cut_at, join_at}
use Rattle.rm_rows.proofs.PlaceLemmas.{without_before, without_behind, left_at}
use Rattle.rm_rows.proofs.Steps.{irreflexive, pair_gone}
use Rattle.rm_order.specs.Order.{AreRising, IsCut}
use Rattle.rm_order.proofs.PlaceLemmas.{contains_in, in_contains}

below_of : (o : Ordering) → is_le o ≡ false → o ≡ Greater
below_of Less e = cc
below_of Equal e = cc
below_of Greater e = refl

above_of : (o : Ordering) → is_le o ≡ true → (o ≡ Less) ⊎ (o ≡ Equal)
above_of Less e = inl refl
above_of Equal e = inr refl
above_of Greater e = cc

-- an item set where another was put in
set_inserted : {X : Type 0} (xs : List X) (place : ℕ) (old new : X) → place ≤ length xs → slice_set (insert xs place old) place new ≡ insert xs place new
set_inserted xs zero old new le = refl
set_inserted [] (suc place) old new le = absurd (omega arith)
set_inserted (x ∷ xs) (suc place) old new le = ap (λ l. x ∷ l) (set_inserted xs place old new (omega arith))

-- what a list is once an item was moved in it and set
pub moved_set : {X : Type 0} (xs seen moved : List X) (len place from to : ℕ) (old new : X) → seen ≡ xs → len ≡ length xs → slice_get xs from ≡ Some old → place_without from to ≤ length (remove xs from) → place ≡ place_without from to
    → length moved ≡ length seen → ((item : X) → slice_get seen from ≡ Some item → moved ≡ insert (remove seen from) (place_without from to) item)
    → slice_set (take len (moved ++ drop (length moved) xs)) place new ≡ insert (remove xs from) (place_without from to) new
moved_set {X = X} xs seen moved len place from to old new is count at fits there as_long item =
    let whole : take len (moved ++ drop (length moved) xs) ≡ insert (remove xs from) (place_without from to) old =
    take_at moved (drop (length moved) xs) len (as_long ∙ ap length is ∙ sym count)
    ∙ item old (subst (λ (l : List X). slice_get l from ≡ Some old) (sym is) at)
    ∙ ap (λ (l : List X). insert (remove l from) (place_without from to) old) is in
    (λ i. slice_set (whole i) (there i) new) ∙ set_inserted (remove xs from) (place_without from to) old new fits

module _ {K : Type 0} (cmp : K → K → Ordering) where
  abbrev before : K → K → Type 0
  before one other = cmp one other ≡ Less

  abbrev pub from_key : K → K → Bool
  from_key key other = is_le (cmp key other)

module _ {K : Type 0} (cmp : K → K → Ordering) (order : IsTotalOrder cmp) (exact : (a b : K) → cmp a b ≡ Equal → a ≡ b) where
  turned : (one other : K) → cmp one other ≡ Greater → cmp other one ≡ Less
  turned one other e = order.antisymm other one ∙ ap ordering_reverse e

  module _ (keys : List K) (rising : AreRising cmp keys) where
    -- a key that isn't there, put in at its place
    module _ (key : K) (place : ℕ) (cut : IsCut (from_key cmp key) keys place) where
      pub rising_with : ¬ (Contains keys key) → AreRising cmp (insert keys place key)
      rising_with off = pair_with (before cmp) (take place keys) key (drop place keys)
          (λ q h. let on = in_take q keys place h in turned key q (below_of (cmp key q) (cut.below on.0 q on.1 on.2)))
          (λ q h. let on = in_drop q keys place h in elim (above_of (cmp key q) (cut.above on.0 q on.1 on.2)) [
            | inl lt ↦ lt
            | inr same ↦ absurd (off (subst (Contains keys) (sym (exact key q same)) (contains_in keys q (at_in q keys on.0 on.2))))
          ])
          (subst (AreRising cmp) (sym (join_at keys place)) rising)

      pub keys_with : (k : K) → Contains (insert keys place key) k ↔ (Contains keys k ⊎ (k ≡ key))
      keys_with k = (
        (λ h. elim (in_without k (take place keys) key (drop place keys) (in_contains (insert keys place key) k h)) [
          | inl same ↦ inr same
          | inr m ↦ inl (contains_in keys k (subst (In k) (join_at keys place) m))
        ]),
        (λ h. contains_in (insert keys place key) k (elim h [
          | inl c ↦ in_with k (take place keys) key (drop place keys) (subst (In k) (sym (join_at keys place)) (in_contains keys k c))
          | inr same ↦ subst (λ q. In q (insert keys place key)) (sym same) (in_middle key (take place keys) (drop place keys))
        ])),
      )

    -- the place of a key that is there
    place_of : (gone : K) (place : ℕ) → IsCut (from_key cmp gone) keys place → Contains keys gone → slice_get keys place ≡ Some gone
    place_of gone place cut held =
        let on = in_at gone keys (in_contains keys gone held) in
        elim (compared on.0 place) [
          | inl lt ↦ absurd (true≢false (sym (ap is_le (tied_itself order gone)) ∙ cut.below on.0 gone lt on.2))
          | inr m ↦ elim m [
            | inl e ↦ ap (slice_get keys) (sym e) ∙ on.2
            | inr lt ↦
                let within = on.1 in
                let here = slice_get-get_or keys place gone (omega arith) in
                let first = pair_at (before cmp) keys place on.0 (get_or keys place gone) gone rising lt here on.2 in
                absurd (true≢false (sym (cut.above place (get_or keys place gone) (omega arith) here) ∙ ap is_le (order.antisymm gone (get_or keys place gone) ∙ ap ordering_reverse first)))
          ]
        ]

    -- a key that is there goes
    module _ (gone : K) (from : ℕ) (at : slice_get keys from ≡ Some gone) where
      parted : keys ≡ take from keys ++ gone ∷ drop (suc from) keys
      parted = cut_at keys from gone at

      rising_without : AreRising cmp (remove keys from)
      rising_without = pair_without (before cmp) (take from keys) gone (drop (suc from) keys) (subst (AreRising cmp) parted rising)

      keys_without : (k : K) → Contains (remove keys from) k ↔ (Contains keys k × (¬ (k ≡ gone)))
      keys_without k = (
        (λ h.
            let m = in_contains (remove keys from) k h in (
              contains_in keys k (subst (In k) (sym parted) (in_with k (take from keys) gone (drop (suc from) keys) m)),
              (λ same. pair_gone (before cmp) gone (irreflexive cmp order gone) (take from keys) (drop (suc from) keys) (subst (AreRising cmp) parted rising) (subst (λ q. In q (remove keys from)) same m)),
            )),
        (λ h. elim (in_without k (take from keys) gone (drop (suc from) keys) (subst (In k) parted (in_contains keys k h.0))) [
          | inl same ↦ absurd (h.1 same)
          | inr m ↦ contains_in (remove keys from) k m
        ]),
      )

  -- a place among keys is one among those that are left
  cut_without : (test : K → Bool) (keys : List K) (gone place : ℕ) → gone < length keys → IsCut test keys place → IsCut test (remove keys gone) (place_without gone place)
  cut_without test keys gone place within cut =
      let fewer = length-remove keys gone within in let fits = cut.within in
      elim (compared gone place) [
        | inl lt ↦ subst (IsCut test (remove keys gone)) (sym (without_before gone place lt)) (record {
          order = omega arith;
          within = omega (arith, fewer);
          below = λ k q less got. elim (left_at keys gone k q got) [
            | inl a ↦ cut.below k q (omega arith) a.1
            | inr b ↦ cut.below (k + 1) q (omega arith) b.1
          ];
          above = λ k q le got. elim (left_at keys gone k q got) [
            | inl a ↦ let near = a.0 in absurd (omega arith)
            | inr b ↦ cut.above (k + 1) q (omega arith) b.1
          ];
        })
        | inr m ↦
            let le : place ≤ gone = elim m [ inl e ↦ omega (arith, e) | inr lt ↦ omega arith ] in
            subst (IsCut test (remove keys gone)) (sym (without_behind gone place le)) (record {
              order = omega arith;
              within = omega (arith, fewer);
              below = λ k q less got. elim (left_at keys gone k q got) [
                | inl a ↦ cut.below k q less a.1
                | inr b ↦ let far = b.0 in absurd (omega arith)
              ];
              above = λ k q after got. elim (left_at keys gone k q got) [
                | inl a ↦ cut.above k q after a.1
                | inr b ↦ cut.above (k + 1) q (omega arith) b.1
              ];
            })
      ]

  -- a key goes, and another one that isn't there comes in
  module _ (keys : List K) (rising : AreRising cmp keys) (gone key : K) (from to : ℕ) (out : IsCut (from_key cmp gone) keys from) (come : IsCut (from_key cmp key) keys to) (held : Contains keys gone) (off : ¬ (Contains keys key)) where
    pub gone_at : slice_get keys from ≡ Some gone
    gone_at = place_of keys rising gone from out held

    pub from_within : from < length keys
    from_within = slice_get_within keys from gone gone_at

    pub cut_left : IsCut (from_key cmp key) (remove keys from) (place_without from to)
    cut_left = cut_without (from_key cmp key) keys from to from_within come

    pub rising_exchanged : AreRising cmp (insert (remove keys from) (place_without from to) key)
    rising_exchanged = rising_with (remove keys from) (rising_without keys rising gone from gone_at) key (place_without from to) cut_left (λ h. off ((keys_without keys rising gone from gone_at key).0 h).0)

    pub keys_exchanged : (k : K) → Contains (insert (remove keys from) (place_without from to) key) k ↔ ((Contains keys k × (¬ (k ≡ gone))) ⊎ (k ≡ key))
    keys_exchanged k =
        let came = keys_with (remove keys from) (rising_without keys rising gone from gone_at) key (place_without from to) cut_left k in
        let went = keys_without keys rising gone from gone_at k in (
          (λ h. elim (came.0 h) [ inl m ↦ inl (went.0 m) | inr same ↦ inr same ]),
          (λ h. came.1 (elim h [ inl m ↦ inl (went.1 m) | inr same ↦ inr same ])),
        )
