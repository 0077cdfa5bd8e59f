-- An item that moves from one place to another.
use Rattle.std.proofs.Common.{◌≡◌, ℕ, zero, suc, ◌+◌, ◌-◌, ◌<◌, ◌≤◌, List, [], ◌∷◌, ◌++◌, take, drop, length, insert, remove, slice_get, Some, None, ◌⊎◌, refl, sym, ap, ◌∙◌, subst, arith, inl, inr}
use Rattle.std.specs.declared.cmp.Ordering.{Ordering}
use Rattle.std.proofs.lemmas.Bool.{lt-ltb, le-ltb}
use Rattle.std.proofs.lemmas.List.{append_assoc, length-drop, length-take-le}
use Rattle.std.proofs.lemmas.List.Edits.{length-remove}
use borrow.Rule.Slice.PartMut.{put_mid, mid_of}
use denote.RawPtr.{Ptr}
use Rattle.rm_recency.specs.declared.RecencyList.{RecencyList}
use Rattle.rm_rows.proofs.Members.{of_some, compared}
use Rattle.rm_rows.specs.Index.{IsGap, place_without}

none_some : {X : Type 0} {x : X} → None ≡ Some x → ⊥
none_some e = cc

pub without_before : (gone place : ℕ) → gone < place → place_without gone place ≡ place - 1
without_before gone place lt = rw (lt-ltb gone place lt) refl

pub without_behind : (gone place : ℕ) → place ≤ gone → place_without gone place ≡ place
without_behind gone place le = rw (le-ltb gone place le) refl

module _ {X : Type 0} where
  -- the item at a place goes behind the k that follow it
  moved_on : (xs : List X) (a k : ℕ) (x : X) → slice_get xs a ≡ Some x
      → put_mid a (suc k) xs (drop 1 (mid_of a (suc k) xs) ++ take 1 (mid_of a (suc k) xs)) ≡ insert (remove xs a) (a + k) x
  moved_on [] a k x e = absurd (none_some e)
  moved_on (y ∷ xs) zero k x e =
      let here : zero + k ≡ k = omega arith in
      rw here (append_assoc (take k xs) (y ∷ []) (drop k xs) ∙ ap (λ z. take k xs ++ z ∷ drop k xs) (of_some e))
  moved_on (y ∷ xs) (suc a) k x e = let next : suc a + k ≡ suc (a + k) = omega arith in rw next (ap (λ l. y ∷ l) (moved_on xs a k x e))

  pub moved_up : (xs : List X) (a b : ℕ) (x : X) (part : List X) → a < b → slice_get xs a ≡ Some x → part ≡ drop 1 (mid_of a (b - a) xs) ++ take 1 (mid_of a (b - a) xs)
      → put_mid a (b - a) xs part ≡ insert (remove xs a) (place_without a b) x
  moved_up xs a b x part lt e is =
      let some : suc (b - a - 1) ≡ b - a = omega arith in
      let last : a + (b - a - 1) ≡ place_without a b = (let it : a + (b - a - 1) ≡ b - 1 = omega arith in it) ∙ sym (without_before a b lt) in
      ap (put_mid a (b - a) xs) is
      ∙ subst (λ n. put_mid a n xs (drop 1 (mid_of a n xs) ++ take 1 (mid_of a n xs)) ≡ insert (remove xs a) (a + (b - a - 1)) x) some (moved_on xs a (b - a - 1) x e)
      ∙ ap (λ n. insert (remove xs a) n x) last

  last_of : (xs : List X) (k : ℕ) (x : X) → slice_get xs k ≡ Some x → drop k (take (suc k) xs) ≡ x ∷ []
  last_of [] k x e = absurd (none_some e)
  last_of (y ∷ xs) zero x e = ap (λ z. z ∷ []) (of_some e)
  last_of (y ∷ xs) (suc k) x e = last_of xs k x e

  firsts_of : (xs : List X) (k : ℕ) → take k (take (suc k) xs) ≡ take k xs
  firsts_of xs zero = refl
  firsts_of [] (suc k) = refl
  firsts_of (y ∷ xs) (suc k) = ap (λ l. y ∷ l) (firsts_of xs k)

  -- the item at a place goes before the k in front of it
  moved_to : (xs : List X) (b a k : ℕ) (x : X) → a ≡ b + k → slice_get xs a ≡ Some x
      → put_mid b (suc k) xs (drop k (mid_of b (suc k) xs) ++ take k (mid_of b (suc k) xs)) ≡ insert (remove xs a) b x
  moved_to [] b a k x i e = absurd (none_some e)
  moved_to (y ∷ xs) zero a k x i e =
      let here : a ≡ k = omega (arith, i) in let at = subst (λ n. slice_get (y ∷ xs) n ≡ Some x) here e in
      ap (λ l. l ++ take k (take (suc k) (y ∷ xs)) ++ drop (suc k) (y ∷ xs)) (last_of (y ∷ xs) k x at)
      ∙ ap (λ l. x ∷ (l ++ drop (suc k) (y ∷ xs))) (firsts_of (y ∷ xs) k)
      ∙ ap (λ n. x ∷ remove (y ∷ xs) n) (sym here)
  moved_to (y ∷ xs) (suc b) zero k x i e = absurd (omega (arith, i))
  moved_to (y ∷ xs) (suc b) (suc a) k x i e = let rest : a ≡ b + k = omega (arith, i) in ap (λ l. y ∷ l) (moved_to xs b a k x rest e)

  abbrev pub span : ℕ → ℕ → List X → List X
  span b a xs = mid_of b (a + 1 - b) xs

  pub moved_down : (xs : List X) (a b : ℕ) (x : X) (part : List X) → b ≤ a → a < length xs → slice_get xs a ≡ Some x → part ≡ drop (length (span b a xs) - 1) (span b a xs) ++ take (length (span b a xs) - 1) (span b a xs)
      → put_mid b (a + 1 - b) xs part ≡ insert (remove xs a) (place_without a b) x
  moved_down xs a b x part le lt e is =
      let some : suc (a - b) ≡ a + 1 - b = omega arith in let far : a ≡ b + (a - b) = omega arith in
      let rest = length-drop b xs in
      let count = length-take-le (a + 1 - b) (drop b xs) (omega (arith, rest)) in
      let turn : length (span b a xs) - 1 ≡ a - b = omega (arith, count) in
      ap (put_mid b (a + 1 - b) xs) (is ∙ ap (λ m. drop m (span b a xs) ++ take m (span b a xs)) turn)
      ∙ subst (λ m. put_mid b m xs (drop (a - b) (mid_of b m xs) ++ take (a - b) (mid_of b m xs)) ≡ insert (remove xs a) b x) some (moved_to xs b a (a - b) x far e)
      ∙ ap (λ m. insert (remove xs a) m x) (sym (without_behind a b le))

  none_left : (gone k : ℕ) → slice_get (remove {X = X} [] gone) k ≡ None
  none_left zero k = refl
  none_left (suc gone) k = refl

  -- what is left lies at its place, or at the one before
  pub left_at : (xs : List X) (gone k : ℕ) (x : X) → slice_get (remove xs gone) k ≡ Some x → ((k < gone) × (slice_get xs k ≡ Some x)) ⊎ ((gone ≤ k) × (slice_get xs (k + 1) ≡ Some x))
  left_at [] gone k x e = absurd (none_some (sym (none_left gone k) ∙ e))
  left_at (y ∷ xs) zero k x e = let next : k + 1 ≡ suc k = omega arith in inr (omega arith, rw next e)
  left_at (y ∷ xs) (suc gone) zero x e = inl (omega arith, e)
  left_at (y ∷ xs) (suc gone) (suc k) x e = elim (left_at xs gone k x e) [
    | inl h ↦ let lt = h.0 in inl (omega arith, h.1)
    | inr h ↦ let le = h.0 in let next : suc k + 1 ≡ suc (k + 1) = omega arith in inr (omega arith, rw next h.1)
  ]

-- a key belongs where it did, once a node has gone
pub gap_without : {K V : Type 0} (cmp : K → K → Ordering) (t : RecencyList K V) (xs : List Ptr) (h : K) (gone i : ℕ) → gone < length xs → IsGap cmp t xs h i → IsGap cmp t (remove xs gone) h (place_without gone i)
gap_without cmp t xs h gone i within gap =
    let fewer = length-remove xs gone within in let fits = gap.within in
    elim (compared gone i) [
      | inl lt ↦ subst (IsGap cmp t (remove xs gone) h) (sym (without_before gone i lt)) (record {
        order = omega arith;
        within = omega (arith, fewer);
        below = λ k q r less got e. elim (left_at xs gone k q got) [
          | inl a ↦ gap.below k q r (omega arith) a.1 e
          | inr b ↦ gap.below (k + 1) q r (omega arith) b.1 e
        ];
        above = λ k q r le got e. elim (left_at xs gone k q got) [
          | inl a ↦ let near = a.0 in absurd (omega arith)
          | inr b ↦ gap.above (k + 1) q r (omega arith) b.1 e
        ];
      })
      | inr m ↦
          let le : i ≤ gone = elim m [ inl e ↦ omega (arith, e) | inr lt ↦ omega arith ] in
          subst (IsGap cmp t (remove xs gone) h) (sym (without_behind gone i le)) (record {
            order = omega arith;
            within = omega (arith, fewer);
            below = λ k q r less got e. elim (left_at xs gone k q got) [
              | inl a ↦ gap.below k q r less a.1 e
              | inr b ↦ let far = b.0 in absurd (omega arith)
            ];
            above = λ k q r after got e. elim (left_at xs gone k q got) [
              | inl a ↦ gap.above k q r after a.1 e
              | inr b ↦ gap.above (k + 1) q r (omega arith) b.1 e
            ];
          })
    ]
