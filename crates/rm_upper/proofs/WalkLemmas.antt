-- The least protocol of the slots.
use Rattle.std.proofs.Common.{◌≡◌, ℕ, ◌<◌, ◌≤◌, ◌⊎◌, true, false, nat_le, nat_lt, List, [], ◌∷◌, Option, Some, None, refl, sym, ap, ◌∙◌, arith, subst, inl, inr}
use Rattle.std.specs.declared.cmp.Ordering.{Ordering}
use Rattle.std.specs.declared.cmp.Ordering.TheVariants.{Less}
use Rattle.std.specs.Ordering.{nat_cmp, MatchOrdering}
use Rattle.std.specs.Cmp.{ranked, nat_cmp_is}
use Rattle.std.proofs.lemmas.Bool.{cases_Bool, true≢false, le-leb, leb-true}
use Rattle.std.proofs.lemmas.Bool.Decides.{nat_tests}
use Rattle.rm_layers.specs.Marks.{IsLeast, IsAboveName}
use Rattle.rm_upper.specs.declared.slots.Slot.{Slot}
use Rattle.rm_upper.specs.declared.slots.KeptApplication.{KeptApplication}
use Rattle.rm_upper.specs.Walk.{IsMarked, marked_at, is_above, is_better, better, best_of}

below : (m n : ℕ) → nat_cmp m n ≡ Less → m < n
below m n e = subst (λ o. MatchOrdering o (m < n) (m ≡ n) (n < m)) e (ranked m n (nat_cmp m n) refl)

less : (m n : ℕ) → m < n → nat_cmp m n ≡ Less
less m n lt = sym (nat_cmp_is m n Less lt)

module _ {X : Type 0} (cmp : X → X → Ordering) where
  pub least-shown : (shown other above : X → Type 0) → ((x : X) → shown x → other x) → ((x : X) → other x → shown x) → (res : Option X) → IsLeast cmp shown above res → IsLeast cmp other above res
  least-shown shown other above to from None l = λ x o a. l x (from x o) a
  least-shown shown other above to from (Some x) l = (to x l.0, l.1, λ y o a. l.2 y (from y o) a)

above-true : (from : Option ℕ) (p : ℕ) → is_above from p ≡ true → IsAboveName nat_cmp from p
above-true None p e = tt
above-true (Some q) p e = less q p (let lt : q < p = grind (arith, nat_tests, e) in lt)

above-false : (from : Option ℕ) (p : ℕ) → is_above from p ≡ false → IsAboveName nat_cmp from p → ⊥
above-false None p e a = true≢false e
above-false (Some q) p e a = let lt : q < p = below q p a in let t : nat_lt q p ≡ true = grind (arith, nat_tests) in true≢false (sym t ∙ e)

module _ (from : Option ℕ) (P : ℕ → Type 0) where
  abbrev Above : ℕ → Type 0
  Above p = IsAboveName nat_cmp from p

  next_better : (found best : Option ℕ) → IsLeast nat_cmp P Above best → IsLeast nat_cmp (λ p. P p ⊎ (found ≡ Some p)) Above (better from found best)
  next_better None None l = λ x s a. elim s [ inl b ↦ l x b a | inr e ↦ cc ]
  next_better None (Some b) l = (inl l.0, l.1, λ y s a lt. elim s [ inl t ↦ l.2 y t a lt | inr e ↦ cc ])
  next_better (Some p) best l = elim (cases_Bool (is_above from p)) [
    | inr o ↦ rw o (keeps best l (λ a. above-false from p o a))
    | inl i ↦ elim (cases_Bool (is_better p best)) [
      | inr o ↦ rw (i, o) (worse best l o)
      | inl j ↦ rw (i, j) (inr refl, above-true from p i, λ y s a lt. elim s [ inl t ↦ least best l j y t a (below y p lt) | inr e ↦ let same : p ≡ y = cc in let y_less : y < p = below y p lt in omega arith ])
    ]
  ]
    where
      keeps : (b : Option ℕ) → IsLeast nat_cmp P Above b → (Above p → ⊥) → IsLeast nat_cmp (λ q. P q ⊎ (Some p ≡ Some q)) Above b
      keeps None m off = λ x s a. elim s [ inl t ↦ m x t a | inr e ↦ let same : p ≡ x = cc in off (subst Above (sym same) a) ]
      keeps (Some b) m off = (inl m.0, m.1, λ y s a lt. elim s [ inl t ↦ m.2 y t a lt | inr e ↦ let same : p ≡ y = cc in off (subst Above (sym same) a) ])

      worse : (b : Option ℕ) → IsLeast nat_cmp P Above b → is_better p b ≡ false → IsLeast nat_cmp (λ q. P q ⊎ (Some p ≡ Some q)) Above b
      worse None m o = absurd (true≢false o)
      worse (Some b) m o = (inl m.0, m.1, λ y s a lt. elim s [ inl t ↦ m.2 y t a lt | inr e ↦ let same : p ≡ y = cc in let less : y < b = below y b lt in let t : nat_lt p b ≡ true = grind (arith, nat_tests) in true≢false (sym t ∙ o) ])

      least : (b : Option ℕ) → IsLeast nat_cmp P Above b → is_better p b ≡ true → (y : ℕ) → P y → Above y → y < p → ⊥
      least None m j y t a lt = m y t a
      least (Some b) m j y t a lt = let pb : p < b = grind (arith, nat_tests, j) in m.2 y t a (less y b (omega arith))

module _ {A : Type 0} (mark : ℕ) (from : Option ℕ) where
  here_to : (slot : Option Slot) (application : Option (KeptApplication A)) (slots : List (Option Slot)) (applications : List (Option (KeptApplication A))) (p : ℕ) → marked_at mark slot application ≡ Some p → IsMarked mark (slot ∷ slots) (application ∷ applications) p
  here_to None application slots applications p e = cc
  here_to (Some slot) None slots applications p e = cc
  here_to (Some slot) (Some kept) slots applications p e = elim (cases_Bool (nat_le slot.since kept.stamp)) [
    | inl i ↦ elim (cases_Bool (nat_le mark kept.tick)) [
      | inl j ↦ let same : Some slot.protocol ≡ Some p = rw (i, j) at e in (kept.tick, inl (cc, leb-true slot.since kept.stamp i, refl), leb-true mark kept.tick j)
      | inr o ↦ let none : None ≡ Some p = rw (i, o) at e in cc
    ]
    | inr o ↦ let none : None ≡ Some p = rw o at e in cc
  ]

  later_to : (slot : Option Slot) (application : Option (KeptApplication A)) (slots : List (Option Slot)) (applications : List (Option (KeptApplication A))) (p : ℕ) → IsMarked mark slots applications p → IsMarked mark (slot ∷ slots) (application ∷ applications) p
  later_to None application slots applications p m = m
  later_to (Some slot) None slots applications p m = m
  later_to (Some slot) (Some kept) slots applications p m = (m.0, inr m.1, m.2)

  from_marked : (slot : Option Slot) (application : Option (KeptApplication A)) (slots : List (Option Slot)) (applications : List (Option (KeptApplication A))) (p : ℕ) → IsMarked mark (slot ∷ slots) (application ∷ applications) p → (marked_at mark slot application ≡ Some p) ⊎ IsMarked mark slots applications p
  from_marked None application slots applications p m = inr m
  from_marked (Some slot) None slots applications p m = inr m
  from_marked (Some slot) (Some kept) slots applications p m = elim m.1 [
    | inl h ↦
        let at : m.0 ≡ kept.tick = h.2 in
        let up : mark ≤ m.0 = m.2 in
        let le : mark ≤ kept.tick = omega arith in
        inl (rw (le-leb slot.since kept.stamp h.1, le-leb mark kept.tick le) (ap (λ q. Some q) h.0))
    | inr l ↦ inr (m.0, l, m.2)
  ]

  best_least : (slots : List (Option Slot)) (applications : List (Option (KeptApplication A))) (best : Option ℕ) (P : ℕ → Type 0) → IsLeast nat_cmp P (IsAboveName nat_cmp from) best → IsLeast nat_cmp (λ p. P p ⊎ IsMarked mark slots applications p) (IsAboveName nat_cmp from) (best_of mark from slots applications best)
  best_least [] applications best P l = least-shown nat_cmp P (λ p. P p ⊎ IsMarked {A = A} mark [] applications p) (IsAboveName nat_cmp from) (λ x s. inl s) (λ x s. elim s [ inl a ↦ a | inr m ↦ absurd m.1 ]) best l
  best_least (slot ∷ slots) [] best P l = least-shown nat_cmp P (λ p. P p ⊎ IsMarked {A = A} mark (slot ∷ slots) [] p) (IsAboveName nat_cmp from) (λ x s. inl s) (λ x s. elim s [ inl a ↦ a | inr m ↦ absurd m.1 ]) best l
  best_least (slot ∷ slots) (application ∷ applications) best P l =
      least-shown nat_cmp (λ p. (P p ⊎ (marked_at mark slot application ≡ Some p)) ⊎ IsMarked mark slots applications p) (λ p. P p ⊎ IsMarked mark (slot ∷ slots) (application ∷ applications) p) (IsAboveName nat_cmp from)
      (λ x s. elim s [ inl a ↦ elim a [ inl b ↦ inl b | inr e ↦ inr (here_to slot application slots applications x e) ] | inr m ↦ inr (later_to slot application slots applications x m) ])
      (λ x s. elim s [ inl b ↦ inl (inl b) | inr m ↦ elim (from_marked slot application slots applications x m) [ inl e ↦ inl (inr e) | inr n ↦ inr n ] ])
      (best_of mark from slots applications (better from (marked_at mark slot application) best))
      (best_least slots applications (better from (marked_at mark slot application) best) (λ p. P p ⊎ (marked_at mark slot application ≡ Some p)) (next_better from P (marked_at mark slot application) best l))

  -- the best of all slots is the least
  pub best_is : (slots : List (Option Slot)) (applications : List (Option (KeptApplication A))) → IsLeast nat_cmp (IsMarked mark slots applications) (IsAboveName nat_cmp from) (best_of mark from slots applications None)
  best_is slots applications = least-shown nat_cmp (λ p. ⊥ ⊎ IsMarked mark slots applications p) (IsMarked mark slots applications) (IsAboveName nat_cmp from) (λ x s. elim s [ inl b ↦ absurd b | inr m ↦ m ]) (λ x m. inr m) (best_of mark from slots applications None) (best_least slots applications None (λ p. ⊥) (λ x b a. b))
