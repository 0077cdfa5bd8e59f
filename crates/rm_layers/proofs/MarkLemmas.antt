-- That no instance is left, by two marks alone; and the next application row, by the next network row.
use Rattle.std.proofs.Common.{◌≡◌, ℕ, ◌<◌, ◌≤◌, ◌+◌, ◌⊎◌, Option, Some, None, refl, sym, ap, ◌∙◌, arith, subst, inl, inr}
use Rattle.std.specs.Prelude.{⊤}
use Rattle.std.specs.declared.cmp.Ordering.{Ordering}
use Rattle.std.specs.declared.cmp.Ordering.TheVariants.{Less, Equal, Greater}
use Rattle.std.specs.Ordering.{ordering_then, ordering_reverse, nat_cmp}
use Rattle.std.specs.Cmp.{IsTotalOrder}
use Rattle.std.proofs.lemmas.Cmp.{tied_itself}
use Rattle.rm_layers.specs.Marks.{pair_cmp, IsLeast, StandsAt, IsNextInstance, IsAboveName, IsAboveApplication}

-- the first is less, or it is equal and the second is less
then_less : (a b : Ordering) → ordering_then a b ≡ Less → (a ≡ Less) ⊎ ((a ≡ Equal) × (b ≡ Less))
then_less Less b e = inl refl
then_less Equal b e = inr (refl, e)
then_less Greater b e = cc

module _ {X : Type 0} (cmp : X → X → Ordering) (lasts : X → ℕ → Type 0) (mark : ℕ) (above : X → Type 0) where
  at_mark : (m n : ℕ) (y : X) → m ≤ n → StandsAt lasts n y → StandsAt lasts m y
  at_mark m n y le s = let last : n ≤ s.0 = s.2 in (s.0, s.1, omega arith)

  -- none at either mark, and none at all
  pub instance_none : IsLeast cmp (StandsAt lasts mark) above None → IsLeast cmp (StandsAt lasts (mark + 1)) (λ y. ⊤) None → IsNextInstance cmp lasts mark above None
  instance_none here next = λ i stands up. go i.0 i.1 stands up
    where
      go : (m : ℕ) (y : X) → StandsAt lasts m y → (mark < m) ⊎ ((mark ≡ m) × above y) → ⊥
      go m y s (inl lt) = next y (at_mark (mark + 1) m y (omega arith) s) tt
      go m y s (inr u) = let e : mark ≡ m = u.0 in here y (at_mark mark m y (omega arith) s) u.1

module _ {X : Type 0} (cmp : X → X → Ordering) (shown : X → Type 0) where
  -- the least above one place is the least above another, where the same names stand above both
  pub least-same : (above other : X → Type 0) → ((x : X) → shown x → above x → other x) → ((x : X) → shown x → other x → above x) → (res : Option X) → IsLeast cmp shown other res → IsLeast cmp shown above res
  least-same above other to from None l = λ x s a. l x s (to x s a)
  least-same above other to from (Some x) l = (l.0, from x l.0 l.1, λ y s a. l.2 y s (to y s a))

module _ {K : Type 0} (cmp : K → K → Ordering) (order : IsTotalOrder cmp) (exact : (a b : K) → cmp a b ≡ Equal → a ≡ b) (held : K → Type 0) (shown : K × ℕ → Type 0) (within : (x : K × ℕ) → shown x → held x.0) where
  flips : (j k : K) → cmp j k ≡ Less → cmp k j ≡ Greater
  flips j k e = order.antisymm k j ∙ ap ordering_reverse e

  abbrev name_cmp : K × ℕ → K × ℕ → Ordering
  name_cmp = pair_cmp cmp nat_cmp

  -- the next protocol within a row
  pub in_row : (j : K) (q : Option ℕ) (p : ℕ) → IsLeast nat_cmp (λ m. shown (j, m)) (IsAboveName nat_cmp q) (Some p) → IsLeast name_cmp shown (IsAboveApplication cmp (Some (j, q))) (Some (j, p))
  in_row j q p l = (l.0, inr (refl, l.1), λ y s up less. go y.0 y.1 s up (then_less (cmp y.0 j) (nat_cmp y.1 p) less))
    where
      go : (k : K) (m : ℕ) → shown (k, m) → (cmp j k ≡ Less) ⊎ ((j ≡ k) × IsAboveName nat_cmp q m) → (cmp k j ≡ Less) ⊎ ((cmp k j ≡ Equal) × (nat_cmp m p ≡ Less)) → ⊥
      go k m s (inl a) (inl b) = let e : cmp k j ≡ Greater = flips j k a in cc
      go k m s (inl a) (inr b) = let e : cmp k j ≡ Greater = flips j k a in let f : cmp k j ≡ Equal = b.0 in cc
      go k m s (inr a) (inl b) = let e : cmp k j ≡ Equal = ap (λ x. cmp x j) (sym a.0) ∙ tied_itself order j in cc
      go k m s (inr a) (inr b) = l.2 m (subst (λ x. shown (x, m)) (sym a.0) s) a.1 b.1

  -- a key isn't before the next one
  not_before : (k j : K) → (cmp j k ≡ Less → ⊥) → (cmp k j ≡ Less) ⊎ (k ≡ j)
  not_before k j off = go (cmp k j) refl
    where
      go : (o : Ordering) → cmp k j ≡ o → (cmp k j ≡ Less) ⊎ (k ≡ j)
      go Less e = inl e
      go Equal e = inr (exact k j e)
      go Greater e = absurd (off (order.antisymm j k ∙ ap ordering_reverse e))

  -- none is left there, and the walk goes on at the next row
  pub at_next : (j k : K) (q : Option ℕ) (res : Option (K × ℕ)) → IsLeast nat_cmp (λ m. shown (j, m)) (IsAboveName nat_cmp q) None → IsLeast cmp held (IsAboveName cmp (Some j)) (Some k) → IsLeast name_cmp shown (IsAboveApplication cmp (Some (k, None))) res → IsLeast name_cmp shown (IsAboveApplication cmp (Some (j, q))) res
  at_next j k q res none next l = least-same name_cmp shown (IsAboveApplication cmp (Some (j, q))) (IsAboveApplication cmp (Some (k, None))) (λ x s up. to x.0 x.1 s up) (λ x s up. from x.0 x.1 up) res l
    where
      to : (h : K) (m : ℕ) → shown (h, m) → (cmp j h ≡ Less) ⊎ ((j ≡ h) × IsAboveName nat_cmp q m) → (cmp k h ≡ Less) ⊎ ((k ≡ h) × ⊤)
      to h m s (inl a) = elim (not_before k h (next.2 h (within (h, m) s) a)) [ inl b ↦ inl b | inr b ↦ inr (b, tt) ]
      to h m s (inr a) = absurd (none m (subst (λ x. shown (x, m)) (sym a.0) s) a.1)

      from : (h : K) (m : ℕ) → (cmp k h ≡ Less) ⊎ ((k ≡ h) × ⊤) → (cmp j h ≡ Less) ⊎ ((j ≡ h) × IsAboveName nat_cmp q m)
      from h m (inl a) = inl (order.trans j k h next.1 a)
      from h m (inr a) = inl (subst (λ x. cmp j x ≡ Less) a.0 next.1)

  -- or no row is left
  pub at_end : (j : K) (q : Option ℕ) → IsLeast nat_cmp (λ m. shown (j, m)) (IsAboveName nat_cmp q) None → IsLeast cmp held (IsAboveName cmp (Some j)) None → IsLeast name_cmp shown (IsAboveApplication cmp (Some (j, q))) None
  at_end j q none end = λ x s up. go x.0 x.1 s up
    where
      go : (h : K) (m : ℕ) → shown (h, m) → (cmp j h ≡ Less) ⊎ ((j ≡ h) × IsAboveName nat_cmp q m) → ⊥
      go h m s (inl a) = end h (within (h, m) s) a
      go h m s (inr a) = none m (subst (λ x. shown (x, m)) (sym a.0) s) a.1

  -- at the start it is at the first row
  pub at_first_row : (k : K) (res : Option (K × ℕ)) → IsLeast cmp held (λ j. ⊤) (Some k) → IsLeast name_cmp shown (IsAboveApplication cmp (Some (k, None))) res → IsLeast name_cmp shown (IsAboveApplication cmp None) res
  at_first_row k res next l = least-same name_cmp shown (IsAboveApplication cmp None) (IsAboveApplication cmp (Some (k, None))) (λ x s up. elim (not_before k x.0 (next.2 x.0 (within x s) tt)) [ inl b ↦ inl b | inr b ↦ inr (b, tt) ]) (λ x s up. tt) res l

  pub at_no_row : IsLeast cmp held (λ j. ⊤) None → IsLeast name_cmp shown (IsAboveApplication cmp None) None
  at_no_row none = λ x s up. none x.0 (within x s) tt
