-- The next instances by the events.
use Rattle.std.proofs.Common.{◌≡◌, ℕ, ◌<◌, ◌≤◌, ◌⊎◌, ◌||◌, zero, suc, length, Bool, true, List, [], ◌∷◌, Contains, Option, Some, None, refl, sym, ap, ◌∙◌, arith, subst, inl, inr}
use Rattle.std.specs.declared.cmp.Ordering.{Ordering}
use Rattle.std.specs.declared.cmp.Ordering.TheVariants.{Less, Equal, Greater}
use Rattle.std.specs.Ordering.{ordering_then, nat_cmp, MatchOrdering}
use Rattle.std.specs.Cmp.{ranked}
use Rattle.std.proofs.lemmas.Bool.{cases_Bool}
use Rattle.std.proofs.lemmas.List.Elements.{All-contains, All-from_recursion}
use Rattle.rm_evicting.specs.Held.{IsExact, last_tick}
use Rattle.rm_evicting.specs.declared.Row.{Row}
use Rattle.rm_evicting.specs.Row.{holds}
use Rattle.rm_rows.specs.Table.{row_of, IsAbove, IsPairAbove, IsNextMark}
use Rattle.rm_layers.specs.Event.{Event, span}
use Rattle.rm_layers.specs.Marks.{IsInstance, IsAboveAt, IsNextInstance, IsAboveName, NetworkLasts, ApplicationLasts, pair_cmp}
use Rattle.rm_layers.specs.Upper.{AreTuned}
use Rattle.rm_upper.specs.Kept.{NetworkRow}
use Rattle.rm_upper.specs.Tally.{Tally}
use Rattle.rm_upper.specs.Shown.{protocols}
use Rattle.rm_upper.specs.Standing.{Layered, StandsFor}
use Rattle.rm_upper.specs.Sound.{AreSound}
use Rattle.rm_upper.specs.Walk.{ShowsApplication, ShowsNetwork}
use Rattle.rm_upper.proofs.SoundLemmas.{own_row}
use Rattle.rm_upper.proofs.WalkLemmas.{least-shown}
use Rattle.rm_upper.proofs.Lasts.{application-lasts, lasts-application, Is, each, is_held_here, found, there}

module _ {X : Type 0} (cmp : X → X → Ordering) (lasts other : X → ℕ → Type 0) (to : (x : X) (u : ℕ) → lasts x u → other x u) (back : (x : X) (u : ℕ) → other x u → lasts x u) where
  -- the same ticks have the same instances
  pub instance-same : (mark : ℕ) (above : X → Type 0) (res : Option (ℕ × X)) → IsNextInstance cmp lasts mark above res → IsNextInstance cmp other mark above res
  instance-same mark above res l = least-shown (pair_cmp nat_cmp cmp) (IsInstance lasts) (IsInstance other) (IsAboveAt mark above) (λ i s. (s.0, to i.1 s.0 s.1, s.2)) (λ i s. (s.0, back i.1 s.0 s.1, s.2)) res l

pub application_instance : {K N A : Type 0} (tally : Tally N A) (eq : K → K → Bool) (exact : IsExact eq) (cmp : K → K → Ordering) (layered : Layered K N A) (r : List (Event K N)) → AreTuned (protocols layered.slots) r → StandsFor tally eq r layered → (mark : ℕ) (above : K × ℕ → Type 0) (res : Option (ℕ × (K × ℕ))) → IsNextInstance (pair_cmp cmp nat_cmp) (ShowsApplication eq layered) mark above res → IsNextInstance (pair_cmp cmp nat_cmp) (ApplicationLasts eq layered.table.capacity r) mark above res
application_instance tally eq exact cmp layered r tuned stands mark above res l = instance-same (pair_cmp cmp nat_cmp) (ShowsApplication eq layered) (ApplicationLasts eq layered.table.capacity r) (λ x u s. application-lasts eq exact tally layered r tuned stands x u s) (λ x u s. lasts-application eq exact tally layered r tuned stands x u s) mark above res l

then_less : (a b : Ordering) → ordering_then a b ≡ Less → (a ≡ Less) ⊎ ((a ≡ Equal) × (b ≡ Less))
then_less Less b e = inl refl
then_less Equal b e = inr (refl, e)
then_less Greater b e = cc

module _ {K : Type 0} (cmp : K → K → Ordering) where
  above_name : (from : Option K) (k : K) → IsAbove cmp from k → IsAboveName cmp from k
  above_name None k a = tt
  above_name (Some j) k a = a

  name_above : (from : Option K) (k : K) → IsAboveName cmp from k → IsAbove cmp from k
  name_above None k a = tt
  name_above (Some j) k a = a

  pair_above : (mark : ℕ) (from : Option K) (m : ℕ) (k : K) → IsAboveAt mark (IsAboveName cmp from) (m, k) → IsPairAbove cmp mark from m k
  pair_above mark from m k (inl lt) = inl lt
  pair_above mark from m k (inr a) = inr (a.0, name_above from k a.1)

  above_pair : (mark : ℕ) (from : Option K) (m : ℕ) (k : K) → IsPairAbove cmp mark from m k → IsAboveAt mark (IsAboveName cmp from) (m, k)
  above_pair mark from m k (inl lt) = inl lt
  above_pair mark from m k (inr a) = inr (a.0, above_name from k a.1)

  before_pair : (m : ℕ) (k : K) (n : ℕ) (j : K) → ordering_then (nat_cmp m n) (cmp k j) ≡ Less → IsPairAbove cmp m (Some k) n j
  before_pair m k n j e = elim (then_less (nat_cmp m n) (cmp k j) e) [
    | inl a ↦ inl (subst (λ o. MatchOrdering o (m < n) (m ≡ n) (n < m)) a (ranked m n (nat_cmp m n) refl))
    | inr b ↦ inr (subst (λ o. MatchOrdering o (m < n) (m ≡ n) (n < m)) b.0 (ranked m n (nat_cmp m n) refl), b.1)
  ]

module _ {K V : Type 0} (cmp : K → K → Ordering) where
  module _ (lasts : K → ℕ → Type 0) (rows : List (Row K V)) (of_row : (row : Row K V) → Contains rows row → lasts row.key row.tick) (row_for : (k : K) (u : ℕ) → lasts k u → (row : Row K V) × Contains rows row × (row.key ≡ k) × (u ≡ row.tick)) where
    -- the next pair of a mark and a key is the next instance
    pub mark_instance : (mark : ℕ) (from : Option K) (res : Option (ℕ × K)) → IsNextMark cmp rows mark from res → IsNextInstance cmp lasts mark (IsAboveName cmp from) res
    mark_instance mark from None next = λ i s up.
        let t = row_for i.1 s.0 s.1 in
        let at : s.0 ≡ t.0.tick = t.3 in
        let le : i.0 ≤ s.0 = s.2 in
        let none = All-contains (λ row. (m : ℕ) → m ≤ row.tick → IsPairAbove cmp mark from m row.key → ⊥) rows t.0 next t.1 in
        none i.0 (omega arith) (subst (λ k. IsPairAbove cmp mark from i.0 k) (sym t.2) (pair_above cmp mark from i.0 i.1 up))
    mark_instance mark from (Some p) next =
        let row = next.0.0 in (
          (row.tick, subst (λ k. lasts k row.tick) next.0.2 (of_row row next.0.1), next.0.3),
          above_pair cmp mark from p.0 p.1 next.1,
          λ i s up less.
              let t = row_for i.1 s.0 s.1 in
              let at : s.0 ≡ t.0.tick = t.3 in
              let le : i.0 ≤ s.0 = s.2 in
              let least = All-contains (λ row. (m : ℕ) → m ≤ row.tick → IsPairAbove cmp mark from m row.key → IsPairAbove cmp m (Some row.key) p.0 p.1 → ⊥) rows t.0 next.2 t.1 in
              least i.0 (omega arith) (subst (λ k. IsPairAbove cmp mark from i.0 k) (sym t.2) (pair_above cmp mark from i.0 i.1 up)) (subst (λ k. IsPairAbove cmp i.0 (Some k) p.0 p.1) (sym t.2) (before_pair cmp i.0 i.1 p.0 p.1 less)),
        )

module _ {K : Type 0} (eq : K → K → Bool) (exact : IsExact eq) where
  held_itself : {V : Type 0} (rows : List (Row K V)) (row : Row K V) → Contains rows row → holds eq row.key rows ≡ true
  held_itself [] row c = absurd (omega (arith, c.1))
  held_itself (x ∷ rows) row (zero, lt, at) = let same : x ≡ row = at in ap (λ (z : Row _ _). eq row.key z.key || holds eq row.key rows) same ∙ ap (λ b. b || holds eq row.key rows) (exact.itself row.key)
  held_itself (x ∷ rows) row (suc i, lt, at) = elim (cases_Bool (eq row.key x.key)) [ inl e ↦ rw e refl | inr e ↦ rw e (held_itself rows row (i, omega arith, at)) ]

  contained : {V : Type 0} (k : K) (rows : List (Row K V)) (row : Row K V) → row_of eq k rows ≡ Some row → Contains rows row
  contained k [] row e = cc
  contained k (x ∷ rows) row e = elim (cases_Bool (eq k x.key)) [
    | inl y ↦ let is : Some x ≡ Some row = rw y at e in (0, omega arith, cc)
    | inr y ↦ let more = contained k rows row (rw y at e) in (suc more.0, (let lt : more.0 < length rows = more.1 in omega arith), more.2)
  ]

  keyed : {V : Type 0} (k : K) (rows : List (Row K V)) (row : Row K V) → row_of eq k rows ≡ Some row → row.key ≡ k
  keyed k [] row e = cc
  keyed k (x ∷ rows) row e = elim (cases_Bool (eq k x.key)) [
    | inl y ↦ let is : Some x ≡ Some row = rw y at e in let same : x ≡ row = cc in ap (λ (z : Row _ _). z.key) (sym same) ∙ sym (exact.same k x.key y)
    | inr y ↦ keyed k rows row (rw y at e)
  ]

  pub network_shown : {N A : Type 0} (layered : Layered K N A) → AreSound eq layered.table.rows → (cmp : K → K → Ordering) (mark : ℕ) (from : Option K) (res : Option (ℕ × K)) → IsNextMark cmp layered.table.rows mark from res → IsNextInstance cmp (ShowsNetwork eq layered) mark (IsAboveName cmp from) res
  network_shown layered sound cmp mark from res next =
      mark_instance cmp (ShowsNetwork eq layered) layered.table.rows (λ row c. (row, own_row eq exact layered.table.rows row sound c, refl))
      (λ k u s. (s.0, contained k layered.table.rows s.0 s.1, keyed k layered.table.rows s.0 s.1, s.2)) mark from res next

  module _ {N A : Type 0} (tally : Tally N A) (layered : Layered K N A) (r : List (Event K N)) (tuned : AreTuned (protocols layered.slots) r) (stands : StandsFor tally eq r layered) where
    of_key : (row : Row K (NetworkRow N A)) → Contains layered.table.rows row → NetworkLasts eq layered.table.capacity r row.key row.tick
    of_key row c =
        let is = All-contains (Is eq exact tally layered r tuned stands) layered.table.rows row (All-from_recursion (Is eq exact tally layered r tuned stands) layered.table.rows (each eq exact tally layered r tuned stands)) c in
        (sym (is_held_here eq exact tally layered r tuned stands row.key) ∙ held_itself layered.table.rows row c, is.tick)

    key_for : (k : K) (u : ℕ) → NetworkLasts eq layered.table.capacity r k u → (row : Row K (NetworkRow N A)) × Contains layered.table.rows row × (row.key ≡ k) × (u ≡ row.tick)
    key_for k u l =
        let h : holds eq k layered.table.rows ≡ true = is_held_here eq exact tally layered r tuned stands k ∙ l.0 in
        let t = there eq exact k layered.table.rows h in
        let f = found eq exact (Is eq exact tally layered r tuned stands) k layered.table.rows t.0 (each eq exact tally layered r tuned stands) t.1 in
        (t.0, contained k layered.table.rows t.0 t.1, f.1, l.1 ∙ ap (λ j. last_tick eq j (span r)) (sym f.1) ∙ sym (f.0).tick)

    pub network_instance : (cmp : K → K → Ordering) (mark : ℕ) (from : Option K) (res : Option (ℕ × K)) → IsNextMark cmp layered.table.rows mark from res → IsNextInstance cmp (NetworkLasts eq layered.table.capacity r) mark (IsAboveName cmp from) res
    network_instance cmp mark from res next = mark_instance cmp (NetworkLasts eq layered.table.capacity r) layered.table.rows of_key key_for mark from res next
