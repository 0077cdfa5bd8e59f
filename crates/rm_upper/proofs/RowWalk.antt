-- The walk over the rows of keys.
use Rattle.std.proofs.Common.{◌≡◌, ℕ, ◌<◌, ◌≤◌, ◌+◌, zero, suc, Bool, true, false, cond, List, [], ◌∷◌, length, nat_le, Contains, Option, Some, None, refl, sym, ap, ◌∙◌, arith, subst, inl, inr}
use Rattle.std.specs.Prelude.{⊤}
use Rattle.std.specs.List.{count_by}
use Rattle.std.specs.Option.{option_map}
use Rattle.std.specs.declared.cmp.Ordering.{Ordering}
use Rattle.std.specs.declared.cmp.Ordering.TheVariants.{Less, Equal, Greater}
use Rattle.std.specs.Ordering.{nat_cmp, is_lt, ordering_reverse}
use Rattle.std.specs.Cmp.{IsTotalOrder}
use Rattle.std.proofs.lemmas.Bool.{cases_Bool, true≢false, le-leb, leb-true}
use Rattle.std.proofs.lemmas.Cmp.{tied_itself}
use Rattle.std.proofs.lemmas.List.Elements.{All-contains}
use Rattle.std.proofs.lemmas.List.Sums.{sum_by-cons, count_by-le-length}
use Rattle.rm_evicting.specs.Held.{IsExact}
use Rattle.rm_evicting.specs.declared.Row.{Row}
use Rattle.rm_rows.specs.Table.{row_of, keys_of, tick_of, IsNextKey}
use Rattle.rm_layers.specs.Marks.{IsLeast, StandsAt, IsAboveName, IsAboveApplication, pair_cmp}
use Rattle.rm_layers.proofs.MarkLemmas.{in_row, at_next, at_end, at_first_row, at_no_row}
use Rattle.rm_upper.specs.declared.slots.KeptApplication.{KeptApplication}
use Rattle.rm_upper.specs.Kept.{NetworkRow}
use Rattle.rm_upper.specs.Shown.{applications_of}
use Rattle.rm_upper.specs.Standing.{Layered}
use Rattle.rm_upper.specs.Walk.{IsShown, IsMarked, ShowsApplication, ShowsNetwork}
use Rattle.rm_upper.proofs.WalkLemmas.{least-shown}

-- what passes one test passes another
module _ {X : Type 0} (test other : X → Bool) (within : (x : X) → test x ≡ true → other x ≡ true) where
  step : (passes : X → Bool) (x : X) (xs : List X) → count_by passes (x ∷ xs) ≡ cond (passes x) 1 0 + count_by passes xs
  step passes x xs = sum_by-cons (λ y. cond (passes y) 1 0) x xs

  one : (x : X) → cond (test x) 1 0 ≤ cond (other x) 1 0
  one x = elim (cases_Bool (test x)) [ inl on ↦ rw (on, within x on) (omega arith) | inr off ↦ rw off (omega arith) ]

  no_more : (xs : List X) → count_by test xs ≤ count_by other xs
  no_more [] = omega arith
  no_more (x ∷ xs) = let a = step test x xs in let b = step other x xs in let least = one x in let rest = no_more xs in omega arith

  -- fewer pass where one of them fails it that passes the other
  fewer : (x : X) → test x ≡ false → other x ≡ true → (xs : List X) → Contains xs x → count_by test xs < count_by other xs
  fewer x off on [] c = absurd (omega (arith, c.1))
  fewer x off on (y ∷ xs) (zero, lt, at) =
      let rest = no_more xs in
      let a = step test y xs ∙ ap (λ b. cond b 1 0 + count_by test xs) (ap test at ∙ off) in
      let b = step other y xs ∙ ap (λ b. cond b 1 0 + count_by other xs) (ap other at ∙ on) in
      omega arith
  fewer x off on (y ∷ xs) (suc i, lt, at) = let a = step test y xs in let b = step other y xs in let least = one y in let rest = fewer x off on xs (i, omega arith, at) in omega arith

module _ {K : Type 0} (cmp : K → K → Ordering) where
  pub next_is_least : (ks : List K) (from res : Option K) → IsNextKey cmp ks from res → IsLeast cmp (Contains ks) (IsAboveName cmp from) res
  next_is_least ks None None next = λ x c a. All-contains (λ k. ⊤ → ⊥) ks x next c tt
  next_is_least ks (Some j) None next = λ x c a. All-contains (λ k. cmp j k ≡ Less → ⊥) ks x next c a
  next_is_least ks None (Some k) next = (next.0, tt, λ y c a l. All-contains (λ j. ⊤ → cmp j k ≡ Less → ⊥) ks y next.2 c tt l)
  next_is_least ks (Some j) (Some k) next = (next.0, next.1, λ y c a l. All-contains (λ i. cmp j i ≡ Less → cmp i k ≡ Less → ⊥) ks y next.2 c a l)

  less_lt : (j k : K) → cmp j k ≡ Less → is_lt (cmp j k) ≡ true
  less_lt j k e = ap is_lt e

  module _ (order : IsTotalOrder cmp) where
    not_itself : (k : K) → is_lt (cmp k k) ≡ false
    not_itself k = ap is_lt (tied_itself order k)

    lt_less : (o : Ordering) → is_lt o ≡ true → o ≡ Less
    lt_less Less e = refl
    lt_less Equal e = absurd (true≢false (sym e))
    lt_less Greater e = absurd (true≢false (sym e))

    over : (j k : K) → cmp j k ≡ Less → (x : K) → is_lt (cmp k x) ≡ true → is_lt (cmp j x) ≡ true
    over j k e x i = less_lt j x (order.trans j k x e (lt_less (cmp k x) i))

-- how many keys are left above one, or above none
abbrev pub left_above : {K : Type 0} → (K → K → Ordering) → Option K → List K → ℕ
left_above cmp None ks = length ks
left_above cmp (Some k) ks = count_by (λ x. is_lt (cmp k x)) ks

module _ {K : Type 0} (cmp : K → K → Ordering) (order : IsTotalOrder cmp) where
  -- fewer keys are left above the next one
  pub fewer_left : (j k : K) → cmp j k ≡ Less → (ks : List K) → Contains ks k → left_above cmp (Some k) ks < left_above cmp (Some j) ks
  fewer_left j k e ks c = fewer (λ x. is_lt (cmp k x)) (λ x. is_lt (cmp j x)) (over cmp order j k e) k (not_itself cmp order k) (less_lt cmp j k e) ks c

  fewer_than_all : (k : K) (ks : List K) → Contains ks k → count_by (λ x. is_lt (cmp k x)) ks < length ks
  fewer_than_all k ks c =
      let less : count_by (λ x. is_lt (cmp k x)) ks < count_by (λ (x : K). true) ks = fewer (λ x. is_lt (cmp k x)) (λ x. true) (λ x on. refl) k (not_itself cmp order k) refl ks c in
      let all : count_by (λ (x : K). true) ks ≤ length ks = count_by-le-length (λ x. true) ks in
      omega arith

  pub fewer_above : (from : Option K) (k : K) (ks : List K) → IsNextKey cmp ks from (Some k) → left_above cmp (Some k) ks < left_above cmp from ks
  fewer_above None k ks next = fewer_than_all k ks next.0
  fewer_above (Some j) k ks next = fewer_left j k next.1 ks next.0

  module _ (exact : (a b : K) → cmp a b ≡ Equal → a ≡ b) (shown : K → Type 0) (ks : List K) (within : (x : K) → shown x → Contains ks x) where
    -- the next key, where it is shown
    pub name_here : (from : Option K) (k : K) → IsNextKey cmp ks from (Some k) → shown k → IsLeast cmp shown (IsAboveName cmp from) (Some k)
    name_here from k next s = let least = next_is_least cmp ks from (Some k) next in (s, least.1, λ y t a l. least.2 y (within y t) a l)

    -- none is shown above where no key is
    pub name_ends : (from : Option K) → IsNextKey cmp ks from None → IsLeast cmp shown (IsAboveName cmp from) None
    name_ends from next = let none = next_is_least cmp ks from None next in λ x s a. none x (within x s) a

    above_first : (from : Option K) (k y : K) → IsAboveName cmp from k → cmp k y ≡ Less → IsAboveName cmp from y
    above_first None k y a l = tt
    above_first (Some j) k y a l = order.trans j k y a l

    -- one that is shown above stands above the next key, where that isn't shown
    over_next : (from : Option K) (k : K) → IsNextKey cmp ks from (Some k) → (shown k → ⊥) → (y : K) → shown y → IsAboveName cmp from y → cmp k y ≡ Less
    over_next from k next off y s a = by_order (cmp k y) refl
      where
        by_order : (o : Ordering) → cmp k y ≡ o → cmp k y ≡ Less
        by_order Less e = e
        by_order Equal e = absurd (off (subst shown (sym (exact k y e)) s))
        by_order Greater e = absurd ((next_is_least cmp ks from (Some k) next).2 y (within y s) a (order.antisymm y k ∙ ap ordering_reverse e))

    -- the next key isn't shown: what comes above it comes
    pub name_next : (from : Option K) (k : K) → IsNextKey cmp ks from (Some k) → (shown k → ⊥) → (res : Option K) → IsLeast cmp shown (IsAboveName cmp (Some k)) res → IsLeast cmp shown (IsAboveName cmp from) res
    name_next from k next off None l = λ x s a. l x s (over_next from k next off x s a)
    name_next from k next off (Some x) l =
        (l.0, above_first from k x (next_is_least cmp ks from (Some k) next).1 l.1, λ y s a less. l.2 y s (over_next from k next off y s a) less)

module _ {K N A : Type 0} (eq : K → K → Bool) (layered : Layered K N A) (mark : ℕ) where
  row_by_tick : (o : Option (Row K (NetworkRow N A))) (tick : ℕ) → option_map tick_of o ≡ Some tick → (row : Row K (NetworkRow N A)) × (o ≡ Some row) × (tick ≡ row.tick)
  row_by_tick None tick e = cc
  row_by_tick (Some row) tick e = (row, refl, cc)

  -- the row of a key stands at a mark that isn't above the tick of its last contribution
  pub stands_by : (k : K) (tick : ℕ) → option_map tick_of (row_of eq k layered.table.rows) ≡ Some tick → (nat_le mark tick ≡ true → StandsAt (ShowsNetwork eq layered) mark k) × (StandsAt (ShowsNetwork eq layered) mark k → nat_le mark tick ≡ true)
  stands_by k tick e =
      let there = row_by_tick (row_of eq k layered.table.rows) tick e in
      ((λ le. (tick, there, leb-true mark tick le)), λ s. le-leb mark tick (let last = last_of s.1.0 s.1.1 in let at : s.0 ≡ s.1.0.tick = s.1.2 in let le : mark ≤ s.0 = s.2 in omega (arith, last, at, le)))
    where
      last_of : (row : Row K (NetworkRow N A)) → row_of eq k layered.table.rows ≡ Some row → row.tick ≡ tick
      last_of row f = let both : Some row.tick ≡ Some tick = sym (ap (option_map tick_of) f) ∙ e in cc

  row_there : (l : List (Option (KeptApplication A))) (o : Option (Row K (NetworkRow N A))) → option_map applications_of o ≡ Some l → (row : Row K (NetworkRow N A)) × (o ≡ Some row) × (row.value.applications ≡ l)
  row_there l None e = cc
  row_there l (Some row) e = (row, refl, cc)

  -- what a row's slots have is what is shown of its key
  pub in_is : (k : K) (l : List (Option (KeptApplication A))) → option_map applications_of (row_of eq k layered.table.rows) ≡ Some l → (from res : Option ℕ) → IsLeast nat_cmp (IsMarked mark layered.slots l) (IsAboveName nat_cmp from) res → IsLeast nat_cmp (λ p. StandsAt (ShowsApplication eq layered) mark (k, p)) (IsAboveName nat_cmp from) res
  in_is k l e from res least =
      let there = row_there l (row_of eq k layered.table.rows) e in
      least-shown nat_cmp (IsMarked mark layered.slots l) (λ p. StandsAt (ShowsApplication eq layered) mark (k, p)) (IsAboveName nat_cmp from)
      (λ p m. (m.0, (there.0, there.1, subst (λ x. IsShown layered.slots x p m.0) (sym there.2) m.1), m.2))
      (λ p s. back p s) res least
    where
      same_applications : (row : Row K (NetworkRow N A)) → row_of eq k layered.table.rows ≡ Some row → row.value.applications ≡ l
      same_applications row f = let both : Some row.value.applications ≡ Some l = sym (ap (option_map applications_of) f) ∙ e in cc

      back : (p : ℕ) → StandsAt (ShowsApplication eq layered) mark (k, p) → IsMarked mark layered.slots l p
      back p s = (s.0, subst (λ x. IsShown layered.slots x p s.0) (same_applications s.1.0 s.1.1) s.1.2, s.2)

  module _ (exact : IsExact eq) where
    found_in : (k : K) (rows : List (Row K (NetworkRow N A))) (row : Row K (NetworkRow N A)) → row_of eq k rows ≡ Some row → Contains (keys_of rows) k
    found_in k [] row e = cc
    found_in k (x ∷ rows) row e = elim (cases_Bool (eq k x.key)) [
      | inl y ↦ (0, omega arith, sym (exact.same k x.key y))
      | inr o ↦ let more = found_in k rows row (rw o at e) in (suc more.0, (let lt : more.0 < length (keys_of rows) = more.1 in omega arith), more.2)
    ]

    pub network_held : (k : K) → StandsAt (ShowsNetwork eq layered) mark k → Contains (keys_of layered.table.rows) k
    network_held k s = found_in k layered.table.rows s.1.0 s.1.1

    -- what is shown is shown of a key that is held
    pub shown_held : (x : K × ℕ) → StandsAt (ShowsApplication eq layered) mark x → Contains (keys_of layered.table.rows) x.0
    shown_held x s = found_in x.0 layered.table.rows s.1.0 s.1.1

module _ {K N A : Type 0} (eq : K → K → Bool) (same_key : IsExact eq) (cmp : K → K → Ordering) (order : IsTotalOrder cmp) (exact : (a b : K) → cmp a b ≡ Equal → a ≡ b) (layered : Layered K N A) (mark : ℕ) where
  abbrev pub Shown : K × ℕ → Type 0
  Shown x = StandsAt (ShowsApplication eq layered) mark x

  -- the least application row from there on
  abbrev pub Found : Option (K × Option ℕ) → Option (K × ℕ) → Type 0
  Found from res = IsLeast (pair_cmp cmp nat_cmp) Shown (IsAboveApplication cmp from) res

  abbrev pub FoundIn : K → Option ℕ → Option ℕ → Type 0
  FoundIn j q res = IsLeast nat_cmp (λ m. Shown (j, m)) (IsAboveName nat_cmp q) res

  abbrev keys : List K
  keys = keys_of layered.table.rows

  pub found_here : (j : K) (q : Option ℕ) (p : ℕ) → FoundIn j q (Some p) → Found (Some (j, q)) (Some (j, p))
  found_here j q p l = in_row cmp order exact (Contains keys) Shown (λ x s. shown_held eq layered mark same_key x s) j q p l

  pub goes_on : (j k : K) (q : Option ℕ) (res : Option (K × ℕ)) → FoundIn j q None → IsNextKey cmp keys (Some j) (Some k) → Found (Some (k, None)) res → Found (Some (j, q)) res
  goes_on j k q res none next l = at_next cmp order exact (Contains keys) Shown (λ x s. shown_held eq layered mark same_key x s) j k q res none (next_is_least cmp keys (Some j) (Some k) next) l

  pub ends : (j : K) (q : Option ℕ) → FoundIn j q None → IsNextKey cmp keys (Some j) None → Found (Some (j, q)) None
  ends j q none end = at_end cmp order exact (Contains keys) Shown (λ x s. shown_held eq layered mark same_key x s) j q none (next_is_least cmp keys (Some j) None end)

  pub starts : (k : K) (res : Option (K × ℕ)) → IsNextKey cmp keys None (Some k) → Found (Some (k, None)) res → Found None res
  starts k res next l = at_first_row cmp order exact (Contains keys) Shown (λ x s. shown_held eq layered mark same_key x s) k res (next_is_least cmp keys None (Some k) next) l

  pub is_empty : IsNextKey cmp keys None None → Found None None
  is_empty none = at_no_row cmp order exact (Contains keys) Shown (λ x s. shown_held eq layered mark same_key x s) (next_is_least cmp keys None None none)
