-- Rows that are sound are so after a reference, and each shows something.
use Rattle.std.proofs.Common.{◌≡◌, ℕ, zero, suc, Bool, true, false, ◌||◌, nat_lt, List, [], ◌∷◌, ◌++◌, length, Contains, is_some, Option, Some, None, refl, sym, ap, ◌∙◌, arith, inl, inr}
use Rattle.std.proofs.lemmas.Bool.{cases_Bool, true≢false}
use Rattle.std.proofs.lemmas.List.Elements.{All-contains, All-from_recursion}
use Rattle.rm_evicting.specs.Held.{IsExact}
use Rattle.rm_evicting.specs.declared.Row.{Row}
use Rattle.rm_evicting.specs.Row.{at_first, without_first, holds, is_oldest, room_made, touched, credited}
use Rattle.rm_evicting.proofs.Recency.{back}
use Rattle.rm_evicting.proofs.RowLemmas.{each_other}
use Rattle.rm_rows.specs.Table.{row_of}
use Rattle.rm_upper.specs.declared.counts.Counted.{Counted}
use Rattle.rm_upper.specs.declared.slots.Slot.{Slot}
use Rattle.rm_upper.specs.Cells.{counted_by, network_in}
use Rattle.rm_upper.specs.Kept.{NetworkRow}
use Rattle.rm_upper.specs.Shown.{blank_row, created_by, gained_value}
use Rattle.rm_upper.specs.Sound.{AreSound}
use Rattle.rm_upper.specs.Tally.{Tally}

had_one : (tick : ℕ) (first : Option ℕ) → is_some (created_by tick first) ≡ true
had_one tick None = refl
had_one tick (Some created) = refl

module _ {K V : Type 0} (eq : K → K → Bool) where
  -- a change of rows that keeps their keys
  holds-at_first : (k : K) (p : Row K V → Bool) (f : Row K V → Row K V) → ((row : Row K V) → (f row).key ≡ row.key) → (rows : List (Row K V)) → holds eq k (at_first p f rows) ≡ holds eq k rows
  holds-at_first k p f same [] = refl
  holds-at_first k p f same (row ∷ rows) = elim (cases_Bool (p row)) [
    | inl e ↦ rw e (ap (λ j. eq k j || holds eq k rows) (same row))
    | inr e ↦ rw e (ap (λ b. eq k row.key || b) (holds-at_first k p f same rows))
  ]

  holds-without : (k : K) (p : Row K V → Bool) (rows : List (Row K V)) → holds eq k rows ≡ false → holds eq k (without_first p rows) ≡ false
  holds-without k p [] e = refl
  holds-without k p (row ∷ rows) e = elim (cases_Bool (eq k row.key)) [
    | inl y ↦ absurd (true≢false (rw y at e))
    | inr y ↦ elim (cases_Bool (p row)) [
      | inl t ↦ rw t (rw y at e)
      | inr t ↦ rw (t, y) (holds-without k p rows (rw y at e))
    ]
  ]

  holds-push : (k : K) (rows : List (Row K V)) (row : Row K V) → holds eq k rows ≡ false → eq k row.key ≡ false → holds eq k (rows ++ row ∷ []) ≡ false
  holds-push k [] row e f = rw f refl
  holds-push k (x ∷ rows) row e f = elim (cases_Bool (eq k x.key)) [
    | inl y ↦ absurd (true≢false (rw y at e))
    | inr y ↦ rw y (holds-push k rows row (rw y at e) f)
  ]

  -- where the last row alone has a key, it gains
  credited-last : {C : Type 0} (add : V → C → V) (k : K) (c : C) (rows : List (Row K V)) (row : Row K V) → holds eq k rows ≡ false → eq k row.key ≡ true
      → credited eq add k c (rows ++ row ∷ []) ≡ rows ++ record row { value = add row.value c } ∷ []
  credited-last add k c [] row e f = rw f refl
  credited-last add k c (x ∷ rows) row e f = elim (cases_Bool (eq k x.key)) [
    | inl y ↦ absurd (true≢false (rw y at e))
    | inr y ↦ rw y (ap (λ l. x ∷ l) (credited-last add k c rows row (rw y at e) f))
  ]

module _ {K N A : Type 0} (eq : K → K → Bool) (exact : IsExact eq) where
  sound-at_first : (p : Row K (NetworkRow N A) → Bool) (f : Row K (NetworkRow N A) → Row K (NetworkRow N A)) → ((row : Row K (NetworkRow N A)) → (f row).key ≡ row.key)
      → ((row : Row K (NetworkRow N A)) → is_some row.value.created ≡ true → is_some (f row).value.created ≡ true) → (rows : List (Row K (NetworkRow N A))) → AreSound eq rows → AreSound eq (at_first p f rows)
  sound-at_first p f same has [] s = tt
  sound-at_first p f same has (row ∷ rows) s = elim (cases_Bool (p row)) [
    | inl e ↦ rw e (has row s.0, ap (λ k. holds eq k rows) (same row) ∙ s.1, s.2)
    | inr e ↦ rw e (s.0, holds-at_first eq row.key p f same rows ∙ s.1, sound-at_first p f same has rows s.2)
  ]

  sound-without : (p : Row K (NetworkRow N A) → Bool) (rows : List (Row K (NetworkRow N A))) → AreSound eq rows → AreSound eq (without_first p rows)
  sound-without p [] s = tt
  sound-without p (row ∷ rows) s = elim (cases_Bool (p row)) [
    | inl e ↦ rw e s.2
    | inr e ↦ rw e (s.0, holds-without eq row.key p rows s.1, sound-without p rows s.2)
  ]

  sound-push : (rows : List (Row K (NetworkRow N A))) (row : Row K (NetworkRow N A)) → AreSound eq rows → is_some row.value.created ≡ true → holds eq row.key rows ≡ false → AreSound eq (rows ++ row ∷ [])
  sound-push [] row s has new = (has, refl, tt)
  sound-push (x ∷ rows) row s has new = elim (cases_Bool (eq row.key x.key)) [
    | inl y ↦ absurd (true≢false (rw y at new))
    | inr y ↦ (s.0, holds-push eq x.key rows row s.1 (back eq exact row.key x.key y), sound-push rows row s.2 has (rw y at new))
  ]

  room : (cap : ℕ) (rows : List (Row K (NetworkRow N A))) → AreSound eq rows → AreSound eq (room_made cap rows)
  room cap rows s = elim (cases_Bool (nat_lt (length rows) cap)) [ inl e ↦ rw e s | inr e ↦ rw e (sound-without (is_oldest rows) rows s) ]

  room_new : (k : K) (cap : ℕ) (rows : List (Row K (NetworkRow N A))) → holds eq k rows ≡ false → holds eq k (room_made cap rows) ≡ false
  room_new k cap rows n = elim (cases_Bool (nat_lt (length rows) cap)) [ inl e ↦ rw e n | inr e ↦ rw e (holds-without eq k (is_oldest rows) rows n) ]

  -- a reference gives its row a contribution
  pub sound-referred : (tally : Tally N A) (slots : List (Option Slot)) (path : List ℕ) (cap : ℕ) (k : K) (stamp tick : ℕ) (gain : N) (rows : List (Row K (NetworkRow N A))) → AreSound eq rows
      → AreSound eq (credited eq (gained_value tally slots path stamp tick) k gain (touched eq (blank_row tally.blank) cap k stamp tick rows))
  sound-referred tally slots path cap k stamp tick gain rows s = elim (cases_Bool (holds eq k rows)) [
    | inl e ↦ rw e (sound-at_first (λ row. eq k row.key) (λ row. record row { value = gained_value tally slots path stamp tick row.value gain }) (λ row. refl) (λ row has. had_one tick row.value.created) _
        (sound-at_first (λ row. eq k row.key) (λ row. record row { last = stamp; tick = tick }) (λ row. refl) (λ row has. has) rows s))
    | inr e ↦ rw e
        (rw (credited-last eq (gained_value tally slots path stamp tick) k gain (room_made cap rows) (record { key = k; value = blank_row tally.blank; entry = stamp; last = stamp; tick = tick }) (room_new k cap rows e) (exact.itself k))
        (sound-push (room_made cap rows) (record { key = k; value = gained_value tally slots path stamp tick (blank_row tally.blank) gain; entry = stamp; last = stamp; tick = tick }) (room cap rows s) refl (room_new k cap rows e)))
  ]

  -- each row is that of its key
  pub own_row : (rows : List (Row K (NetworkRow N A))) (row : Row K (NetworkRow N A)) → AreSound eq rows → Contains rows row → row_of eq row.key rows ≡ Some row
  own_row [] row s c = absurd (omega (arith, c.1))
  own_row (x ∷ rows) row s (zero, lt, at) =
      let same : x ≡ row = at in
      let itself : eq row.key x.key ≡ true = ap (λ (y : Row K (NetworkRow N A)). eq row.key y.key) same ∙ exact.itself row.key in
      rw itself (ap (λ y. Some y) same)
  own_row (x ∷ rows) row s (suc i, lt, at) =
      let inner : Contains rows row = (i, omega arith, at) in
      let other : eq x.key row.key ≡ false = All-contains (λ y. eq x.key y.key ≡ false) rows row (All-from_recursion (λ y. eq x.key y.key ≡ false) rows (each_other eq exact x.key rows s.1)) inner in
      rw (back eq exact x.key row.key other) (own_row rows row s.2 inner)

  has_had : (k : K) (rows : List (Row K (NetworkRow N A))) (row : Row K (NetworkRow N A)) → AreSound eq rows → row_of eq k rows ≡ Some row → is_some row.value.created ≡ true
  has_had k [] row s e = cc
  has_had k (x ∷ rows) row s e = elim (cases_Bool (eq k x.key)) [
    | inl y ↦ let is : Some x ≡ Some row = rw y at e in let same : x ≡ row = cc in ap (λ (z : Row K (NetworkRow N A)). is_some z.value.created) (sym same) ∙ s.0
    | inr y ↦ has_had k rows row s.2 (rw y at e)
  ]

  -- what is there shows something, with the tick of its row
  pub shows_something : (k : K) (rows : List (Row K (NetworkRow N A))) (row : Row K (NetworkRow N A)) → AreSound eq rows → row_of eq k rows ≡ Some row
      → (counted : Counted N) × (network_in (row_of eq k rows) ≡ Some counted) × (counted.tick ≡ row.tick)
  shows_something k rows row s e = rw e (by_created row.value.created (has_had k rows row s e))
    where
      by_created : (created : Option ℕ) → is_some created ≡ true → (counted : Counted N) × (counted_by row.tick created row.value.sums ≡ Some counted) × (counted.tick ≡ row.tick)
      by_created None none = absurd (true≢false (sym none))
      by_created (Some tick) has = (record { created = tick; tick = row.tick; sums = row.value.sums }, refl, refl)
