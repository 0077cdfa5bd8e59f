-- What a step of the kept rows does to the rows shown.
use Rattle.std.proofs.Common.{◌≡◌, ℕ, ◌+◌, ◌≤◌, zero, suc, Bool, true, false, cond, not, ◌||◌, List, [], ◌∷◌, ◌++◌, map, length, replicate, nat_eq, nat_le, nat_lt, Option, Some, None, refl, sym, ap, ◌∙◌, arith, inl, inr}
use Rattle.std.specs.List.{list_any, list_all}
use Rattle.std.specs.Option.{is_some}
use Rattle.std.proofs.lemmas.Bool.{cases_Bool, true≢false, le-leb}
use Rattle.std.proofs.lemmas.Bool.Decides.{nat_tests}
use Rattle.std.proofs.lemmas.List.{length-map}
use Rattle.rm_evicting.specs.declared.Row.{Row}
use Rattle.rm_evicting.specs.Row.{at_first, without_first, holds, is_oldest, room_made, renewed, touched, credited}
use Rattle.rm_layers.specs.Event.{Contribution}
use Rattle.rm_layers.specs.Network.{is_on_path}
use Rattle.rm_layers.specs.Applications.{Application, Value, is_in, has_slot, created_with, application_with, applications_with, made_by, no_applications, blank_value, gained}
use Rattle.rm_layers.specs.Upper.{applications_before, named}
use Rattle.rm_upper.specs.declared.slots.Slot.{Slot}
use Rattle.rm_upper.specs.declared.slots.KeptApplication.{KeptApplication}
use Rattle.rm_upper.specs.Kept.{NetworkRow}
use Rattle.rm_upper.specs.Tally.{Tally}
use Rattle.rm_upper.specs.Kept.{is_among, taken, is_made, all_with, all_made}
use Rattle.rm_upper.specs.Shown.{blank_row, created_by, gained_value, made_in, shown, shown_all, protocols, seen_value, row_as, AreSince, Agrees}

module _ {N A : Type 0} (tally : Tally N A) (stamp tick : ℕ) (gain : N) (c : Contribution N) (at : c.tick ≡ tick) (adds : c.gain ≡ gain) where
  shown-taken : (slot : Slot) (kept : Option (KeptApplication A)) → slot.since ≤ stamp → shown (Some slot) (Some (taken tally slot stamp tick gain kept)) ≡ Some (application_with tally.none tally.more (shown (Some slot) kept) c)
  shown-taken slot None le = rw (le-leb slot.since stamp le, at, adds) refl
  shown-taken slot (Some kept) le = elim (cases_Bool (nat_le slot.since kept.stamp)) [
    | inl e ↦ rw (e, e, at, adds) refl
    | inr e ↦ rw (e, le-leb slot.since stamp le, at, adds) refl
  ]

  free-made : (slot : Slot) (kept : Option (KeptApplication A)) → is_made slot kept ≡ not (is_some (shown (Some slot) kept))
  free-made slot None = refl
  free-made slot (Some kept) = elim (cases_Bool (nat_le slot.since kept.stamp)) [
    | inl e ↦ rw e (grind (arith, nat_tests, e))
    | inr e ↦ rw e (grind (arith, nat_tests, e))
  ]

created-seen : {G : Type 0} (c : Contribution G) (created : Option ℕ) → created_with created c ≡ created_by c.tick created
created-seen c None = refl
created-seen c (Some tick) = refl

or_right : (a b : Bool) → b ≡ true → (a || b) ≡ true
or_right true b e = refl
or_right false b e = e

agrees-first : {G : Type 0} (slot : Slot) (slots : List (Option Slot)) (path : List ℕ) (c : Contribution G) → Agrees (Some slot ∷ slots) path c → is_among path slot.protocol ≡ is_on_path slot.protocol c
agrees-first slot slots path c agrees = agrees slot.protocol (let e : nat_eq slot.protocol slot.protocol ≡ true = grind (arith, nat_tests) in rw e refl)

agrees-rest : {G : Type 0} (slot : Option Slot) (slots : List (Option Slot)) (path : List ℕ) (c : Contribution G) → Agrees (slot ∷ slots) path c → Agrees slots path c
agrees-rest slot slots path c agrees = λ p i. agrees p (or_right (is_in p (Rattle.rm_upper.specs.Shown.protocol_of slot)) (has_slot p (protocols slots)) i)

module _ {N A : Type 0} (tally : Tally N A) (stamp tick : ℕ) (gain : N) (c : Contribution N) (at : c.tick ≡ tick) (adds : c.gain ≡ gain) (path : List ℕ) where
  pub shown-with : (slots : List (Option Slot)) (applications : List (Option (KeptApplication A))) → AreSince stamp slots → Agrees slots path c → shown_all slots (all_with tally (is_among path) stamp tick gain slots applications) ≡ applications_with tally.none tally.more (λ p. is_on_path p c) (protocols slots) c (shown_all slots applications)
  shown-with [] applications up agrees = refl
  shown-with (None ∷ slots) [] up agrees = refl
  shown-with (Some slot ∷ slots) [] up agrees = refl
  shown-with (None ∷ slots) (application ∷ applications) up agrees = ap (λ l. None ∷ l) (shown-with slots applications up (agrees-rest None slots path c agrees))
  shown-with (Some slot ∷ slots) (application ∷ applications) up agrees =
      let same = agrees-first slot slots path c agrees in
      let rest = shown-with slots applications up.1 (agrees-rest (Some slot) slots path c agrees) in
      elim (cases_Bool (is_on_path slot.protocol c)) [
        | inl e ↦ rw (same, e, shown-taken tally stamp tick gain c at adds slot application up.0, rest) refl
        | inr e ↦ rw (same, e, rest) refl
      ]

  pub made-with : (slots : List (Option Slot)) (applications : List (Option (KeptApplication A))) → Agrees slots path c → all_made (is_among path) slots applications ≡ made_by (λ p. is_on_path p c) (protocols slots) (shown_all slots applications)
  made-with [] applications agrees = refl
  made-with (None ∷ slots) [] agrees = refl
  made-with (Some slot ∷ slots) [] agrees = refl
  made-with (None ∷ slots) (application ∷ applications) agrees = no_more (all_made (is_among path) slots applications) ∙ made-with slots applications (agrees-rest None slots path c agrees)
    where
      no_more : (n : ℕ) → n + 0 ≡ n
      no_more n = omega arith
  made-with (Some slot ∷ slots) (application ∷ applications) agrees =
      let same = agrees-first slot slots path c agrees in
      rw (same, free-made tally stamp tick gain c at adds slot application, made-with slots applications (agrees-rest (Some slot) slots path c agrees)) refl

blank-shown : {A : Type 0} (n : ℕ) (slots : List (Option Slot)) → length slots ≡ n → shown_all slots (replicate n (let none : Option (KeptApplication A) = None in none)) ≡ no_applications (protocols slots)
blank-shown n [] e = refl
blank-shown zero (slot ∷ slots) e = absurd (omega (arith, e))
blank-shown (suc n) (None ∷ slots) e = ap (λ l. None ∷ l) (blank-shown n slots (omega arith))
blank-shown (suc n) (Some slot ∷ slots) e = ap (λ l. None ∷ l) (blank-shown n slots (omega arith))

module _ {X Y : Type 0} (h : X → Y) where
  pub at_first-through : (p : X → Bool) (q : Y → Bool) (f : X → X) (g : Y → Y) → ((x : X) → q (h x) ≡ p x) → ((x : X) → g (h x) ≡ h (f x)) → (xs : List X) → at_first q g (map h xs) ≡ map h (at_first p f xs)
  at_first-through p q f g same does [] = refl
  at_first-through p q f g same does (x ∷ xs) = elim (cases_Bool (p x)) [
    | inl e ↦ rw (same x, e, does x) refl
    | inr e ↦ rw (same x, e, at_first-through p q f g same does xs) refl
  ]

  without_first-through : (p : X → Bool) (q : Y → Bool) → ((x : X) → q (h x) ≡ p x) → (xs : List X) → without_first q (map h xs) ≡ map h (without_first p xs)
  without_first-through p q same [] = refl
  without_first-through p q same (x ∷ xs) = elim (cases_Bool (p x)) [
    | inl e ↦ rw (same x, e) refl
    | inr e ↦ rw (same x, e, without_first-through p q same xs) refl
  ]

  all-through : (p : X → Bool) (q : Y → Bool) → ((x : X) → q (h x) ≡ p x) → (xs : List X) → list_all q (map h xs) ≡ list_all p xs
  all-through p q same [] = refl
  all-through p q same (x ∷ xs) = rw (same x, all-through p q same xs) refl

  any-through : (p : X → Bool) (q : Y → Bool) → ((x : X) → q (h x) ≡ p x) → (xs : List X) → list_any q (map h xs) ≡ list_any p xs
  any-through p q same [] = refl
  any-through p q same (x ∷ xs) = rw (same x, any-through p q same xs) refl

  push-through : (xs : List X) (x : X) → map h (xs ++ x ∷ []) ≡ map h xs ++ h x ∷ []
  push-through [] x = refl
  push-through (y ∷ xs) x = ap (λ l. h y ∷ l) (push-through xs x)

module _ {K V W : Type 0} (eq : K → K → Bool) (f : V → W) where
  abbrev all : List (Row K V) → List (Row K W)
  all rows = map (row_as f) rows

  pub holds-through : (k : K) (rows : List (Row K V)) → holds eq k (all rows) ≡ holds eq k rows
  holds-through k rows = any-through (row_as f) (λ row. eq k row.key) (λ row. eq k row.key) (λ row. refl) rows

  oldest-through : (rows : List (Row K V)) (row : Row K V) → is_oldest (all rows) (row_as f row) ≡ is_oldest rows row
  oldest-through rows row = all-through (row_as f) (λ other. nat_le row.last other.last) (λ other. nat_le row.last other.last) (λ other. refl) rows

  room_made-through : (room : ℕ) (rows : List (Row K V)) → room_made room (all rows) ≡ all (room_made room rows)
  room_made-through room rows = rw (length-map rows (row_as f)) (elim (cases_Bool (nat_lt (length rows) room)) [
    | inl e ↦ rw e refl
    | inr e ↦ rw e (without_first-through (row_as f) (is_oldest rows) (is_oldest (all rows)) (oldest-through rows) rows)
  ])

  pub touched-through : (blank : V) (room : ℕ) (k : K) (s t : ℕ) (rows : List (Row K V)) → touched eq (f blank) room k s t (all rows) ≡ all (touched eq blank room k s t rows)
  touched-through blank room k s t rows = rw (holds-through k rows) (elim (cases_Bool (holds eq k rows)) [
    | inl e ↦ rw e (at_first-through (row_as f) (λ row. eq k row.key) (λ row. eq k row.key) (λ row. record row { last = s; tick = t }) (λ row. record row { last = s; tick = t }) (λ row. refl) (λ row. refl) rows)
    | inr e ↦ rw (e, room_made-through room rows) (sym (push-through (row_as f) (room_made room rows) (record { key = k; value = blank; entry = s; last = s; tick = t })))
  ])

  pub credited-through : {C D : Type 0} (add : V → C → V) (other : W → D → W) (k : K) (c : C) (d : D) → ((v : V) → other (f v) d ≡ f (add v c)) → (rows : List (Row K V)) → credited eq other k d (all rows) ≡ all (credited eq add k c rows)
  credited-through add other k c d same rows = at_first-through (row_as f) (λ row. eq k row.key) (λ row. eq k row.key) (λ row. record row { value = add row.value c }) (λ row. record row { value = other row.value d }) (λ row. refl) (λ row. ap (λ (v : W). record { key = row.key; value = v; entry = row.entry; last = row.last; tick = row.tick }) (same row.value)) rows

module _ {K N A : Type 0} (tally : Tally N A) (eq : K → K → Bool) (itself : (k : K) → eq k k ≡ true) (slots : List (Option Slot)) (path : List ℕ) (room : ℕ) (k : K) (c : Contribution N) (long : length slots ≡ 32) (up : AreSince c.stamp slots) (agrees : Agrees slots path c) where
  abbrev see : List (Row K (NetworkRow N A)) → List (Row K (Value N A))
  see rows = map (row_as (seen_value slots)) rows

  blank-seen : seen_value slots (blank_row {A = A} tally.blank) ≡ blank_value tally.blank (protocols slots)
  blank-seen = ap (λ applications. record { created = None; sums = tally.blank; applications = applications }) (blank-shown 32 slots long)

  gained-seen : (v : NetworkRow N A) → gained tally.blank tally.add tally.none tally.more (protocols slots) (seen_value slots v) c ≡ seen_value slots (gained_value tally slots path c.stamp c.tick v c.gain)
  gained-seen v =
      ap (λ created. record { created = created; sums = tally.add v.sums c.gain; applications = applications_with tally.none tally.more (λ p. is_on_path p c) (protocols slots) c (shown_all slots v.applications) }) (created-seen c v.created)
      ∙ ap (λ applications. record { created = created_by c.tick v.created; sums = tally.add v.sums c.gain; applications = applications }) (sym (shown-with tally c.stamp c.tick c.gain c refl refl path slots v.applications up agrees))

  rows-seen : (rows : List (Row K (NetworkRow N A))) → credited eq (gained tally.blank tally.add tally.none tally.more (protocols slots)) k c (touched eq (blank_value tally.blank (protocols slots)) room k c.stamp c.tick (see rows)) ≡ see (credited eq (gained_value tally slots path c.stamp c.tick) k c.gain (touched eq (blank_row tally.blank) room k c.stamp c.tick rows))
  rows-seen rows =
      ap (λ b. credited eq (gained tally.blank tally.add tally.none tally.more (protocols slots)) k c (touched eq b room k c.stamp c.tick (see rows))) (sym blank-seen)
      ∙ ap (credited eq (gained tally.blank tally.add tally.none tally.more (protocols slots)) k c) (touched-through eq (seen_value slots) (blank_row tally.blank) room k c.stamp c.tick rows)
      ∙ credited-through eq (seen_value slots) (gained_value tally slots path c.stamp c.tick) (gained tally.blank tally.add tally.none tally.more (protocols slots)) k c.gain c gained-seen (touched eq (blank_row tally.blank) room k c.stamp c.tick rows)

  abbrev taken_by : List (Option (Application A)) → ℕ
  taken_by applications = made_by (λ p. is_on_path p c) (protocols slots) applications

  abbrev before : List (Row K (Value N A)) → List (Option (Application A))
  before rows = applications_before eq tally.blank tally.add tally.none tally.more room (protocols slots) k rows

  made-all : (rows : List (Row K (NetworkRow N A))) → holds eq k rows ≡ true → made_in eq slots path k rows ≡ taken_by (before (see rows))
  made-all [] i = absurd (true≢false (sym i))
  made-all (row ∷ rows) i = elim (cases_Bool (eq k row.key)) [
    | inl e ↦ rw e (made-with tally c.stamp c.tick c.gain c refl refl path slots row.value.applications agrees)
    | inr e ↦ rw e (made-all rows (rw e at i))
  ]

  renewed-made : (rows : List (Row K (NetworkRow N A))) → made_in eq slots path k (renewed eq k c.stamp c.tick rows) ≡ made_in eq slots path k rows
  renewed-made [] = refl
  renewed-made (row ∷ rows) = elim (cases_Bool (eq k row.key)) [
    | inl e ↦ rw (e, e) refl
    | inr e ↦ rw (e, e) (renewed-made rows)
  ]

  entered-made : (rows : List (Row K (NetworkRow N A))) → holds eq k rows ≡ false → made_in eq slots path k (rows ++ record { key = k; value = (blank_row tally.blank); entry = c.stamp; last = c.stamp; tick = c.tick } ∷ []) ≡ all_made (is_among path) slots (blank_row {A = A} tally.blank).applications
  entered-made [] o = rw (itself k) refl
  entered-made (row ∷ rows) o = elim (cases_Bool (eq k row.key)) [
    | inl e ↦ absurd (true≢false (rw e at o))
    | inr e ↦ rw e (entered-made rows (rw e at o))
  ]

  absent_before : (rows : List (Row K (NetworkRow N A))) → holds eq k rows ≡ false → before (see rows) ≡ no_applications (protocols slots)
  absent_before [] o = refl
  absent_before (row ∷ rows) o = elim (cases_Bool (eq k row.key)) [
    | inl e ↦ absurd (true≢false (rw e at o))
    | inr e ↦ rw e (absent_before rows (rw e at o))
  ]

  absent_still : (p : Row K (NetworkRow N A) → Bool) (rows : List (Row K (NetworkRow N A))) → holds eq k rows ≡ false → holds eq k (without_first p rows) ≡ false
  absent_still p [] o = refl
  absent_still p (row ∷ rows) o = elim (cases_Bool (eq k row.key)) [
    | inl e ↦ absurd (true≢false (rw e at o))
    | inr e ↦ elim (cases_Bool (p row)) [
      | inl y ↦ rw y (rw e at o)
      | inr y ↦ rw (y, e) (absent_still p rows (rw e at o))
    ]
  ]

  absent_room : (rows : List (Row K (NetworkRow N A))) → holds eq k rows ≡ false → holds eq k (room_made room rows) ≡ false
  absent_room rows o = elim (cases_Bool (nat_lt (length rows) room)) [ inl e ↦ rw e o | inr e ↦ rw e (absent_still (is_oldest rows) rows o) ]

  made-touched : (rows : List (Row K (NetworkRow N A))) → made_in eq slots path k (touched eq (blank_row tally.blank) room k c.stamp c.tick rows) ≡ taken_by (before (see rows))
  made-touched rows = elim (cases_Bool (holds eq k rows)) [
    | inl i ↦ rw i (renewed-made rows ∙ made-all rows i)
    | inr o ↦ rw o (entered-made (room_made room rows) (absent_room rows o) ∙ made-with tally c.stamp c.tick c.gain c refl refl path slots (blank_row {A = A} tally.blank).applications agrees ∙ ap taken_by (blank-shown 32 slots long ∙ sym (absent_before rows o)))
  ]

  -- the step of the kept rows is the step of the rows shown
  pub named-seen : (rows : List (Row K (NetworkRow N A))) (network_inserts application_inserts : ℕ) → named eq tally.blank tally.add tally.none tally.more room (protocols slots) k c (record { rows = see rows; network_inserts = network_inserts; application_inserts = application_inserts })
      ≡ record { rows = see (credited eq (gained_value tally slots path c.stamp c.tick) k c.gain (touched eq (blank_row tally.blank) room k c.stamp c.tick rows)); network_inserts = network_inserts + cond (holds eq k rows) 0 1; application_inserts = application_inserts + made_in eq slots path k (touched eq (blank_row tally.blank) room k c.stamp c.tick rows) }
  named-seen rows network_inserts application_inserts = rw (rows-seen rows, holds-through eq (seen_value slots) k rows, made-touched rows) refl
