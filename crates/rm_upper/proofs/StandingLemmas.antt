-- Kept rows that stand for the events stand for one more after it.
use Rattle.std.proofs.Common.{◌≡◌, ℕ, ◌<◌, ◌≤◌, zero, suc, Bool, true, false, List, [], ◌∷◌, ◌++◌, map, length, replicate, nat_eq, nat_le, nat_lt, Option, Some, None, refl, sym, ap, arith, subst, inl, inr}
use Rattle.std.specs.List.{AllByRecursion}
use Rattle.std.proofs.lemmas.Bool.{cases_Bool, true≢false}
use Rattle.std.proofs.lemmas.Bool.Decides.{nat_tests}
use Rattle.rm_evicting.specs.Held.{IsExact}
use Rattle.rm_evicting.specs.declared.Row.{Row}
use Rattle.rm_evicting.specs.Row.{at_first, without_first, holds, is_oldest, room_made, touched, credited}
use Rattle.rm_evicting.proofs.RowLemmas.{each-push}
use Rattle.rm_layers.specs.Event.{Contribution, Event, names, turns, turns_ip, begins, is_ip_on, AreUpTo, AreRising}
use Rattle.rm_layers.specs.Applications.{Slots, kept_applications, retuned_value}
use Rattle.rm_layers.specs.Upper.{AreTuned, IsOf, with_value, AreTurnings}
use Rattle.rm_layers.specs.Turning.{is_turned, AreNew, IsChange}
use Rattle.rm_layers.proofs.EventSteps.{is_of-named, is_of-retuned, is_of-turned_ip, is_of-begins}
use Rattle.rm_layers.proofs.TurningLemmas.{change-retunes}
use Rattle.rm_upper.specs.declared.slots.Slot.{Slot}
use Rattle.rm_upper.specs.declared.slots.KeptApplication.{KeptApplication}
use Rattle.rm_upper.specs.Kept.{NetworkRow}
use Rattle.rm_upper.specs.Tally.{Tally}
use Rattle.rm_upper.specs.Kept.{is_among, taken, all_with}
use Rattle.rm_upper.specs.Shown.{blank_row, gained_value, shown, shown_all, protocols, seen_rows, AreSince, Agrees}
use Rattle.rm_upper.specs.Standing.{Layered, seen, IsKeptBefore, AreKeptBefore, StandsFor, referred, slots_after}
use Rattle.rm_upper.proofs.SeenLemmas.{named-seen}

module _ {N A : Type 0} (tally : Tally N A) (takes : ℕ → Bool) (stamp tick : ℕ) (gain : N) (s : ℕ) (lt : stamp < s) where
  kept-taken : (slot : Slot) (kept : Option (KeptApplication A)) → IsKeptBefore s kept → IsKeptBefore s (Some (taken tally slot stamp tick gain kept))
  kept-taken slot None k = lt
  kept-taken slot (Some kept) k = elim (cases_Bool (nat_le slot.since kept.stamp)) [ inl e ↦ rw e k | inr e ↦ rw e lt ]

  kept-with : (slots : List (Option Slot)) (applications : List (Option (KeptApplication A))) → AllByRecursion (IsKeptBefore s) applications → AllByRecursion (IsKeptBefore s) (all_with tally takes stamp tick gain slots applications)
  kept-with [] applications a = tt
  kept-with (slot ∷ slots) [] a = tt
  kept-with (None ∷ slots) (application ∷ applications) a = (a.0, kept-with slots applications a.1)
  kept-with (Some slot ∷ slots) (application ∷ applications) a = elim (cases_Bool (takes slot.protocol)) [
    | inl e ↦ rw e (kept-taken slot application a.0, kept-with slots applications a.1)
    | inr e ↦ rw e (a.0, kept-with slots applications a.1)
  ]

module _ {X : Type 0} (P : X → Type 0) where
  pub each-at_first : (p : X → Bool) (f : X → X) → ((x : X) → P x → P (f x)) → (xs : List X) → AllByRecursion P xs → AllByRecursion P (at_first p f xs)
  each-at_first p f h [] a = tt
  each-at_first p f h (x ∷ xs) a = elim (cases_Bool (p x)) [ inl e ↦ rw e (h x a.0, a.1) | inr e ↦ rw e (a.0, each-at_first p f h xs a.1) ]

  pub each-without_first : (p : X → Bool) (xs : List X) → AllByRecursion P xs → AllByRecursion P (without_first p xs)
  each-without_first p [] a = tt
  each-without_first p (x ∷ xs) a = elim (cases_Bool (p x)) [ inl e ↦ rw e a.1 | inr e ↦ rw e (a.0, each-without_first p xs a.1) ]

none_kept : (A : Type 0) (s n : ℕ) → AllByRecursion (IsKeptBefore s) (replicate n (let none : Option (KeptApplication A) = None in none))
none_kept A s zero = tt
none_kept A s (suc n) = (tt, none_kept A s n)

module _ {K N A : Type 0} (tally : Tally N A) (eq : K → K → Bool) (s : ℕ) where
  abbrev Before : Row K (NetworkRow N A) → Type 0
  Before row = AllByRecursion (IsKeptBefore s) row.value.applications

  kept-touched : (cap : ℕ) (k : K) (stamp tick : ℕ) (rows : List (Row K (NetworkRow N A))) → AreKeptBefore s rows → AreKeptBefore s (touched eq (blank_row tally.blank) cap k stamp tick rows)
  kept-touched cap k stamp tick rows a = elim (cases_Bool (holds eq k rows)) [
    | inl e ↦ rw e (each-at_first Before (λ row. eq k row.key) (λ row. record row { last = stamp; tick = tick }) (λ row b. b) rows a)
    | inr e ↦ rw e (each-push Before (room_made cap rows) (record { key = k; value = (blank_row tally.blank); entry = stamp; last = stamp; tick = tick }) (room a) (none_kept A s 32))
  ]
    where
      room : AreKeptBefore s rows → AreKeptBefore s (room_made cap rows)
      room b = elim (cases_Bool (nat_lt (length rows) cap)) [ inl e ↦ rw e b | inr e ↦ rw e (each-without_first Before (is_oldest rows) rows b) ]

  kept-referred : (slots : List (Option Slot)) (path : List ℕ) (cap : ℕ) (k : K) (stamp tick : ℕ) (gain : N) (rows : List (Row K (NetworkRow N A))) → stamp < s → AreKeptBefore s rows → AreKeptBefore s (credited eq (gained_value tally slots path stamp tick) k gain (touched eq (blank_row tally.blank) cap k stamp tick rows))
  kept-referred slots path cap k stamp tick gain rows lt a =
      each-at_first Before (λ row. eq k row.key) (λ row. record row { value = gained_value tally slots path stamp tick row.value gain }) (λ row b. kept-with tally (is_among path) stamp tick gain s lt slots row.value.applications b) (touched eq (blank_row tally.blank) cap k stamp tick rows) (kept-touched cap k stamp tick rows a)

module _ {K N A : Type 0} (tally : Tally N A) (eq : K → K → Bool) (exact : IsExact eq) where
  pub stands-referred : (r : List (Event K N)) (layered : Layered K N A) (path : List ℕ) (k : K) (c : Contribution N) → 0 < layered.table.capacity → length layered.slots ≡ 32 → Agrees layered.slots path c → is_ip_on r ≡ true → AreTuned (protocols layered.slots) r → AreUpTo c.stamp r → AreRising r → StandsFor tally eq r layered → StandsFor tally eq (names k c ∷ r) (referred tally eq path k c.stamp c.tick c.gain layered)
  stands-referred r layered path k c some long agrees on tuned up rises stands = record {
    is = subst (IsOf eq tally.blank tally.add tally.none tally.more layered.table.capacity (protocols layered.slots) (names k c ∷ r))
        (named-seen tally eq exact.itself layered.slots path layered.table.capacity k c long (stands.since c.stamp up) agrees layered.table.rows layered.network_inserts layered.application_inserts)
        (is_of-named eq exact tally.blank tally.add tally.none tally.more layered.table.capacity (protocols layered.slots) r k c (seen layered) some on tuned up rises stands.is);
    kept = λ s above. kept-referred tally eq s layered.slots path layered.table.capacity k c.stamp c.tick c.gain layered.table.rows above.0 (stands.kept s above.1);
    since = λ s above. stands.since s above.1;
  }

module _ (s : ℕ) where
  pub protocols-after : (old : List (Option Slot)) (ps : Slots) → length old ≡ length ps → protocols (slots_after s old ps) ≡ ps
  protocols-after [] [] e = refl
  protocols-after [] (p ∷ ps) e = absurd (omega (arith, e))
  protocols-after (was ∷ old) [] e = absurd (omega (arith, e))
  protocols-after (None ∷ old) (None ∷ ps) e = ap (λ l. None ∷ l) (protocols-after old ps (omega arith))
  protocols-after (Some slot ∷ old) (None ∷ ps) e = ap (λ l. None ∷ l) (protocols-after old ps (omega arith))
  protocols-after (None ∷ old) (Some p ∷ ps) e = ap (λ l. Some p ∷ l) (protocols-after old ps (omega arith))
  protocols-after (Some slot ∷ old) (Some p ∷ ps) e = elim (cases_Bool (nat_eq slot.protocol p)) [
    | inl y ↦ let same : slot.protocol ≡ p = grind (arith, nat_tests, y) in rw (y, same) (ap (λ l. Some p ∷ l) (protocols-after old ps (omega arith)))
    | inr y ↦ rw y (ap (λ l. Some p ∷ l) (protocols-after old ps (omega arith)))
  ]

  stale : {A : Type 0} (p : ℕ) (application : Option (KeptApplication A)) → IsKeptBefore s application → shown (Some (record { protocol = p; since = s })) application ≡ None
  stale p None b = refl
  stale p (Some kept) b = let lt : kept.stamp < s = b in let off : nat_le s kept.stamp ≡ false = grind (arith, nat_tests) in rw off refl

  shown-after : {A : Type 0} (old : List (Option Slot)) (ps : Slots) (applications : List (Option (KeptApplication A))) → AllByRecursion (IsKeptBefore s) applications → shown_all (slots_after s old ps) applications ≡ kept_applications (protocols old) ps (shown_all old applications)
  shown-after [] ps applications b = refl
  shown-after (None ∷ old) [] applications b = refl
  shown-after (Some slot ∷ old) [] applications b = refl
  shown-after (None ∷ old) (p ∷ ps) [] b = refl
  shown-after (Some slot ∷ old) (p ∷ ps) [] b = refl
  shown-after (None ∷ old) (None ∷ ps) (application ∷ applications) b = ap (λ l. None ∷ l) (shown-after old ps applications b.1)
  shown-after (Some slot ∷ old) (None ∷ ps) (application ∷ applications) b = ap (λ l. None ∷ l) (shown-after old ps applications b.1)
  shown-after (None ∷ old) (Some p ∷ ps) (application ∷ applications) b = rw (stale p application b.0, shown-after old ps applications b.1) refl
  shown-after (Some slot ∷ old) (Some p ∷ ps) (application ∷ applications) b = elim (cases_Bool (nat_eq slot.protocol p)) [
    | inl y ↦ rw (y, shown-after old ps applications b.1) refl
    | inr y ↦ rw (y, stale p application b.0, shown-after old ps applications b.1) refl
  ]

module _ {K : Type 0} where
  rows-after : {N A : Type 0} (s : ℕ) (old : List (Option Slot)) (ps : Slots) (rows : List (Row K (NetworkRow N A))) → AreKeptBefore s rows → seen_rows (slots_after s old ps) rows ≡ map (with_value (retuned_value (protocols old) ps)) (seen_rows old rows)
  rows-after s old ps [] b = refl
  rows-after s old ps (row ∷ rows) b = rw (shown-after s old ps row.value.applications b.0, rows-after s old ps rows b.1) refl

  up_to_before : {G : Type 0} (s t : ℕ) (ts r : List (Event K G)) → AreTurnings s ts → AreUpTo t (ts ++ r) → AreUpTo t r
  up_to_before s t [] r turn up = up
  up_to_before s t (names k c ∷ ts) r turn up = absurd turn
  up_to_before s t (turns p n on ∷ ts) r turn up = up_to_before s t ts r turn.1 up.1
  up_to_before s t (turns_ip on ∷ ts) r turn up = absurd turn
  up_to_before s t (begins ∷ ts) r turn up = absurd turn

  turned_by : {G : Type 0} (s t p : ℕ) (ts r : List (Event K G)) → AreTurnings s ts → AreUpTo t (ts ++ r) → is_turned p ts ≡ true → s ≤ t
  turned_by s t p [] r turn up i = absurd (true≢false (sym i))
  turned_by s t p (names k c ∷ ts) r turn up i = absurd turn
  turned_by s t p (turns q n on ∷ ts) r turn up i = let e : n ≡ s = turn.0 in let le : n ≤ t = up.0 in omega arith
  turned_by s t p (turns_ip on ∷ ts) r turn up i = absurd turn
  turned_by s t p (begins ∷ ts) r turn up i = absurd turn

  since-after : {G : Type 0} (s t : ℕ) (ts r : List (Event K G)) → AreTurnings s ts → AreUpTo t (ts ++ r) → (old : List (Option Slot)) (ps : Slots) → AreNew ts (protocols old) ps → AreSince t old → AreSince t (slots_after s old ps)
  since-after s t ts r turn up [] ps new a = tt
  since-after s t ts r turn up (None ∷ old) [] new a = tt
  since-after s t ts r turn up (Some slot ∷ old) [] new a = tt
  since-after s t ts r turn up (None ∷ old) (None ∷ ps) new a = since-after s t ts r turn up old ps new a
  since-after s t ts r turn up (Some slot ∷ old) (None ∷ ps) new a = since-after s t ts r turn up old ps new a.1
  since-after s t ts r turn up (None ∷ old) (Some p ∷ ps) new a = (turned_by s t p ts r turn up (new.0 refl), since-after s t ts r turn up old ps new.1 a)
  since-after s t ts r turn up (Some slot ∷ old) (Some p ∷ ps) new a = elim (cases_Bool (nat_eq slot.protocol p)) [
    | inl y ↦ rw y (a.0, since-after s t ts r turn up old ps new.1 a.1)
    | inr y ↦ rw y (turned_by s t p ts r turn up (new.0 y), since-after s t ts r turn up old ps new.1 a.1)
  ]

module _ {K N A : Type 0} (tally : Tally N A) (eq : K → K → Bool) (exact : IsExact eq) where
  pub stands-retuned : (s : ℕ) (ts r : List (Event K N)) (layered : Layered K N A) (ps : Slots) → length layered.slots ≡ length ps → AreUpTo s r → AreTuned (protocols layered.slots) r → AreTuned ps (ts ++ r) → IsChange s ts r (protocols layered.slots) ps → StandsFor tally eq r layered → StandsFor tally eq (ts ++ r) (record { table = layered.table; slots = slots_after s layered.slots ps; network_inserts = layered.network_inserts; application_inserts = layered.application_inserts })
  stands-retuned s ts r layered ps long up before after change stands = record {
    is = rw (protocols-after s layered.slots ps long, rows-after s layered.slots ps layered.table.rows (stands.kept s up))
        (is_of-retuned eq exact tally.blank tally.add tally.none tally.more layered.table.capacity s ts r (protocols layered.slots) ps (seen layered) change.alone up (change-retunes s r ts (protocols layered.slots) ps before after change) stands.is);
    kept = λ t above. stands.kept t (up_to_before s t ts r change.alone above);
    since = λ t above. since-after s t ts r change.alone above layered.slots ps change.moved (stands.since t (up_to_before s t ts r change.alone above));
  }

  pub stands-turned_ip : (on : Bool) (r : List (Event K N)) (layered : Layered K N A) → StandsFor tally eq r layered → StandsFor tally eq (turns_ip on ∷ r) (record { table = record { room = layered.table.room; capacity = layered.table.capacity; rows = [] }; slots = layered.slots; network_inserts = layered.network_inserts; application_inserts = layered.application_inserts })
  stands-turned_ip on r layered stands = record {
    is = is_of-turned_ip eq exact tally.blank tally.add tally.none tally.more layered.table.capacity on r (protocols layered.slots) (seen layered) stands.is;
    kept = λ s above. tt;
    since = λ s above. stands.since s above;
  }

  -- the slots are on by events of which those of the row are a part
  stands-begins : (room cap : ℕ) (r : List (Event K N)) (slots : List (Option Slot)) → ((s : ℕ) → AreUpTo s r → AreSince s slots) → StandsFor tally eq (begins ∷ r) (record { table = record { room = room; capacity = cap; rows = [] }; slots = slots; network_inserts = 0; application_inserts = 0 })
  stands-begins room cap r slots since = record {
    is = is_of-begins eq exact tally.blank tally.add tally.none tally.more cap r (protocols slots);
    kept = λ s above. tt;
    since = λ s above. since s above;
  }

-- a protocol in a slot that was empty is on since the stamp
since_first : (limit n : ℕ) (ps : Slots) → AreSince limit (slots_after 0 (replicate n None) ps)
since_first limit zero ps = tt
since_first limit (suc n) [] = tt
since_first limit (suc n) (None ∷ ps) = since_first limit n ps
since_first limit (suc n) (Some p ∷ ps) = (omega arith, since_first limit n ps)

-- the control row begins with slots that are all new
pub stands-first : {K N A : Type 0} (tally : Tally N A) (eq : K → K → Bool) (exact : IsExact eq) (room cap : ℕ) (r : List (Event K N)) (ps : Slots) → StandsFor tally eq (begins ∷ r) (record { table = record { room = room; capacity = cap; rows = [] }; slots = slots_after 0 (replicate 32 None) ps; network_inserts = 0; application_inserts = 0 })
stands-first tally eq exact room cap r ps = stands-begins tally eq exact room cap r (slots_after 0 (replicate 32 None) ps) (λ s up. since_first s 32 ps)
