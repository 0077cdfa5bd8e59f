-- After a reference each row was last referred to before the next one.
use Rattle.std.proofs.Common.{◌≡◌, ℕ, ◌+◌, ◌<◌, ◌≤◌, Bool, true, false, cond, nat_lt, List, [], ◌∷◌, ◌++◌, length, All, refl, arith, inl, inr}
use Rattle.std.proofs.lemmas.Bool.{cases_Bool}
use Rattle.std.proofs.lemmas.List.Elements.{All-from_recursion}
use Rattle.rm_evicting.specs.declared.Row.{Row}
use Rattle.rm_evicting.specs.Row.{holds, is_oldest, room_made, renewed, touched, credited}
use Rattle.rm_evicting.proofs.RowLemmas.{each-push, each-weaker}
use Rattle.rm_layers.specs.Event.{Contribution, Event, names, is_ip_on}
use Rattle.rm_layers.proofs.EventSteps.{is_of-unnamed}
use Rattle.rm_evicting.specs.Held.{IsExact}
use Rattle.rm_upper.specs.Tally.{Tally}
use Rattle.rm_upper.specs.Shown.{protocols}
use Rattle.rm_upper.specs.Standing.{Layered, seen, StandsFor}
use Rattle.rm_upper.specs.LayerTable.{IsBefore, AreBefore}
use Rattle.rm_upper.proofs.StandingLemmas.{each-at_first, each-without_first}

module _ {K V C : Type 0} (eq : K → K → Bool) (blank : V) (add : V → C → V) (next latest stamp tick : ℕ) (above : next ≤ stamp) (after : latest ≤ tick) where
  later : (row : Row K V) → IsBefore next latest row → IsBefore (stamp + 1) tick row
  later row b = let l : row.last < next = b.0 in let t : row.tick ≤ latest = b.1 in (omega arith, omega arith)

  pub before-referred : (cap : ℕ) (k : K) (c : C) (rows : List (Row K V)) → AreBefore next latest rows → AreBefore (stamp + 1) tick (credited eq add k c (touched eq blank cap k stamp tick rows))
  before-referred cap k c rows b = each-at_first (IsBefore (stamp + 1) tick) (λ row. eq k row.key) (λ row. record row { value = add row.value c }) (λ row d. d) (touched eq blank cap k stamp tick rows) (by_held (holds eq k rows) refl)
    where
      all : AreBefore (stamp + 1) tick rows
      all = each-weaker (IsBefore next latest) (IsBefore (stamp + 1) tick) later rows b

      room : AreBefore (stamp + 1) tick (room_made cap rows)
      room = elim (cases_Bool (nat_lt (length rows) cap)) [ inl e ↦ rw e all | inr e ↦ rw e (each-without_first (IsBefore (stamp + 1) tick) (is_oldest rows) rows all) ]

      by_held : (h : Bool) → holds eq k rows ≡ h → AreBefore (stamp + 1) tick (cond h (renewed eq k stamp tick rows) (room_made cap rows ++ record { key = k; value = blank; entry = stamp; last = stamp; tick = tick } ∷ []))
      by_held true e = each-at_first (IsBefore (stamp + 1) tick) (λ row. eq k row.key) (λ row. record row { last = stamp; tick = tick }) (λ row d. (omega arith, omega arith)) rows all
      by_held false e = each-push (IsBefore (stamp + 1) tick) (room_made cap rows) (record { key = k; value = blank; entry = stamp; last = stamp; tick = tick }) room (omega arith, omega arith)

module _ {K V : Type 0} (next latest stamp tick : ℕ) (above : next ≤ stamp) (after : latest ≤ tick) where
  pub lasts_below : (rows : List (Row K V)) → AreBefore next latest rows → All (λ row. row.last < stamp) rows
  lasts_below rows b = All-from_recursion (λ row. row.last < stamp) rows (each-weaker (IsBefore next latest) (λ row. row.last < stamp) (λ row d. let l : row.last < next = d.0 in omega arith) rows b)

  pub ticks_below : (rows : List (Row K V)) → AreBefore next latest rows → All (λ row. row.tick ≤ tick) rows
  ticks_below rows b = All-from_recursion (λ row. row.tick ≤ tick) rows (each-weaker (IsBefore next latest) (λ row. row.tick ≤ tick) (λ row d. let l : row.tick ≤ latest = d.1 in omega arith) rows b)

module _ {K V : Type 0} where
  pub still_before : (next latest stamp tick : ℕ) → next ≤ stamp → latest ≤ tick → (rows : List (Row K V)) → AreBefore next latest rows → AreBefore (stamp + 1) tick rows
  still_before next latest stamp tick above after rows b = each-weaker (IsBefore next latest) (IsBefore (stamp + 1) tick) (λ row d. let l : row.last < next = d.0 in let t : row.tick ≤ latest = d.1 in (omega arith, omega arith)) rows b

-- a frame while ip is off
pub stands-unnamed : {K N A : Type 0} (tally : Tally N A) (eq : K → K → Bool) (exact : IsExact eq) (r : List (Event K N)) (layered : Layered K N A) (k : K) (c : Contribution N) → is_ip_on r ≡ false → StandsFor tally eq r layered → StandsFor tally eq (names k c ∷ r) layered
stands-unnamed tally eq exact r layered k c off stands = record {
  is = is_of-unnamed eq exact tally.blank tally.add tally.none tally.more 0 r layered.table.capacity (protocols layered.slots) k c (seen layered) off stands.is;
  kept = λ s above. stands.kept s above.1;
  since = λ s above. stands.since s above.1;
}
