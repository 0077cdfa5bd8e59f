-- What is kept of a row is what the events say that it shows.
use Rattle.std.proofs.Common.{◌≡◌, ℕ, ◌<◌, ◌+◌, zero, suc, Bool, true, false, cond, List, [], ◌∷◌, drop, length, get_or, Option, Some, None, refl, sym, ap, ◌∙◌, arith, inl, inr}
use Rattle.std.proofs.lemmas.Bool.{cases_Bool}
use Rattle.rm_evicting.specs.Held.{IsExact, last_tick}
use Rattle.rm_evicting.specs.declared.Row.{Row}
use Rattle.rm_evicting.specs.Row.{holds}
use Rattle.rm_evicting.specs.Stands.{total}
use Rattle.rm_rows.specs.Table.{row_of}
use Rattle.rm_layers.specs.Event.{Event, span}
use Rattle.rm_layers.specs.Network.{is_held, entry_tick, contributions, application_contributions}
use Rattle.rm_layers.specs.Applications.{is_in, application_of, application_at}
use Rattle.rm_layers.specs.Upper.{AreTuned}
use Rattle.rm_layers.proofs.Cells.{network-shown, application-shown}
use Rattle.rm_upper.specs.declared.counts.Counted.{Counted}
use Rattle.rm_upper.specs.declared.slots.Slot.{Slot}
use Rattle.rm_upper.specs.declared.slots.KeptApplication.{KeptApplication}
use Rattle.rm_upper.specs.Kept.{NetworkRow}
use Rattle.rm_upper.specs.Tally.{Tally}
use Rattle.rm_upper.specs.Shown.{shown_all, protocol_of, protocols, seen_value, row_as}
use Rattle.rm_upper.specs.Standing.{Layered, StandsFor}
use Rattle.rm_upper.specs.Cells.{counted, network_row, application_row, counted_by, network_in, application_in_row}
use Rattle.rm_upper.proofs.Lasts.{Is, each, is_held_here, found}

-- a slot that doesn't have the protocol is passed over
passed : {A : Type 0} (p i : ℕ) (slots : List (Option Slot)) (apps : List (Option (KeptApplication A))) → i < length slots → length slots ≡ length apps → is_in p (protocol_of (get_or slots i None)) ≡ false
    → application_at p (protocols (drop (suc i) slots)) (shown_all (drop (suc i) slots) (drop (suc i) apps)) ≡ application_at p (protocols (drop i slots)) (shown_all (drop i slots) (drop i apps))
passed p i [] apps lt same off = absurd (omega arith)
passed p i (slot ∷ slots) [] lt same off = absurd (omega (arith, same))
passed p zero (slot ∷ slots) (app ∷ apps) lt same off = rw off refl
passed p (suc i) (slot ∷ slots) (app ∷ apps) lt same off = passed p i slots apps (omega arith) (omega arith) off

pub next_place : {A : Type 0} (p i : ℕ) (slots : List (Option Slot)) (apps : List (Option (KeptApplication A))) → i < length slots → length slots ≡ length apps → is_in p (protocol_of (get_or slots i None)) ≡ false
    → application_at p (protocols (drop (i + 1) slots)) (shown_all (drop (i + 1) slots) (drop (i + 1) apps)) ≡ application_at p (protocols (drop i slots)) (shown_all (drop i slots) (drop i apps))
next_place p i slots apps lt same off =
    ap (λ n. application_at p (protocols (drop n slots)) (shown_all (drop n slots) (drop n apps))) (let e : i + 1 ≡ suc i = omega arith in e) ∙ passed p i slots apps lt same off

module _ {K V : Type 0} (eq : K → K → Bool) where
  absent : (k : K) (rows : List (Row K V)) → row_of eq k rows ≡ None → holds eq k rows ≡ false
  absent k [] e = refl
  absent k (x ∷ rows) e = elim (cases_Bool (eq k x.key)) [
    | inl y ↦ let some : Some x ≡ None = rw y at e in cc
    | inr y ↦ rw y (absent k rows (rw y at e))
  ]

module _ {K N A : Type 0} (tally : Tally N A) (eq : K → K → Bool) (exact : IsExact eq) (layered : Layered K N A) (r : List (Event K N)) (tuned : AreTuned (protocols layered.slots) r) (stands : StandsFor tally eq r layered) where
  abbrev cap : ℕ
  cap = layered.table.capacity

  held : (k : K) (row : Row K (NetworkRow N A)) → row_of eq k layered.table.rows ≡ Some row → is_held eq cap k r ≡ true
  held k row e = sym (is_held_here eq exact tally layered r tuned stands k) ∙ (found eq exact (Is eq exact tally layered r tuned stands) k layered.table.rows row (each eq exact tally layered r tuned stands) e).2

  not_held : (k : K) → row_of eq k layered.table.rows ≡ None → is_held eq cap k r ≡ false
  not_held k e = sym (is_held_here eq exact tally layered r tuned stands k) ∙ absent eq k layered.table.rows e

  abbrev network_of : K → Option (Counted N)
  network_of k = Some (record { created = entry_tick eq cap k r; tick = last_tick eq k (span r); sums = total tally.blank (λ sums c. tally.add sums c.gain) (contributions eq cap k r) })

  pub network-is : (k : K) (o : Option (Row K (NetworkRow N A))) → row_of eq k layered.table.rows ≡ o → network_in o ≡ network_row tally eq cap k r
  network-is k None e = rw (not_held k e) refl
  network-is k (Some row) e =
      let f = found eq exact (Is eq exact tally layered r tuned stands) k layered.table.rows row (each eq exact tally layered r tuned stands) e in
      let s = network-shown eq exact tally.blank tally.add tally.none tally.more cap (protocols layered.slots) r (row_as (seen_value layered.slots) row) f.0 (ap (λ j. is_held eq cap j r) f.1 ∙ held k row e) in
      ap (λ o. counted_by row.tick o row.value.sums) s.0
      ∙ ap (λ sums. counted_by row.tick (Some (entry_tick eq cap row.key r)) sums) s.1
      ∙ ap (λ tick. counted_by tick (Some (entry_tick eq cap row.key r)) (total tally.blank (λ sums c. tally.add sums c.gain) (contributions eq cap row.key r))) f.0.tick
      ∙ ap network_of f.1
      ∙ sym (ap (λ b. cond b (network_of k) None) (held k row e))

  abbrev application_by : ℕ → K → Option (Counted A)
  application_by p k = counted (application_of tally.none tally.more (application_contributions eq cap k p r))

  pub application-is : (k : K) (p : ℕ) (o : Option (Row K (NetworkRow N A))) → row_of eq k layered.table.rows ≡ o → application_in_row layered.slots p o ≡ application_row tally eq cap k p r
  application-is k p None e = rw (not_held k e) refl
  application-is k p (Some row) e =
      let f = found eq exact (Is eq exact tally layered r tuned stands) k layered.table.rows row (each eq exact tally layered r tuned stands) e in
      ap counted (application-shown eq exact tally.blank tally.add tally.none tally.more cap (protocols layered.slots) r tuned (row_as (seen_value layered.slots) row) f.0 p)
      ∙ ap (application_by p) f.1
      ∙ sym (ap (λ b. cond b (application_by p k) None) (held k row e))
