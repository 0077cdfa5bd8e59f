-- What rows of the network and application layer show by the events is what the tables show.
use Rattle.std.proofs.Common.{◌≡◌, ℕ, ◌%◌, ◌^◌, Bool, true, false, cond, ◌&&◌, nat_eq, List, [], ◌∷◌, Some, None, refl, ap}
use Rattle.rm_val.specs.Val.{gauge, ticks}
use Rattle.rm_model.specs.Counting.{Counting}
use Rattle.rm_model.specs.Journal.{Journal}
use Rattle.rm_evicting.specs.Held.{last_tick}
use Rattle.rm_evicting.specs.Stands.{total}
use Rattle.rm_keyed.proofs.Sums.{column_shown}
use Rattle.rm_layers.specs.Applications.{application_of}
use Rattle.rm_layers.specs.Event.{Contribution, span}
use Rattle.rm_layers.specs.Network.{is_held, is_some_list, entry_tick, first_tick, newest_tick, contributions, application_contributions}
use Rattle.rm_upper.specs.declared.counts.Counted.{Counted}
use Rattle.rm_upper.specs.Cells.{counted, network_row, application_row}
use Rattle.rm_upper.specs.Tally.{Tally}
use Rattle.rm_layer_tables.specs.Layer.{Layer}
use Rattle.rm_layer_tables.specs.Held.{is_active_now, room, seen_events, stands_at, sum_of, network_rows, application_rows}
use Rattle.rm_layer_tables.specs.Tables.{MarkedTable}
use Rattle.rm_layer_tables.specs.Shown.{column_of, AddsUp, at_mark, row_shown}

-- a sum as it is shown
module _ {S G : Type 0} (blank : S) (add : S → G → S) (counted_in : (column : ℕ) → S → ℕ) (count : (column : ℕ) → G → ℕ) (adds : AddsUp blank add counted_in count) where
  sum_shown : (column : ℕ) (some : List (Contribution G)) → counted_in column (total blank (λ sums brings. add sums brings.gain) some) % 2 ^ 32 ≡ sum_of (count column) some % 2 ^ 32
  sum_shown column =
      column_shown blank (λ sums brings. add sums brings.gain) (counted_in column) (λ brings. count column brings.gain) (adds.none column) (λ sums brings. adds.adds column sums brings.gain)

  value_shown : (created column first : ℕ) (some : List (Contribution G))
      → cond (nat_eq column created) (ticks first) (gauge (counted_in column (total blank (λ sums brings. add sums brings.gain) some) % 2 ^ 32))
      ≡ cond (nat_eq column created) (ticks first) (gauge (sum_of (count column) some % 2 ^ 32))
  value_shown created column first some = by_test (nat_eq column created)
    where
      by_test : (t : Bool)
          → cond t (ticks first) (gauge (counted_in column (total blank (λ sums brings. add sums brings.gain) some) % 2 ^ 32))
          ≡ cond t (ticks first) (gauge (sum_of (count column) some % 2 ^ 32))
      by_test true = refl
      by_test false = ap gauge (sum_shown column some)

module _ {K N A : Type 0} (layer : Layer K N) (tally : Tally N A) (eq : K → K → Bool) (settings : Counting) (journal : Journal) (row : ℕ)
    (active : is_active_now layer eq settings journal row ≡ true) (table : MarkedTable N) (now mark : ℕ) where
  pub network_is : (counted_in : (column : ℕ) → N → ℕ) → AddsUp tally.blank tally.add counted_in table.count → (key : K) (column : ℕ)
      → at_mark (column_of table counted_in) now mark (network_row tally eq (room layer eq settings journal row) key (seen_events layer eq settings journal row)) column
      ≡ row_shown table (network_rows layer eq settings journal row) now mark key column
  network_is counted_in adds key column = rw active (by_held (is_held eq (room layer eq settings journal row) key (seen_events layer eq settings journal row)))
    where
      some : List (Contribution N)
      some = contributions eq (room layer eq settings journal row) key (seen_events layer eq settings journal row)

      created : ℕ
      created = entry_tick eq (room layer eq settings journal row) key (seen_events layer eq settings journal row)

      held : Counted N
      held = record { created = created; tick = last_tick eq key (span (seen_events layer eq settings journal row)); sums = total tally.blank (λ sums brings. tally.add sums brings.gain) some }

      by_held : (here : Bool) → at_mark (column_of table counted_in) now mark (cond here (Some held) None) column
          ≡ cond (here && stands_at now mark held.tick) (Some (cond (nat_eq column table.created) (ticks created) (gauge (sum_of (table.count column) some % 2 ^ 32)))) None
      by_held true = ap (λ value. cond (stands_at now mark held.tick) (Some value) None) (value_shown tally.blank tally.add counted_in table.count adds table.created column created some)
      by_held false = refl

  pub application_is : (counted_in : (column : ℕ) → A → ℕ) → AddsUp tally.none tally.more counted_in table.count → (x : K × ℕ) (column : ℕ)
      → at_mark (column_of table counted_in) now mark (application_row tally eq (room layer eq settings journal row) x.0 x.1 (seen_events layer eq settings journal row)) column
      ≡ row_shown table (application_rows layer eq settings journal row) now mark x column
  application_is counted_in adds x column =
      rw active (by_held (is_held eq (room layer eq settings journal row) x.0 (seen_events layer eq settings journal row)) (application_contributions eq (room layer eq settings journal row) x.0 x.1 (seen_events layer eq settings journal row)))
    where
      by_held : (here : Bool) (some : List (Contribution N))
          → at_mark (column_of table counted_in) now mark (cond here (counted (application_of tally.none tally.more some)) None) column
          ≡ cond ((here && is_some_list some) && stands_at now mark (newest_tick some)) (Some (cond (nat_eq column table.created) (ticks (first_tick some)) (gauge (sum_of (table.count column) some % 2 ^ 32)))) None
      by_held true [] = refl
      by_held true (brings ∷ more) =
          ap (λ value. cond (stands_at now mark brings.tick) (Some value) None)
          (value_shown tally.none tally.more counted_in table.count adds table.created column (first_tick (brings ∷ more)) (brings ∷ more))
      by_held false some = refl
