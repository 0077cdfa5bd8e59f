-- What the rows of a control row that is active show is what the journal gives, and what its counters count.
use Rattle.std.proofs.Common.{◌≡◌, ℕ, ◌-◌, Bool, true, false, cond, nat_eq, length, refl, sym, ap, ◌∙◌}
use Rattle.std.proofs.lemmas.List.{length-map}
use Rattle.rm_model.specs.Counting.{Counting}
use Rattle.rm_model.specs.Journal.{Journal}
use Rattle.rm_evicting.specs.Held.{IsExact}
use Rattle.rm_rows.specs.Table.{row_of}
use Rattle.rm_layers.specs.Network.{network_inserts, network_deletes, application_inserts, application_deletes}
use Rattle.rm_layers.specs.Upper.{AreTuned}
use Rattle.rm_upper.specs.Cells.{network_row, application_row}
use Rattle.rm_upper.specs.Count.{held_by_keys}
use Rattle.rm_upper.specs.LayerTable.{LayerTable}
use Rattle.rm_upper.specs.Shown.{protocols, row_as, seen_value}
use Rattle.rm_upper.specs.Tally.{Tally}
use Rattle.rm_upper.proofs.CellLemmas.{network-is, application-is}
use Rattle.rm_upper.proofs.CountLemmas.{deletes-are}
use Rattle.rm_layer_tables.specs.ControlCells.{counter_of}
use Rattle.rm_layer_tables.specs.Held.{is_active_now, room, seen_events, network_rows, application_rows}
use Rattle.rm_layer_tables.specs.Kept.{network_counted, application_counted, kept_counter}
use Rattle.rm_layer_tables.specs.Layer.{Layer, NamesFew}
use Rattle.rm_layer_tables.specs.Shown.{AddsUp, column_of, at_mark, row_shown}
use Rattle.rm_layer_tables.specs.ShownLaws.{network_is, application_is}
use Rattle.rm_layer_tables.specs.Standing.{IsHeld}
use Rattle.rm_layer_tables.specs.Tables.{MarkedTable}
use Rattle.rm_layer_tables.specs.Tuned.{tuned_for}

module _ {K N A : Type 0} (layer : Layer K N) (few : NamesFew layer) (tally : Tally N A) (eq : K → K → Bool) (exact : IsExact eq) (settings : Counting) (journal : Journal) (row : ℕ)
    (table : LayerTable K N A) (active : is_active_now layer eq settings journal row ≡ true) (is : IsHeld layer tally eq settings journal row table) where
  tuned : AreTuned (protocols table.layered.slots) (seen_events layer eq settings journal row)
  tuned = tuned_for layer few eq settings row journal (protocols table.layered.slots) is.slots

  -- each network row
  network_counted_is : (key : K) → network_counted eq table key ≡ network_row tally eq (room layer eq settings journal row) key (seen_events layer eq settings journal row)
  network_counted_is key =
      network-is tally eq exact table.layered (seen_events layer eq settings journal row) tuned is.stands key (row_of eq key table.layered.table.rows) refl
      ∙ ap (λ capacity. network_row tally eq capacity key (seen_events layer eq settings journal row)) is.capacity

  pub network_shows : (one : MarkedTable N) (counted_in : (column : ℕ) → N → ℕ) → AddsUp tally.blank tally.add counted_in one.count → (now mark : ℕ) (key : K) (column : ℕ)
      → at_mark (column_of one counted_in) now mark (network_counted eq table key) column ≡ row_shown one (network_rows layer eq settings journal row) now mark key column
  network_shows one counted_in adds now mark key column =
      ap (λ o. at_mark (column_of one counted_in) now mark o column) (network_counted_is key)
      ∙ network_is layer tally eq settings journal row active one now mark counted_in adds key column

  -- and each application row
  application_counted_is : (x : K × ℕ) → application_counted eq table x ≡ application_row tally eq (room layer eq settings journal row) x.0 x.1 (seen_events layer eq settings journal row)
  application_counted_is x =
      application-is tally eq exact table.layered (seen_events layer eq settings journal row) tuned is.stands x.0 x.1 (row_of eq x.0 table.layered.table.rows) refl
      ∙ ap (λ capacity. application_row tally eq capacity x.0 x.1 (seen_events layer eq settings journal row)) is.capacity

  pub application_shows : (one : MarkedTable N) (counted_in : (column : ℕ) → A → ℕ) → AddsUp tally.none tally.more counted_in one.count → (now mark : ℕ) (x : K × ℕ) (column : ℕ)
      → at_mark (column_of one counted_in) now mark (application_counted eq table x) column ≡ row_shown one (application_rows layer eq settings journal row) now mark x column
  application_shows one counted_in adds now mark x column =
      ap (λ o. at_mark (column_of one counted_in) now mark o column) (application_counted_is x)
      ∙ application_is layer tally eq settings journal row active one now mark counted_in adds x column

  -- the counters
  pub counter_is : (column : ℕ) → kept_counter eq table column ≡ counter_of layer eq settings journal row column
  counter_is column = rw active (λ d. cond (nat_eq column 4) (inserts d) (cond (nat_eq column 5) (deletes d) (cond (nat_eq column 8) (entered d) (cond (nat_eq column 9) (gone d) 0))))
    where
      inserts : table.layered.network_inserts ≡ network_inserts eq (room layer eq settings journal row) (seen_events layer eq settings journal row)
      inserts = is.stands.is.network_inserts ∙ ap (λ capacity. network_inserts eq capacity (seen_events layer eq settings journal row)) is.capacity

      deletes : (table.layered.network_inserts - length table.layered.table.rows) ≡ network_deletes eq (room layer eq settings journal row) (seen_events layer eq settings journal row)
      deletes =
          ap (λ entered. entered - length table.layered.table.rows) is.stands.is.network_inserts
          ∙ ap (λ rows. network_inserts eq table.layered.table.capacity (seen_events layer eq settings journal row) - rows) (sym (length-map table.layered.table.rows (row_as (seen_value table.layered.slots))) ∙ is.stands.is.stands.size)
          ∙ ap (λ capacity. network_deletes eq capacity (seen_events layer eq settings journal row)) is.capacity

      entered : table.layered.application_inserts ≡ application_inserts eq (room layer eq settings journal row) (seen_events layer eq settings journal row)
      entered = is.stands.is.application_inserts ∙ ap (λ capacity. application_inserts eq capacity (seen_events layer eq settings journal row)) is.capacity

      gone : (table.layered.application_inserts - held_by_keys eq table.layered table.layered.table.rows) ≡ application_deletes eq (room layer eq settings journal row) (seen_events layer eq settings journal row)
      gone =
          deletes-are tally eq exact table.layered (seen_events layer eq settings journal row) tuned is.stands
          ∙ ap (λ capacity. application_deletes eq capacity (seen_events layer eq settings journal row)) is.capacity

-- a control row that isn't active has none, and counts nothing
module _ {K G : Type 0} (layer : Layer K G) (eq : K → K → Bool) (settings : Counting) (journal : Journal) (row : ℕ) (idle : is_active_now layer eq settings journal row ≡ false) where
  pub no_network : (key : K) → (network_rows layer eq settings journal row).is_there key ≡ false
  no_network key = rw idle refl

  pub no_application : (x : K × ℕ) → (application_rows layer eq settings journal row).is_there x ≡ false
  no_application x = rw idle refl

  abbrev chosen : (four five eight nine : Bool) → ℕ
  chosen four five eight nine = cond four 0 (cond five 0 (cond eight 0 (cond nine 0 0)))

  none_chosen : (four five eight nine : Bool) → chosen four five eight nine ≡ 0
  none_chosen true five eight nine = refl
  none_chosen false true eight nine = refl
  none_chosen false false true nine = refl
  none_chosen false false false true = refl
  none_chosen false false false false = refl

  pub no_count : (column : ℕ) → counter_of layer eq settings journal row column ≡ 0
  no_count column = rw idle (none_chosen (nat_eq column 4) (nat_eq column 5) (nat_eq column 8) (nat_eq column 9))
