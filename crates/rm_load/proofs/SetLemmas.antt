-- Nothing is wrong with either Set of a load, and neither reserves storage.
use Rattle.std.proofs.Common.{◌≡◌, ◌⊎◌, inl, inr, ℕ, zero, suc, ◌<◌, [], ◌∷◌, length, Bool, true, false, Option, None, refl, ap, arith}
use Rattle.std.specs.Option.{option_or}
use Rattle.rm_val.specs.declared.error.ErrorStatus.{ErrorStatus}
use Rattle.rm_model.specs.Accepted.{assignments_of}
use Rattle.rm_model.specs.ControlRows.{Beginning, no_rows}
use Rattle.rm_model.specs.ControlTable.{ControlTable}
use Rattle.rm_model.specs.Journal.{Journal, assigns}
use Rattle.rm_model.specs.Judgement.{is_crowded, row_fault, rows_after}
use Rattle.rm_model.specs.Reserves.{Reserves as ReservesRow, activates}
use Rattle.rm_model.specs.declared.row.Ask.{Ask}
use Rattle.rm_model.specs.declared.row.Ask.TheVariants.{Create, CreateValid}
use Rattle.rm_model.specs.declared.row.State.TheVariants.{Absent}
use Rattle.rm_group.specs.Alone.{alone_at}
use Rattle.rm_reply.specs.Sets.{alone_among}
use Rattle.rm_settings.specs.declared.settings.Settings.{Settings}
use Rattle.rm_event.specs.EventTable.{event_table}
use Rattle.rm_keyed.specs.SourceControl.{source_rows}
use Rattle.rm_history.specs.ControlColumns.{control_rows as history_rows}
use Rattle.rm_history.specs.Collection.{history_collection}
use Rattle.rm_sourced.specs.Collection.{source_collection}
use Rattle.rm_hosts.specs.ControlColumns.{control_rows as host_rows}
use Rattle.rm_matrix.specs.ControlColumns.{control_rows as matrix_rows}
use Rattle.rm_topn.specs.Control.{top_control}
use Rattle.rm_capture.specs.BufferRows.{buffer_rows}
use Rattle.rm_capture.specs.Collection.{buffer_collection}
use Rattle.rm_layer_tables.specs.ControlColumns.{layer_rows}
use Rattle.rm_hl_hosts.specs.Control.{control_rows as hl_host_rows}
use Rattle.rm_hl_hosts.specs.Collection.{host_collection as hl_host_collection}
use Rattle.rm_hl_matrices.specs.Control.{control_rows as hl_matrix_rows}
use Rattle.rm_hl_matrices.specs.Collection.{pair_collection}
use Rattle.rm_collectors.specs.Group.{collected_objects, collected_alone, collected_together, CollectedReserves}
use Rattle.rm_protocols.specs.Group.{protocol_objects, protocol_alone, protocol_together, ProtocolReserves}
use Rattle.rm_sources.specs.Group.{source_objects, source_alone, source_together, SourceReserves}
use Rattle.rm_agent.specs.Groups.{objects, alone, together, Reserves}
use Rattle.rm_load.specs.Sets.{first_set, second_set}
use Rattle.rm_load.proofs.OnceLemmas.{not_crowded, reserves_none, reserves_none_of_one}

-- after the first Set
abbrev pub first_made : Journal
first_made = assigns 100 (assignments_of first_set) ∷ []

-- nothing is wrong with a binding alone

pub first_alone : (place : ℕ) → place < length first_set → alone_at (alone_among objects alone) first_set place ≡ None
unfolding source_rows layer_rows source_objects source_alone collected_objects collected_alone protocol_objects protocol_alone history_collection source_collection buffer_collection hl_host_collection pair_collection
first_alone zero within = refl
first_alone (suc zero) within = refl
first_alone (suc (suc zero)) within = refl
first_alone (suc (suc (suc zero))) within = refl
first_alone (suc (suc (suc (suc n)))) within = absurd (omega (arith, within))

pub second_alone : (place : ℕ) → place < length second_set → alone_at (alone_among objects alone) second_set place ≡ None
unfolding source_rows layer_rows source_objects source_alone collected_objects collected_alone protocol_objects protocol_alone history_collection source_collection buffer_collection hl_host_collection pair_collection
second_alone zero within = refl
second_alone (suc zero) within = refl
second_alone (suc (suc n)) within = absurd (omega (arith, within))

-- what a table has before each Set
abbrev before_first : ControlTable → Beginning
before_first table = rows_after table no_rows []

abbrev before_second : ControlTable → Beginning
before_second table = rows_after table no_rows first_made

-- The first Set makes row 1 of each of four tables, which are empty before, and so isn't crowded.

hosts_fit : is_crowded host_rows.table (before_first host_rows.table) first_set ≡ false
unfolding source_rows
hosts_fit = not_crowded host_rows.table (before_first host_rows.table) first_set (omega arith) refl (λ row other. rw other refl)

pairs_fit : is_crowded matrix_rows.table (before_first matrix_rows.table) first_set ≡ false
unfolding source_rows
pairs_fit = not_crowded matrix_rows.table (before_first matrix_rows.table) first_set (omega arith) refl (λ row other. rw other refl)

hl_hosts_fit : is_crowded hl_host_rows.table (before_first hl_host_rows.table) first_set ≡ false
unfolding layer_rows
hl_hosts_fit = not_crowded hl_host_rows.table (before_first hl_host_rows.table) first_set (omega arith) refl (λ row other. rw other refl)

hl_pairs_fit : is_crowded hl_matrix_rows.table (before_first hl_matrix_rows.table) first_set ≡ false
unfolding layer_rows
hl_pairs_fit = not_crowded hl_matrix_rows.table (before_first hl_matrix_rows.table) first_set (omega arith) refl (λ row other. rw other refl)

-- what is wrong with the status of row 1 where it is made, by whether the table is crowded
abbrev made_fault : ControlTable → Ask → (crowded : Bool) → Option ErrorStatus
made_fault table ask crowded = row_fault table (1 ∷ []) Absent ask true crowded false table.status

-- Nothing is wrong with a binding together with the others of its row: no other table has its name, and its own isn't crowded.
pub first_together : (settings : Settings) (place : ℕ) → place < length first_set → together settings [] 100 first_set place ≡ None
unfolding source_rows layer_rows source_together collected_together protocol_together
first_together settings zero within = ap (λ (crowded : Bool). option_or (option_or (option_or (made_fault host_rows.table Create crowded) None) None) None) hosts_fit
first_together settings (suc zero) within = ap (λ (crowded : Bool). option_or (option_or (option_or (option_or (made_fault matrix_rows.table Create crowded) None) None) None) None) pairs_fit
first_together settings (suc (suc zero)) within = ap (λ (crowded : Bool). option_or (option_or (option_or (made_fault hl_host_rows.table CreateValid crowded) None) None) None) hl_hosts_fit
first_together settings (suc (suc (suc zero))) within = ap (λ (crowded : Bool). option_or (option_or (made_fault hl_matrix_rows.table CreateValid crowded) None) None) hl_pairs_fit
first_together settings (suc (suc (suc (suc n)))) within = absurd (omega (arith, within))

pub second_together : (settings : Settings) (place : ℕ) → place < length second_set → together settings first_made 200 second_set place ≡ None
unfolding source_rows layer_rows source_together collected_together protocol_together
second_together settings zero within = refl
second_together settings (suc zero) within = refl
second_together settings (suc (suc n)) within = absurd (omega (arith, within))

-- A Set reserves storage only beside another row of a table.

neither : {A B : Type 0} → (A → ⊥) → (B → ⊥) → A ⊎ B → ⊥
neither no_first no_second (inl first) = no_first first
neither no_first no_second (inr second) = no_second second

none : ⊥ → ⊥
none never = never

module _ (index : ℕ) where
  -- nothing of a table of which no row becomes valid by a Set
  first_inactive : (table : ControlTable) → activates table (before_first table) first_set 0 ≡ false → activates table (before_first table) first_set 1 ≡ false
      → activates table (before_first table) first_set 2 ≡ false → activates table (before_first table) first_set 3 ≡ false → ReservesRow table (before_first table) first_set index → ⊥
  first_inactive table a b c d = reserves_none table (before_first table) first_set index at_place
    where
      at_place : (place : ℕ) → place < length first_set → activates table (before_first table) first_set place ≡ false
      at_place zero within = a
      at_place (suc zero) within = b
      at_place (suc (suc zero)) within = c
      at_place (suc (suc (suc zero))) within = d
      at_place (suc (suc (suc (suc n)))) within = absurd (omega (arith, within))

  second_inactive : (table : ControlTable) → activates table (before_second table) second_set 0 ≡ false → activates table (before_second table) second_set 1 ≡ false
      → ReservesRow table (before_second table) second_set index → ⊥
  second_inactive table a b = reserves_none table (before_second table) second_set index at_place
    where
      at_place : (place : ℕ) → place < length second_set → activates table (before_second table) second_set place ≡ false
      at_place zero within = a
      at_place (suc zero) within = b
      at_place (suc (suc n)) within = absurd (omega (arith, within))

  -- nor of one of which row 1 alone does
  first_hl_hosts : ReservesRow hl_host_rows.table (before_first hl_host_rows.table) first_set index → ⊥
  unfolding layer_rows
  first_hl_hosts = reserves_none_of_one hl_host_rows.table (before_first hl_host_rows.table) first_set index refl (λ row other. rw other refl)

  first_hl_pairs : ReservesRow hl_matrix_rows.table (before_first hl_matrix_rows.table) first_set index → ⊥
  unfolding layer_rows
  first_hl_pairs = reserves_none_of_one hl_matrix_rows.table (before_first hl_matrix_rows.table) first_set index refl (λ row other. rw other refl)

  second_hosts : ReservesRow host_rows.table (before_second host_rows.table) second_set index → ⊥
  unfolding source_rows
  second_hosts = reserves_none_of_one host_rows.table (before_second host_rows.table) second_set index refl (λ row other. rw other refl)

  second_pairs : ReservesRow matrix_rows.table (before_second matrix_rows.table) second_set index → ⊥
  unfolding source_rows
  second_pairs = reserves_none_of_one matrix_rows.table (before_second matrix_rows.table) second_set index refl (λ row other. rw other refl)

  pub first_reserves_none : Reserves [] first_set index → ⊥
  unfolding source_rows SourceReserves CollectedReserves ProtocolReserves
  first_reserves_none =
      let collected = neither (first_inactive history_rows.table refl refl refl refl) (neither (first_inactive matrix_rows.table refl refl refl refl)
      (neither (first_inactive host_rows.table refl refl refl refl) (first_inactive top_control refl refl refl refl))) in
      let protocols = neither first_hl_hosts first_hl_pairs in
      let channels = neither none (first_inactive buffer_rows.table refl refl refl refl) in
      neither none (neither (first_inactive event_table refl refl refl refl) (neither (neither (neither none collected) (neither protocols channels)) none))

  pub second_reserves_none : Reserves first_made second_set index → ⊥
  unfolding source_rows layer_rows SourceReserves CollectedReserves ProtocolReserves
  second_reserves_none =
      let collected = neither (second_inactive history_rows.table refl refl) (neither second_pairs (neither second_hosts (second_inactive top_control refl refl))) in
      let protocols = neither (second_inactive hl_host_rows.table refl refl) (second_inactive hl_matrix_rows.table refl refl) in
      let channels = neither none (second_inactive buffer_rows.table refl refl) in
      neither none (neither (second_inactive event_table refl refl) (neither (neither (neither none collected) (neither protocols channels)) none))
