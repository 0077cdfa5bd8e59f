-- The protocols of the rows that are held are those that are active.
use Rattle.std.proofs.Common.{◌≡◌, ℕ, List, Bool, true, false, cond, ◌&&◌, nat_eq, Option, Some, None, is_some, option_map, refl, sym, ap, ◌∙◌}
use Rattle.std.specs.Prelude.{option_and_then}
use Rattle.std.proofs.lemmas.Option.{none-some, same_Some}
use Rattle.rm_proto.specs.declared.known.Facts.{Facts}
use Rattle.rm_path.specs.Layers.{path_of}
use Rattle.rm_path.specs.Slots.{protocol_in, is_active}
use Rattle.rm_path.proofs.SlotLemmas.{some_slot}
use Rattle.rm_dir.specs.Paths.{AreActiveAfter, AreOfRows, DoStay, KeepSlots, is_active_after, path_after}
use Rattle.rm_model.specs.Journal.{Journal}
use Rattle.rm_model.specs.ControlRows.{is_absent, is_valid}
use Rattle.rm_model.specs.declared.row.State.{State}
use Rattle.rm_model.specs.declared.row.State.TheVariants.{Absent, UnderCreation, Valid}
use Rattle.rm_status.specs.declared.row.Row.{Row}
use Rattle.rm_status.specs.Rows.{row_in, state_in, state_seen}
use Rattle.rm_status.specs.RowsAfter.{AreRowsAfter}
use Rattle.rm_status.proofs.RowsBefore.{state_before}
use Rattle.rm_path.specs.declared.identifier.ProtocolIdentifier.{ProtocolIdentifier}
use Rattle.rm_path.specs.declared.protocol.Protocol.{Protocol}
use Rattle.rm_path.specs.Identifier.{number_of}
use Rattle.rm_dir.specs.declared.row.DirectoryRow.{DirectoryRow}
use Rattle.rm_dir.specs.Active.{active_protocol, held_protocol, protocol_kept, is_on}
use Rattle.rm_dir.specs.DirectoryIndex.{directory_index, index_with, may_have_row, of_number, row_of}
use Rattle.rm_dir.specs.DirectoryRows.{set_to}
use Rattle.rm_dir.specs.Group.{AreLocal}
use Rattle.rm_dir.specs.LocalIndexes.{local_index}
use Rattle.rm_dir.specs.ProtocolDir.{protocol_dir, directory_beginning, directory_state}
use Rattle.rm_dir.specs.Support.{support_number}
use Rattle.rm_dir.proofs.SetRows.{host_is, matrix_is}

module _ (rows : List (Row DirectoryRow)) (journal : Journal) (is : AreRowsAfter protocol_dir directory_beginning set_to rows journal) (locals : AreLocal rows journal)
    (identifier : ProtocolIdentifier) (may : may_have_row identifier ≡ true) where
  abbrev number : ℕ
  number = number_of identifier

  abbrev index : List ℕ
  index = index_with identifier

  index_is : directory_index number ≡ index
  index_is = rw (row_of identifier may, of_number identifier may) refl

  state_is : state_in rows number ≡ directory_state journal index
  state_is = sym (state_before protocol_dir set_to rows number) ∙ is.alike.states number ∙ ap (directory_state journal) index_is

  -- what is known of it, by whether its row is valid
  abbrev known : Bool → ℕ → Bool → Bool → Option Protocol
  known valid local host matrix = cond valid (Some (record { identifier = identifier; local = local; host = host; matrix = matrix })) None

  active_is : active_protocol journal identifier ≡ known (is_valid (state_in rows number)) (local_index journal index) (is_on journal index 7) (is_on journal index 8)
  active_is =
      ap (λ b. known (b && is_valid (directory_state journal index)) (local_index journal index) (is_on journal index 7) (is_on journal index 8)) may
      ∙ ap (λ s. known (is_valid s) (local_index journal index) (is_on journal index 7) (is_on journal index 8)) (sym state_is)

  -- it has no row
  pub none_active : row_in rows number ≡ None → None ≡ active_protocol journal identifier
  none_active none = sym (active_is ∙ ap (λ o. known (is_valid (state_seen o)) (local_index journal index) (is_on journal index 7) (is_on journal index 8)) none)

  -- it has one
  pub row_active : (row : Row DirectoryRow) → row_in rows number ≡ Some row → protocol_kept identifier row.state row.columns ≡ active_protocol journal identifier
  row_active row here = by_state row.state refl ∙ sym (active_is ∙ ap (λ o. known (is_valid (state_seen o)) (local_index journal index) (is_on journal index 7) (is_on journal index 8)) here)
    where
      by_state : (state : State) → row.state ≡ state
          → known (is_valid state) row.columns.local (nat_eq (support_number row.columns.host) 3) (nat_eq (support_number row.columns.matrix) 3)
          ≡ known (is_valid state) (local_index journal index) (is_on journal index 7) (is_on journal index 8)
      by_state Absent e = refl
      by_state UnderCreation e = refl
      by_state Valid e =
          let there : is_absent row.state ≡ false = ap is_absent e in
          ap (λ n. known true n (nat_eq (support_number row.columns.host) 3) (nat_eq (support_number row.columns.matrix) 3)) (locals number row here ∙ ap (local_index journal) index_is)
          ∙ ap (λ n. known true (local_index journal index) (nat_eq n 3) (nat_eq (support_number row.columns.matrix) 3)) (host_is rows journal is number row here there)
          ∙ ap (λ n. known true (local_index journal index) (is_on journal (directory_index number) 7) (nat_eq n 3)) (matrix_is rows journal is number row here there)
          ∙ ap (λ (at : List ℕ). known true (local_index journal index) (is_on journal at 7) (is_on journal at 8)) index_is

-- what is known of a protocol by the rows that are held is what the journal gives
module _ (rows : List (Row DirectoryRow)) (journal : Journal) (is : AreRowsAfter protocol_dir directory_beginning set_to rows journal) (locals : AreLocal rows journal) where
  pub held_is_active : (identifier : ProtocolIdentifier) → held_protocol rows identifier ≡ active_protocol journal identifier
  held_is_active identifier = by_may (may_have_row identifier) refl
    where
      by_may : (t : Bool) → may_have_row identifier ≡ t → cond t (option_and_then (λ row. protocol_kept identifier row.state row.columns) (row_in rows (number_of identifier))) None ≡ active_protocol journal identifier
      by_may false e = rw e refl
      by_may true e = by_row (row_in rows (number_of identifier)) refl
        where
          by_row : (o : Option (Row DirectoryRow)) → row_in rows (number_of identifier) ≡ o → option_and_then (λ row. protocol_kept identifier row.state row.columns) o ≡ active_protocol journal identifier
          by_row None none = none_active rows journal is locals identifier e none
          by_row (Some row) here = row_active rows journal is locals identifier e row here

  -- so protocols that stay active keep their slots
  pub slots_kept : (before after : List (Option Protocol)) → DoStay rows before after → KeepSlots journal before after
  slots_kept before after stay slot identifier here active = stay slot identifier here (ap is_some (held_is_active identifier) ∙ active)

  -- and the slots are those of the protocols that are active
  module _ (slots : List (Option Protocol)) (of_rows : AreOfRows rows slots) where
    each_active : (identifier : ProtocolIdentifier) → is_active slots identifier ≡ is_active_after journal identifier
    each_active identifier = by_held (held_protocol rows identifier) refl ∙ ap is_some (held_is_active identifier)
      where
        by_held : (held : Option Protocol) → held_protocol rows identifier ≡ held → is_active slots identifier ≡ is_some held
        by_held (Some protocol) e = of_rows.each identifier protocol e
        by_held None e = by_test (is_active slots identifier) refl
          where
            in_slot : (held : Option Protocol) (slot : ℕ) → protocol_in slots slot ≡ held → option_map (λ one. one.identifier) held ≡ Some identifier → ⊥
            in_slot None slot f named = none-some identifier named
            in_slot (Some protocol) slot f named = none-some protocol (sym e ∙ ap (held_protocol rows) (sym (same_Some _ _ named)) ∙ of_rows.known slot protocol f)

            by_test : (t : Bool) → is_active slots identifier ≡ t → is_active slots identifier ≡ false
            by_test false f = f
            by_test true f = let it = some_slot slots identifier f in absurd (in_slot (protocol_in slots it.0) it.0 refl it.1)

    pub are_active : AreActiveAfter journal slots
    are_active = record {
      known = λ slot protocol here. sym (held_is_active protocol.identifier) ∙ of_rows.known slot protocol here;
      each = each_active;
    }

    -- and the path by them is that by the protocols that are active
    pub path_is : (facts : Facts) → path_of (is_active slots) facts ≡ path_after journal facts
    path_is facts = ap (λ test. path_of test facts) (λ d identifier. each_active identifier d)
