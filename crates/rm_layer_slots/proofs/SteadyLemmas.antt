-- Frames and samples turn no protocol.
use Rattle.std.proofs.Common.{◌≡◌, ℕ, ◌+◌, Bool, true, false, cond, not, ◌&&◌, List, [], ◌∷◌, nat_eq, Option, Some, None, refl, ap, ◌∙◌}
use Rattle.std.specs.Prelude.{if◌then◌else◌}
use Rattle.std.specs.List.{list_any}
use Rattle.std.specs.Option.{option_map_or}
use Rattle.rm_model.specs.Journal.{Act, Journal, passes, assigns, samples}
use Rattle.rm_model.specs.ControlRows.{is_absent, is_valid}
use Rattle.rm_columns.specs.Values.{natural_in}
use Rattle.rm_status.proofs.RowsAfterLemmas.{state_sampled}
use Rattle.rm_path.specs.declared.identifier.ProtocolIdentifier.{ProtocolIdentifier}
use Rattle.rm_path.specs.declared.identifier.ProtocolIdentifier.TheVariants.{Ether}
use Rattle.rm_path.specs.declared.protocol.Protocol.{Protocol}
use Rattle.rm_path.specs.Identifier.{number_of}
use Rattle.rm_dir.specs.Active.{active_protocol, is_on as is_set_on}
use Rattle.rm_dir.specs.DirectoryIndex.{index_with, may_have_row, protocol_of}
use Rattle.rm_dir.specs.ProtocolDir.{protocol_dir, directory_beginning, directory_state, directory_value}
use Rattle.rm_dir.specs.LocalIndexes.{makes, count_made_below, greatest_given, local_index}
use Rattle.rm_layer_events.specs.Side.{IsSteady}
use Rattle.rm_layer_slots.specs.declared.slots.TableKind.{TableKind}
use Rattle.rm_layer_slots.specs.On.{counts, local_on, with_local, locals_among, protocols_named, is_on, is_ip_on}

module _ (act : Act) (journal : Journal)
    (states : (index : List ℕ) → directory_state (act ∷ journal) index ≡ directory_state journal index)
    (values : (index : List ℕ) (column : ℕ) → directory_value (act ∷ journal) index column ≡ directory_value journal index column) where
  none_made : (index : List ℕ) → makes act journal index ≡ false
  none_made index = ap (λ s. is_absent (directory_state journal index) && not (is_absent s)) (states index) ∙ and_not (is_absent (directory_state journal index))
    where
      and_not : (b : Bool) → (b && not b) ≡ false
      and_not true = refl
      and_not false = refl

  same_local : (index : List ℕ) → local_index (act ∷ journal) index ≡ local_index journal index
  same_local index =
      ap (λ b. cond b (greatest_given journal + 1 + count_made_below act journal (option_map_or number_of (protocol_of index) 0)) (local_index journal index)) (none_made index)

  same_set : (index : List ℕ) (column : ℕ) → is_set_on (act ∷ journal) index column ≡ is_set_on journal index column
  same_set index column = ap (λ v. nat_eq (natural_in v) 3) (values index column)

  abbrev known : ProtocolIdentifier → Bool → ℕ → Bool → Bool → Option Protocol
  known identifier active local host matrix = if active then Some (record { identifier = identifier; local = local; host = host; matrix = matrix }) else None

  same_active : (identifier : ProtocolIdentifier) → active_protocol (act ∷ journal) identifier ≡ active_protocol journal identifier
  same_active identifier =
      let index : List ℕ = index_with identifier in
      ap (λ s. known identifier (may_have_row identifier && is_valid s) (local_index (act ∷ journal) index) (is_set_on (act ∷ journal) index 7) (is_set_on (act ∷ journal) index 8)) (states index)
      ∙ ap (λ n. known identifier (may_have_row identifier && is_valid (directory_state journal index)) n (is_set_on (act ∷ journal) index 7) (is_set_on (act ∷ journal) index 8)) (same_local index)
      ∙ ap (λ b. known identifier (may_have_row identifier && is_valid (directory_state journal index)) (local_index journal index) b (is_set_on (act ∷ journal) index 8)) (same_set index 7)
      ∙ ap (λ b. known identifier (may_have_row identifier && is_valid (directory_state journal index)) (local_index journal index) (is_set_on journal index 7) b) (same_set index 8)

  module _ (kind : TableKind) where
    same_among : (identifiers : List ProtocolIdentifier) → locals_among kind (act ∷ journal) identifiers ≡ locals_among kind journal identifiers
    same_among [] = refl
    same_among (identifier ∷ more) =
        ap (λ o. with_local (local_on kind o) (locals_among kind (act ∷ journal) more)) (same_active identifier)
        ∙ ap (with_local (local_on kind (active_protocol journal identifier))) (same_among more)

    pub same_on : protocols_named (act ∷ journal) ≡ protocols_named journal → (local : ℕ) → is_on kind local (act ∷ journal) ≡ is_on kind local journal
    same_on named local = ap (λ identifiers. list_any (nat_eq local) (locals_among kind (act ∷ journal) identifiers)) named ∙ ap (list_any (nat_eq local)) (same_among (protocols_named journal))

    pub same_ip_on : is_ip_on kind (act ∷ journal) ≡ is_ip_on kind journal
    same_ip_on = ap (λ o. option_map_or (counts kind) o false) (same_active (Ether 0x0800))

pub on_steady : (kind : TableKind) (local : ℕ) (act : Act) (earlier : Journal) → IsSteady act → is_on kind local (act ∷ earlier) ≡ is_on kind local earlier
unfolding protocols_named
on_steady kind local (passes frame) earlier is = same_on (passes frame) earlier (λ index. refl) (λ index column. refl) kind refl local
on_steady kind local (assigns moment values) earlier is = absurd is
on_steady kind local (samples moment alarm reading) earlier is =
    same_on (samples moment alarm reading) earlier (state_sampled protocol_dir directory_beginning refl earlier moment alarm reading) (λ index column. refl) kind refl local

pub ip_steady : (kind : TableKind) (act : Act) (earlier : Journal) → IsSteady act → is_ip_on kind (act ∷ earlier) ≡ is_ip_on kind earlier
ip_steady kind (passes frame) earlier is = same_ip_on (passes frame) earlier (λ index. refl) (λ index column. refl) kind
ip_steady kind (assigns moment values) earlier is = absurd is
ip_steady kind (samples moment alarm reading) earlier is =
    same_ip_on (samples moment alarm reading) earlier (state_sampled protocol_dir directory_beginning refl earlier moment alarm reading) (λ index column. refl) kind
