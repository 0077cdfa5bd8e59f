-- The protocols that are on, by their slots and by the journal.
use Rattle.std.proofs.Common.{◌≡◌, ℕ, zero, suc, Bool, true, false, ◌||◌, List, [], ◌∷◌, Contains, nat_eq, Option, Some, None, refl, sym, ap, ◌∙◌, arith, inl, inr}
use Rattle.std.specs.List.{list_any}
use Rattle.std.specs.Option.{is_some}
use Rattle.std.proofs.lemmas.Bool.{cases_Bool, true≢false}
use Rattle.std.proofs.lemmas.Bool.Decides.{nat_tests}
use Rattle.rm_model.specs.Journal.{Journal}
use Rattle.rm_model.specs.ControlRows.{is_absent, is_valid}
use Rattle.rm_model.proofs.Members.{each, none_in}
use Rattle.rm_status.proofs.RowFacts.{valid_there}
use Rattle.rm_path.specs.declared.identifier.ProtocolIdentifier.{ProtocolIdentifier}
use Rattle.rm_path.specs.declared.protocol.Protocol.{Protocol}
use Rattle.rm_path.specs.Slots.{protocol_in, is_active}
use Rattle.rm_path.proofs.SlotLemmas.{some_slot, in_its_slot}
use Rattle.rm_dir.specs.Active.{active_protocol}
use Rattle.rm_dir.specs.DirectoryIndex.{index_with, may_have_row}
use Rattle.rm_dir.specs.Paths.{AreActiveAfter}
use Rattle.rm_dir.specs.ProtocolDir.{directory_state}
use Rattle.rm_dir.proofs.LocalLaws.{active_has}
use Rattle.rm_layers.specs.Applications.{is_in, has_slot}
use Rattle.rm_layer_slots.specs.declared.slots.TableKind.{TableKind}
use Rattle.rm_layer_slots.specs.On.{is_counted, local_on, slots_on, with_local, locals_among, protocols_named, is_on}
use Rattle.rm_layer_slots.proofs.NamedLemmas.{is_named}

both_ways : (a b : Bool) → (a ≡ true → b ≡ true) → (b ≡ true → a ≡ true) → a ≡ b
both_ways true b to back = sym (to refl)
both_ways false true to back = back refl
both_ways false false to back = refl

itself : (n : ℕ) → nat_eq n n ≡ true
itself n = grind (arith, nat_tests)

module _ (journal : Journal) where
  -- what is active can have a row
  active_row : (identifier : ProtocolIdentifier) (protocol : Protocol) → active_protocol journal identifier ≡ Some protocol → may_have_row identifier ≡ true
  active_row identifier protocol is = (active_has journal identifier protocol is).0

  -- and has a row
  active_there : (identifier : ProtocolIdentifier) (protocol : Protocol) → active_protocol journal identifier ≡ Some protocol → is_absent (directory_state journal (index_with identifier)) ≡ false
  active_there identifier protocol is = elim (cases_Bool (is_valid (directory_state journal (index_with identifier)))) [
    | inl e ↦ valid_there (directory_state journal (index_with identifier)) e
    | inr e ↦ let none : None ≡ Some protocol = rw (active_row identifier protocol is, e) at is in cc
  ]

  module _ (kind : TableKind) where
    among-with : (local : ℕ) (one : Option ℕ) (locals : List ℕ) → list_any (nat_eq local) locals ≡ true → list_any (nat_eq local) (with_local one locals) ≡ true
    among-with local None locals i = i
    among-with local (Some other) locals i = elim (cases_Bool (nat_eq local other)) [ inl e ↦ rw e refl | inr e ↦ rw e i ]

    -- a protocol that is on is listed among those with it
    listed : (identifiers : List ProtocolIdentifier) (identifier : ProtocolIdentifier) (protocol : Protocol) → Contains identifiers identifier → active_protocol journal identifier ≡ Some protocol → is_counted kind protocol ≡ true
        → list_any (nat_eq protocol.local) (locals_among kind journal identifiers) ≡ true
    listed [] identifier protocol within is on = absurd (none_in identifier within)
    listed (first ∷ more) identifier protocol within is on =
        each (λ (x : ProtocolIdentifier). active_protocol journal x ≡ Some protocol → list_any (nat_eq protocol.local) (with_local (local_on kind (active_protocol journal first)) (locals_among kind journal more)) ≡ true) first more
        (λ active. rw (active, on, itself protocol.local) refl)
        (λ x rest active. among-with protocol.local (local_on kind (active_protocol journal first)) (locals_among kind journal more) (listed more x protocol rest active on)) identifier within is

    pub record IsListed (local : ℕ) : Type 0 where
      pub identifier : ProtocolIdentifier
      pub protocol : Protocol
      pub active : active_protocol journal identifier ≡ Some protocol
      pub counted : is_counted kind protocol ≡ true
      pub local_is : local ≡ protocol.local

    here_or_later : (local : ℕ) (identifier : ProtocolIdentifier) (one : Option Protocol) (locals : List ℕ) → active_protocol journal identifier ≡ one
        → list_any (nat_eq local) (with_local (local_on kind one) locals) ≡ true → (list_any (nat_eq local) locals ≡ true → IsListed local) → IsListed local
    here_or_later local identifier None locals is i later = later i
    here_or_later local identifier (Some protocol) locals is i later = elim (cases_Bool (is_counted kind protocol)) [
      | inl on ↦ elim (cases_Bool (nat_eq local protocol.local)) [
        | inl e ↦ record { identifier = identifier; protocol = protocol; active = is; counted = on; local_is = grind (arith, nat_tests, e) }
        | inr e ↦ later (rw (on, e) at i)
      ]
      | inr off ↦ later (rw off at i)
    ]

    -- and what is listed is one that is on
    from_all : (identifiers : List ProtocolIdentifier) (local : ℕ) → list_any (nat_eq local) (locals_among kind journal identifiers) ≡ true → IsListed local
    from_all [] local i = absurd (true≢false (sym i))
    from_all (first ∷ more) local i = here_or_later local first (active_protocol journal first) (locals_among kind journal more) refl i (λ rest. from_all more local rest)

    pub from_list : (local : ℕ) → is_on kind local journal ≡ true → IsListed local
    from_list local i = from_all (protocols_named journal) local i

-- so what is known of a protocol that is counted is that it is on
pub on_known : (journal : Journal) (kind : TableKind) (protocol : Protocol) → active_protocol journal protocol.identifier ≡ Some protocol → is_counted kind protocol ≡ true → is_on kind protocol.local journal ≡ true
on_known journal kind protocol known on =
    let may = active_row journal protocol.identifier protocol known in
    listed journal kind (protocols_named journal) protocol.identifier protocol (is_named protocol.identifier may journal (active_there journal protocol.identifier protocol known)) known on

module _ (kind : TableKind) where
  pub record HasInSlot (slots : List (Option Protocol)) (local : ℕ) : Type 0 where
    pub slot : ℕ
    pub protocol : Protocol
    pub here : protocol_in slots slot ≡ Some protocol
    pub counted : is_counted kind protocol ≡ true
    pub local_is : local ≡ protocol.local

  pub from_slots : (slots : List (Option Protocol)) (local : ℕ) → has_slot local (slots_on kind slots) ≡ true → HasInSlot slots local
  from_slots [] local i = absurd (true≢false (sym i))
  from_slots (None ∷ slots) local i = let more = from_slots slots local i in record { slot = suc more.slot; protocol = more.protocol; here = more.here; counted = more.counted; local_is = more.local_is }
  from_slots (Some protocol ∷ slots) local i = elim (cases_Bool (is_counted kind protocol)) [
    | inl on ↦ elim (cases_Bool (nat_eq local protocol.local)) [
      | inl e ↦ record { slot = 0; protocol = protocol; here = refl; counted = on; local_is = grind (arith, nat_tests, e) }
      | inr e ↦ let more = from_slots slots local (rw (on, e) at i) in record { slot = suc more.slot; protocol = more.protocol; here = more.here; counted = more.counted; local_is = more.local_is }
    ]
    | inr off ↦ let more = from_slots slots local (rw off at i) in record { slot = suc more.slot; protocol = more.protocol; here = more.here; counted = more.counted; local_is = more.local_is }
  ]

  pub to_slots : (slots : List (Option Protocol)) (slot : ℕ) (protocol : Protocol) → protocol_in slots slot ≡ Some protocol → is_counted kind protocol ≡ true → has_slot protocol.local (slots_on kind slots) ≡ true
  to_slots [] slot protocol here on = cc
  to_slots (first ∷ slots) zero protocol here on = let same : first ≡ Some protocol = here in rw (same, on, itself protocol.local) refl
  to_slots (first ∷ slots) (suc slot) protocol here on = later (is_in protocol.local (local_on kind first)) (to_slots slots slot protocol here on)
    where
      later : {b : Bool} (a : Bool) → b ≡ true → (a || b) ≡ true
      later true e = refl
      later false e = e

  pub tuned_after : (journal : Journal) (slots : List (Option Protocol)) → AreActiveAfter journal slots → (local : ℕ) → has_slot local (slots_on kind slots) ≡ is_on kind local journal
  tuned_after journal slots active local = both_ways (has_slot local (slots_on kind slots)) (is_on kind local journal) to back
    where
      to : has_slot local (slots_on kind slots) ≡ true → is_on kind local journal ≡ true
      to i =
          let has = from_slots slots local i in
          let known = active.known has.slot has.protocol has.here in
          ap (λ n. is_on kind n journal) has.local_is
          ∙ on_known journal kind has.protocol known has.counted

      back : is_on kind local journal ≡ true → has_slot local (slots_on kind slots) ≡ true
      back i =
          let from = from_list journal kind local i in
          let some : is_active slots from.identifier ≡ true = active.each from.identifier ∙ ap is_some from.active in
          let slot = some_slot slots from.identifier some in
          let there = in_its_slot slots slot.0 from.identifier slot.1 in
          let known : active_protocol journal there.0.identifier ≡ Some there.0 = active.known slot.0 there.0 there.1 in
          let both : Some there.0 ≡ Some from.protocol = sym known ∙ ap (active_protocol journal) there.2 ∙ from.active in
          let same : there.0 ≡ from.protocol = cc in
          ap (λ n. has_slot n (slots_on kind slots)) (from.local_is ∙ ap (λ (p : Protocol). p.local) (sym same))
          ∙ to_slots slots slot.0 there.0 there.1 (ap (is_counted kind) same ∙ from.counted)
