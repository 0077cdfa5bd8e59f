-- Protocols that are on have slots of their own.
use Rattle.std.proofs.Common.{◌≡◌, ℕ, suc, true, List, [], ◌∷◌, Option, Some, None, refl, ap, arith, subst, inl, inr}
use Rattle.std.specs.Option.{option_map}
use Rattle.std.proofs.lemmas.Bool.{cases_Bool}
use Rattle.rm_model.specs.Journal.{Journal}
use Rattle.rm_path.specs.declared.identifier.ProtocolIdentifier.{ProtocolIdentifier}
use Rattle.rm_path.specs.declared.protocol.Protocol.{Protocol}
use Rattle.rm_path.specs.Identifier.{number_of}
use Rattle.rm_path.specs.Slots.{protocol_in, identifier_in}
use Rattle.rm_dir.specs.Active.{active_protocol}
use Rattle.rm_dir.proofs.LocalLaws.{own_locals}
use Rattle.rm_layers.specs.Applications.{has_slot, AreApart}
use Rattle.rm_layer_slots.specs.declared.slots.TableKind.{TableKind}
use Rattle.rm_layer_slots.specs.On.{is_counted, local_on, slots_on}
use Rattle.rm_layer_slots.proofs.OnLemmas.{from_slots}

named : (slots : List (Option Protocol)) (slot : ℕ) (protocol : Protocol) → protocol_in slots slot ≡ Some protocol → identifier_in slots slot ≡ Some protocol.identifier
named slots slot protocol here = ap (option_map (λ (p : Protocol). p.identifier)) here

module _ (kind : TableKind) (journal : Journal) where
  -- each of some slots has what is known of its protocol
  abbrev AreKnown : List (Option Protocol) → Type 0
  AreKnown slots = (slot : ℕ) (protocol : Protocol) → protocol_in slots slot ≡ Some protocol → active_protocol journal protocol.identifier ≡ Some protocol

  abbrev AreLater : List (Option Protocol) → Type 0
  AreLater slots = (slot other : ℕ) (one another : ProtocolIdentifier) → identifier_in slots slot ≡ Some one → identifier_in slots other ≡ Some another → number_of one ≡ number_of another → slot ≡ other

  not_again : (protocol : Protocol) (slots : List (Option Protocol)) → AreKnown (Some protocol ∷ slots) → AreLater (Some protocol ∷ slots) → has_slot protocol.local (slots_on kind slots) ≡ true → ⊥
  not_again protocol slots known later i =
      let has = from_slots kind slots protocol.local i in
      let same : protocol.identifier ≡ has.protocol.identifier = own_locals journal protocol.identifier has.protocol.identifier protocol has.protocol (known 0 protocol refl) (known (suc has.slot) has.protocol has.here) has.local_is in
      let places : 0 ≡ suc has.slot = later 0 (suc has.slot) protocol.identifier has.protocol.identifier refl (named slots has.slot has.protocol has.here) (ap number_of same) in
      absurd (omega (arith, places))

  pub apart_on : (slots : List (Option Protocol)) → AreKnown slots → AreLater slots → AreApart (slots_on kind slots)
  apart_on [] known later = tt
  apart_on (first ∷ slots) known later = by_first first refl
      (apart_on slots (λ slot protocol here. known (suc slot) protocol here) (λ slot other one another here there same. let places : suc slot ≡ suc other = later (suc slot) (suc other) one another here there same in omega (arith, places)))
    where
      by_first : (o : Option Protocol) → first ≡ o → AreApart (slots_on kind slots) → AreApart (local_on kind o ∷ slots_on kind slots)
      by_first None e rest = rest
      by_first (Some protocol) e rest = elim (cases_Bool (is_counted kind protocol)) [
        | inr off ↦ rw off rest
        | inl on ↦ rw on (
          elim (cases_Bool (has_slot protocol.local (slots_on kind slots))) [
            | inl i ↦ absurd (not_again protocol slots (subst (λ o. AreKnown (o ∷ slots)) e known) (subst (λ o. AreLater (o ∷ slots)) e later) i)
            | inr o ↦ o
          ],
          rest,
        )
      ]
