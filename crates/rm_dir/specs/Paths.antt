-- The path of a frame by the protocols that are active, and the slots that these have.
use Rattle.std.specs.Prelude.{◌≡◌, ℕ, List, Bool, true, is_some, Option, Some}
use Rattle.rm_model.specs.Journal.{Journal}
use Rattle.rm_proto.specs.declared.known.Facts.{Facts}
use Rattle.rm_path.specs.declared.identifier.ProtocolIdentifier.{ProtocolIdentifier}
use Rattle.rm_path.specs.declared.protocol.Protocol.{Protocol}
use Rattle.rm_path.specs.Layers.{path_of}
use Rattle.rm_path.specs.Slots.{protocol_in, identifier_in, is_active}
use Rattle.rm_status.specs.declared.row.Row.{Row}
use Rattle.rm_dir.specs.declared.row.DirectoryRow.{DirectoryRow}
use Rattle.rm_dir.specs.Active.{active_protocol, held_protocol}

-- whether a protocol is active after a journal
abbrev pub is_active_after : Journal → ProtocolIdentifier → Bool
is_active_after journal identifier = is_some (active_protocol journal identifier)

-- the path of a frame by the protocols that are active after a journal
abbrev pub path_after : Journal → Facts → List ProtocolIdentifier
path_after journal facts = path_of (is_active_after journal) facts

-- what is in slots is what is known after a journal of the protocols that are active, and each of these has a slot
pub record AreActiveAfter (journal : Journal) (slots : List (Option Protocol)) : Type 0 where
  pub known : (slot : ℕ) (protocol : Protocol) → protocol_in slots slot ≡ Some protocol → active_protocol journal protocol.identifier ≡ Some protocol
  pub each : (identifier : ProtocolIdentifier) → is_active slots identifier ≡ is_active_after journal identifier

-- the same by the rows that are held
abbrev pub AreKnown : List (Row DirectoryRow) → List (Option Protocol) → Type 0
AreKnown rows slots = (slot : ℕ) (protocol : Protocol) → protocol_in slots slot ≡ Some protocol → held_protocol rows protocol.identifier ≡ Some protocol

pub record AreOfRows (rows : List (Row DirectoryRow)) (slots : List (Option Protocol)) : Type 0 where
  pub known : AreKnown rows slots
  pub each : (identifier : ProtocolIdentifier) (protocol : Protocol) → held_protocol rows identifier ≡ Some protocol → is_active slots identifier ≡ true

-- a protocol that is active after a journal then has the slot that it had
abbrev pub KeepSlots : Journal → (before after : List (Option Protocol)) → Type 0
KeepSlots journal before after =
    (slot : ℕ) (identifier : ProtocolIdentifier) → identifier_in before slot ≡ Some identifier → is_active_after journal identifier ≡ true → identifier_in after slot ≡ Some identifier

-- the same by the rows that are held
abbrev pub DoStay : List (Row DirectoryRow) → (before after : List (Option Protocol)) → Type 0
DoStay rows before after =
    (slot : ℕ) (identifier : ProtocolIdentifier) → identifier_in before slot ≡ Some identifier → is_some (held_protocol rows identifier) ≡ true
    → identifier_in after slot ≡ Some identifier
