-- The slots of protocols.
use Rattle.std.specs.Prelude.{◌≡◌, ℕ, ◌<◌, List, length, Bool, true, false, find, option_map, Option, Some, None, slice_index_or, is_some, count_by}
use Rattle.std.specs.List.{list_any}
use Rattle.rm_path.specs.declared.entry.Entry.{Entry}
use Rattle.rm_path.specs.declared.identifier.ProtocolIdentifier.{ProtocolIdentifier}
use Rattle.rm_path.specs.declared.protocol.Protocol.{Protocol}
use Rattle.rm_path.specs.Identifier.{number_of, IsInRange, is_same}
use Rattle.rm_path.specs.Order.{slot_with, AreRising}

-- the protocol in a slot, if there is one
abbrev pub protocol_in : List (Option Protocol) → ℕ → Option Protocol
protocol_in slots slot = slice_index_or slots slot None

-- what the protocol in a slot is
abbrev pub identifier_in : List (Option Protocol) → ℕ → Option ProtocolIdentifier
identifier_in slots slot = option_map (λ protocol. protocol.identifier) (protocol_in slots slot)

-- The entries are those of the slots: their numbers rise, each leads to a slot with the protocol of its number, and each protocol
-- that is in a slot has an entry that leads there.
pub record AreOfSlots (slots : List (Option Protocol)) (entries : List Entry) : Type 0 where
  pub all_slots : length slots ≡ 32
  pub counted : length entries ≡ count_by is_some slots
  pub rising : AreRising entries
  pub lead : (number slot : ℕ) → slot_with entries number ≡ Some slot → option_map number_of (identifier_in slots slot) ≡ Some number
  pub in_range : (slot : ℕ) (identifier : ProtocolIdentifier) → identifier_in slots slot ≡ Some identifier → IsInRange identifier
  pub listed : (slot : ℕ) (identifier : ProtocolIdentifier) → identifier_in slots slot ≡ Some identifier → slot_with entries (number_of identifier) ≡ Some slot

-- whether the protocol in a slot is that one
abbrev pub is_of : ProtocolIdentifier → Option Protocol → Bool
is_of identifier None = false
is_of identifier (Some protocol) = is_same protocol.identifier identifier

-- whether a protocol is in some slot
abbrev pub is_active : List (Option Protocol) → ProtocolIdentifier → Bool
is_active slots identifier = list_any (is_of identifier) slots

-- a slot has the protocol, or there is neither
abbrev pub IsSlotOf : List (Option Protocol) → Option ProtocolIdentifier → Option ℕ → Type 0
IsSlotOf slots None None = Unit {0}
IsSlotOf slots None (Some slot) = ⊥
IsSlotOf slots (Some identifier) None = ⊥
IsSlotOf slots (Some identifier) (Some slot) = (slot < 32) × (identifier_in slots slot ≡ Some identifier)

-- a slot has the first of some protocols that is active, or none of them is active
abbrev pub IsSlotOfFirst : List (Option Protocol) → List ProtocolIdentifier → Option ℕ → Type 0
IsSlotOfFirst slots layer slot = IsSlotOf slots (find (is_active slots) layer) slot

-- each slot has a protocol
abbrev pub AreFull : List (Option Protocol) → Type 0
AreFull slots = (slot : ℕ) → slot < 32 → is_some (protocol_in slots slot) ≡ true

-- the numbers of the protocols in two slots are two
abbrev pub AreApart : List (Option Protocol) → Type 0
AreApart slots =
    (slot other : ℕ) (one another : ProtocolIdentifier) → identifier_in slots slot ≡ Some one → identifier_in slots other ≡ Some another
    → number_of one ≡ number_of another → slot ≡ other

-- there are 32 slots, and no protocol is in two of them
pub record HaveSlots (slots : List (Option Protocol)) : Type 0 where
  pub count : length slots ≡ 32
  pub apart : AreApart slots
