-- What slots have, and what their index says.
use Rattle.std.proofs.Common.{◌≡◌, ℕ, zero, suc, List, [], ◌∷◌, Bool, true, false, ◌&&◌, ◌||◌, Option, Some, None, option_map, refl, ap}
use Rattle.rm_path.specs.declared.identifier.ProtocolIdentifier.{ProtocolIdentifier}
use Rattle.rm_path.specs.declared.protocol.Protocol.{Protocol}
use Rattle.rm_path.specs.Slots.{protocol_in, identifier_in, is_of, is_active}
use Rattle.rm_path.proofs.Identifiers.{same_is, is_itself}

of_it : (held : Option Protocol) (identifier : ProtocolIdentifier) → option_map (λ protocol. protocol.identifier) held ≡ Some identifier → is_of identifier held ≡ true
of_it None identifier is = absurd (cc)
of_it (Some protocol) identifier is = let same : protocol.identifier ≡ identifier = cc in rw same (is_itself identifier)

both : (a b : Bool) → (a && b) ≡ true → (a ≡ true) × (b ≡ true)
both true b is = (refl, is)
both false b is = absurd (cc)

-- a protocol that is in a slot is active
pub active_in : (slots : List (Option Protocol)) (slot : ℕ) (identifier : ProtocolIdentifier) → identifier_in slots slot ≡ Some identifier → is_active slots identifier ≡ true
active_in [] slot identifier is = absurd (cc)
active_in (first ∷ slots) zero identifier is = rw (of_it first identifier is) refl
active_in (first ∷ slots) (suc slot) identifier is = let more = active_in slots slot identifier is in or_true (is_of identifier first) _ more
  where
    or_true : (a b : Bool) → b ≡ true → (a || b) ≡ true
    or_true true b is = refl
    or_true false b is = is

in_it : (held : Option Protocol) (identifier : ProtocolIdentifier) → is_of identifier held ≡ true → option_map (λ protocol. protocol.identifier) held ≡ Some identifier
in_it None identifier is = absurd (cc)
in_it (Some protocol) identifier is = ap Some (same_is protocol.identifier identifier is)

-- a protocol that is in no slot isn't
pub inactive : (slots : List (Option Protocol)) (identifier : ProtocolIdentifier) → ((slot : ℕ) → identifier_in slots slot ≡ Some identifier → ⊥) → is_active slots identifier ≡ false
inactive [] identifier none = refl
inactive (first ∷ slots) identifier none =
    rw (not_first (is_of identifier first) refl) (inactive slots identifier (λ slot. none (suc slot)))
  where
    not_first : (b : Bool) → is_of identifier first ≡ b → is_of identifier first ≡ false
    not_first true is = absurd (none 0 (in_it first identifier is))
    not_first false is = is

-- a protocol that is active is in a slot
pub some_slot : (slots : List (Option Protocol)) (identifier : ProtocolIdentifier) → is_active slots identifier ≡ true → (slot : ℕ) × (identifier_in slots slot ≡ Some identifier)
some_slot [] identifier is = absurd (cc)
some_slot (first ∷ slots) identifier is = by_test (is_of identifier first) refl is (some_slot slots identifier)
  where
    by_test : (b : Bool) → is_of identifier first ≡ b → (b || is_active slots identifier) ≡ true
        → (is_active slots identifier ≡ true → (slot : ℕ) × (identifier_in slots slot ≡ Some identifier)) → (slot : ℕ) × (identifier_in (first ∷ slots) slot ≡ Some identifier)
    by_test true here is rest = (0, in_it first identifier here)
    by_test false other is rest = let it = rest is in (suc it.0, it.1)

-- a slot whose protocol is told has one, and it is that
pub in_its_slot : (slots : List (Option Protocol)) (slot : ℕ) (identifier : ProtocolIdentifier) → identifier_in slots slot ≡ Some identifier → (protocol : Protocol) × (protocol_in slots slot ≡ Some protocol) × (protocol.identifier ≡ identifier)
in_its_slot slots slot identifier is = by_held (protocol_in slots slot) refl is
  where
    by_held : (held : Option Protocol) → protocol_in slots slot ≡ held → option_map (λ protocol. protocol.identifier) held ≡ Some identifier → (protocol : Protocol) × (protocol_in slots slot ≡ Some protocol) × (protocol.identifier ≡ identifier)
    by_held None e none = cc
    by_held (Some protocol) e same = (protocol, e, cc)
