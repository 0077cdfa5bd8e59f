-- Messages that are being written.
use Rattle.std.specs.Prelude.{◌≤◌, ℕ, ℤ, FitsSigned, List, [], ◌∷◌, ◌++◌, length, flat_map, All}
use Rattle.std.specs.Int.{w32}
use Rattle.rm_val.specs.Val.{Val, name}
use Rattle.rm_val.specs.Spellable.{IsSpellable, HasSpelling}
use Rattle.rm_ber.specs.Canonical.{IsInRange}
use Rattle.rm_pdu.specs.declared.kind.Kind.{Kind}
use Rattle.rm_pdu.specs.Message.{Binding, Message, binding_octets, message_octets}

-- what a draft shows; `list` has the canonical octets of its bindings, one after the other
pub record Drafted : Type 0 where
  pub community : List ℕ
  pub kind : Kind
  pub id : ℤ
  pub first : ℤ
  pub second : ℤ
  pub list : List ℕ

-- the draft of a message
unfoldable pub drafted : Message → Drafted
drafted m = record {
  community = m.community;
  kind = m.kind;
  id = m.id;
  first = m.first;
  second = m.second;
  list = flat_map binding_octets m.bindings;
}

-- a binding
abbrev pub binding_of : List ℕ → Val → Binding
binding_of numbers v = record { name = numbers; value = v }

-- a message with no bindings
abbrev pub empty_message : List ℕ → Kind → ℤ → ℤ → ℤ → Message
empty_message community kind id first second =
    record { community = community; kind = kind; id = id; first = first; second = second; bindings = [] }

-- the message with one more binding, behind the others
abbrev pub and_binding : Message → List ℕ → Val → Message
and_binding m numbers v = record m { bindings = m.bindings ++ binding_of numbers v ∷ [] }

-- the message with this error-status and this error-index in place of its own
abbrev pub retold : Message → ℤ → ℤ → Message
retold m first second = record m { first = first; second = second }

-- the name and the value of a binding have a spelling, and their numbers are in the ranges of their types
pub record IsWritableBinding (binding : Binding) : Type 0 where
  pub spellable : IsSpellable binding.name
  pub name_in_range : IsInRange (name binding.name)
  pub spelling : HasSpelling binding.value
  pub value_in_range : IsInRange binding.value

-- the numbers of a message have 32 bits, each binding has a spelling, and four octets count its octets
pub record IsWritable (m : Message) : Type 0 where
  pub id : FitsSigned w32 m.id
  pub first : FitsSigned w32 m.first
  pub second : FitsSigned w32 m.second
  pub bindings : All IsWritableBinding m.bindings
  pub short : length (message_octets m) ≤ 4294967295
