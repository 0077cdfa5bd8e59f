-- A message of SNMPv2c (RFC 1901, section 3; RFC 1905, section 3), and its canonical octets.
use Rattle.std.specs.Prelude.{ℕ, ℤ, pos, List, ◌++◌, flat_map}
use Rattle.rm_val.specs.Val.{Val, int, octets, name}
use Rattle.rm_ber.specs.Element.{element, value_element}
use Rattle.rm_pdu.specs.declared.kind.Kind.{Kind}
use Rattle.rm_pdu.specs.declared.kind.Kind.TheVariants.{Get, Next, Response, Set, Bulk, Inform, Trap, Report}

-- the tag of a PDU
abbrev pub kind_tag : Kind → ℕ
kind_tag Get = 0xa0
kind_tag Next = 0xa1
kind_tag Response = 0xa2
kind_tag Set = 0xa3
kind_tag Bulk = 0xa5
kind_tag Inform = 0xa6
kind_tag Trap = 0xa7
kind_tag Report = 0xa8

-- a name, and its value
pub record Binding : Type 0 where
  pub name : List ℕ
  pub value : Val

-- `first` and `second` are the error status and the error index, in a GetBulkRequest the non-repeaters and the
-- max-repetitions
pub record Message : Type 0 where
  pub community : List ℕ
  pub kind : Kind
  pub id : ℤ
  pub first : ℤ
  pub second : ℤ
  pub bindings : List Binding

-- the canonical octets of a binding
abbrev pub binding_octets : Binding → List ℕ
binding_octets binding = element 0x30 (value_element (name binding.name) ++ value_element binding.value)

-- the canonical octets of the PDU of a message
abbrev pub pdu_octets : Message → List ℕ
pdu_octets m =
    element (kind_tag m.kind) (value_element (int m.id) ++ value_element (int m.first) ++ value_element (int m.second)
    ++ element 0x30 (flat_map binding_octets m.bindings))

-- the canonical octets of a message, whose version is 1
unfoldable pub message_octets : Message → List ℕ
message_octets m =
    element 0x30 (value_element (int (pos 1)) ++ value_element (octets m.community) ++ pdu_octets m)
