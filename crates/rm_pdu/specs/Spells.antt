-- The octets that are accepted as a message of SNMPv2c (RFC 1901, section 3; RFC 1905, section 3).
use Rattle.std.specs.Prelude.{◌≡◌, ℕ, pos, List, [], ◌∷◌}
use Rattle.rm_val.specs.Val.{int, octets, name}
use Rattle.rm_ber.specs.Grammar.{StandsFirst, ValueFirst}
use Rattle.rm_pdu.specs.Message.{kind_tag, Binding, Message}

-- a name and a value stand in the content of a binding, and nothing else
abbrev pub IsBinding : List ℕ → Binding → Type 0
IsBinding content binding =
    (rest : List ℕ) × ValueFirst (name binding.name) rest content × ValueFirst binding.value [] rest

-- bindings, one after the other to the end of their list
abbrev pub AreBindings : List ℕ → List Binding → Type 0
AreBindings bytes [] = bytes ≡ []
AreBindings bytes (binding ∷ more) =
    (content rest : List ℕ) × StandsFirst 0x30 content rest bytes × IsBinding content binding × AreBindings rest more

-- the content of a PDU: its three numbers, and the list of its bindings
pub record IsPdu (content : List ℕ) (message : Message) : Type 0 where
  pub after_id : List ℕ
  pub after_first : List ℕ
  pub after_second : List ℕ
  pub list : List ℕ
  pub id : ValueFirst (int message.id) after_id content
  pub first : ValueFirst (int message.first) after_first after_id
  pub second : ValueFirst (int message.second) after_second after_first
  pub opens : StandsFirst 0x30 list [] after_second
  pub bindings : AreBindings list message.bindings

-- The octets spell the message: a sequence of version 1, the community and the PDU, and nothing else.
pub record Spells (bytes : List ℕ) (message : Message) : Type 0 where
  pub content : List ℕ
  pub after_version : List ℕ
  pub after_community : List ℕ
  pub pdu : List ℕ
  pub opens : StandsFirst 0x30 content [] bytes
  pub version : ValueFirst (int (pos 1)) after_version content
  pub community : ValueFirst (octets message.community) after_community after_version
  pub opens_pdu : StandsFirst (kind_tag message.kind) pdu [] after_community
  pub is_pdu : IsPdu pdu message
