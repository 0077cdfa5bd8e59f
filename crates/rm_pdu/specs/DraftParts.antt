-- The parts of a draft's message, and how many octets they take.
use Rattle.std.specs.Prelude.{ℕ, ◌+◌, pos, List, ◌∷◌, ◌++◌, length}
use Rattle.rm_val.specs.Val.{int, octets}
use Rattle.rm_ber.specs.Element.{length_octets, value_element}
use Rattle.rm_pdu.specs.Message.{kind_tag}
use Rattle.rm_pdu.specs.Draft.{Drafted}

-- the octets of an element before its content, if that takes so many
unfoldable pub header : ℕ → ℕ → List ℕ
header tag content = tag ∷ length_octets content

-- how many they are
unfoldable pub header_size : ℕ → ℕ
header_size content = 1 + length (length_octets content)

-- how many octets an element takes, if its content takes so many
abbrev pub element_size : ℕ → ℕ
element_size content = header_size content + content

-- how many octets the content of a draft's PDU takes, if its bindings take so many
abbrev pub pdu_size : Drafted → ℕ → ℕ
pdu_size d list =
    length (value_element (int d.id)) + length (value_element (int d.first)) + length (value_element (int d.second)) + element_size list

-- how many octets the content of its message takes
abbrev pub content_size : Drafted → ℕ → ℕ
content_size d list =
    length (value_element (int (pos 1))) + length (value_element (octets d.community)) + element_size (pdu_size d list)

-- how many octets its message takes
abbrev pub message_size : Drafted → ℕ → ℕ
message_size d list = element_size (content_size d list)

-- the octets of its message before those of its bindings
unfoldable pub front_octets : Drafted → List ℕ
front_octets d =
    header 0x30 (content_size d (length d.list)) ++ value_element (int (pos 1)) ++ value_element (octets d.community)
    ++ header (kind_tag d.kind) (pdu_size d (length d.list))
    ++ value_element (int d.id) ++ value_element (int d.first) ++ value_element (int d.second)
    ++ header 0x30 (length d.list)
