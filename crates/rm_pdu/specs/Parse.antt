-- What octets are, read as a message: the message, or what is wrong with them and where.
use Rattle.std.specs.Prelude.{◌≡◌, ◌⊎◌, ◌≤◌, ◌<◌, ◌+◌, ℕ, ℤ, pos, List, [], ◌∷◌, length, sum_by, Bool, true, false}
use Rattle.rm_val.specs.Val.{Val, int, octets, name}
use Rattle.rm_ber.specs.Grammar.{StandsFirst, ValueFirst}
use Rattle.rm_pdu.specs.declared.kind.Kind.{Kind}
use Rattle.rm_pdu.specs.declared.kind.Kind.TheVariants.{Get, Next, Set, Bulk}
use Rattle.rm_pdu.specs.Message.{kind_tag, Message}
use Rattle.rm_pdu.specs.Spells.{Spells}

-- what must come next in a message
pub data Awaited : Type 0 where
  whole : Awaited
  version : Awaited
  community : Awaited
  pdu : Awaited
  request_id : Awaited
  first_number : Awaited
  second_number : Awaited
  bindings : Awaited
  binding : Awaited
  binding_name : Awaited
  binding_value : Awaited
  binding_end : Awaited
  pdu_end : Awaited
  message_end : Awaited
  datagram_end : Awaited

-- A point in a message: what is awaited there, and the octets left in each element that is open, the innermost
-- first, and behind them the octets left after the message.
pub record Point : Type 0 where
  pub awaited : Awaited
  pub left : List ℕ
  pub outer : List (List ℕ)

-- the kinds of PDU that an agent is asked by
abbrev pub is_request : Kind → Bool
is_request Get = true
is_request Next = true
is_request Set = true
is_request Bulk = true
is_request other = false

-- which kinds of PDU are read: requests alone, or all
abbrev pub is_read : Bool → Kind → Bool
is_read true kind = is_request kind
is_read false kind = true

-- The point after the element, the header or the end that is awaited, where it stands there. An element is passed
-- whole; of a message, a PDU, a list of bindings and a binding the header is, which opens it.
abbrev pub LeadsTo : Bool → Awaited → List ℕ → List (List ℕ) → Point → Type 0
LeadsTo requests whole left outer to = (content rest : List ℕ) × StandsFirst 0x30 content rest left
    × (to ≡ record { awaited = version; left = content; outer = rest ∷ outer })
LeadsTo requests version left outer to = (rest : List ℕ) × ValueFirst (int (pos 1)) rest left
    × (to ≡ record { awaited = community; left = rest; outer = outer })
LeadsTo requests community left outer to = (text rest : List ℕ) × ValueFirst (octets text) rest left
    × (to ≡ record { awaited = pdu; left = rest; outer = outer })
LeadsTo requests pdu left outer to = (kind : Kind) × (content rest : List ℕ) × (is_read requests kind ≡ true)
    × StandsFirst (kind_tag kind) content rest left × (to ≡ record { awaited = request_id; left = content; outer = rest ∷ outer })
LeadsTo requests request_id left outer to = (z : ℤ) × (rest : List ℕ) × ValueFirst (int z) rest left
    × (to ≡ record { awaited = first_number; left = rest; outer = outer })
LeadsTo requests first_number left outer to = (z : ℤ) × (rest : List ℕ) × ValueFirst (int z) rest left
    × (to ≡ record { awaited = second_number; left = rest; outer = outer })
LeadsTo requests second_number left outer to = (z : ℤ) × (rest : List ℕ) × ValueFirst (int z) rest left
    × (to ≡ record { awaited = bindings; left = rest; outer = outer })
LeadsTo requests bindings left outer to = (content rest : List ℕ) × StandsFirst 0x30 content rest left
    × (to ≡ record { awaited = binding; left = content; outer = rest ∷ outer })
LeadsTo requests binding left outer to =
    ((after : List ℕ) × (more : List (List ℕ)) × (left ≡ []) × (outer ≡ after ∷ more)
    × (to ≡ record { awaited = pdu_end; left = after; outer = more }))
    ⊎ ((content rest : List ℕ) × StandsFirst 0x30 content rest left
    × (to ≡ record { awaited = binding_name; left = content; outer = rest ∷ outer }))
LeadsTo requests binding_name left outer to = (numbers rest : List ℕ) × ValueFirst (name numbers) rest left
    × (to ≡ record { awaited = binding_value; left = rest; outer = outer })
LeadsTo requests binding_value left outer to = (v : Val) × (rest : List ℕ) × ValueFirst v rest left
    × (to ≡ record { awaited = binding_end; left = rest; outer = outer })
LeadsTo requests binding_end left outer to = (after : List ℕ) × (more : List (List ℕ)) × (left ≡ []) × (outer ≡ after ∷ more)
    × (to ≡ record { awaited = binding; left = after; outer = more })
LeadsTo requests pdu_end left outer to = (after : List ℕ) × (more : List (List ℕ)) × (left ≡ []) × (outer ≡ after ∷ more)
    × (to ≡ record { awaited = message_end; left = after; outer = more })
LeadsTo requests message_end left outer to = (after : List ℕ) × (more : List (List ℕ)) × (left ≡ []) × (outer ≡ after ∷ more)
    × (to ≡ record { awaited = datagram_end; left = after; outer = more })
LeadsTo requests datagram_end left outer to = ⊥

-- the octets before the point are the complete elements and opened headers with which a message begins
pub data Begins (requests : Bool) (bytes : List ℕ) : Point → Type 0 where
  begins : Begins requests bytes (record { awaited = whole; left = bytes; outer = [] })
  goes_on : (from to : Point) → Begins requests bytes from → LeadsTo requests from.awaited from.left from.outer to → Begins requests bytes to

-- how many octets are left at a point
abbrev pub octets_left : Point → ℕ
octets_left point = length point.left + sum_by length point.outer

-- the tags of the PDUs that aren't requests
abbrev pub IsOtherTag : ℕ → Type 0
IsOtherTag tag = (tag ≡ 0xa2) ⊎ (tag ≡ 0xa6) ⊎ (tag ≡ 0xa7) ⊎ (tag ≡ 0xa8)

-- Nothing that may stand at the point stands there, a version other than 1 and the tag of another PDU among it,
-- and the datagram isn't at its end there.
pub record IsStuck (requests : Bool) (point : Point) : Type 0 where
  pub nothing : (to : Point) → LeadsTo requests point.awaited point.left point.outer to → ⊥
  pub no_version : point.awaited ≡ version → (z : ℤ) (rest : List ℕ) → ValueFirst (int z) rest point.left → ⊥
  pub no_other : requests ≡ true → point.awaited ≡ pdu → (tag : ℕ) (more : List ℕ) → point.left ≡ tag ∷ more → IsOtherTag tag → ⊥
  pub not_end : point.awaited ≡ datagram_end → point.left ≡ [] → ⊥

-- the octets have a version other than 1
pub record HasVersion (requests : Bool) (bytes : List ℕ) (z : ℤ) : Type 0 where
  pub left : List ℕ
  pub rest : List ℕ
  pub outer : List (List ℕ)
  pub begins : Begins requests bytes (record { awaited = version; left = left; outer = outer })
  pub version : ValueFirst (int z) rest left
  pub other : z ≡ pos 1 → ⊥

-- the octets have the tag of another PDU where that of a request is awaited; what follows it doesn't count
pub record HasOtherPdu (bytes : List ℕ) (tag : ℕ) : Type 0 where
  pub more : List ℕ
  pub outer : List (List ℕ)
  pub begins : Begins true bytes (record { awaited = pdu; left = tag ∷ more; outer = outer })
  pub other : IsOtherTag tag

-- what octets are, read as a message
pub data Parse : Type 0 where
  too_long : Parse
  malformed : (at : ℕ) → Parse
  other_version : (z : ℤ) → Parse
  not_request : (tag : ℕ) → Parse
  message : Message → Parse

-- At that offset nothing stands that may come next, and before it are the complete elements and opened headers
-- with which a message begins.
pub record IsMalformed (requests : Bool) (bytes : List ℕ) (at : ℕ) : Type 0 where
  pub point : Point
  pub begins : Begins requests bytes point
  pub stuck : IsStuck requests point
  pub offset : at + octets_left point ≡ length bytes

-- What the octets are: too many, else a message, or with a version other than 1, or with another PDU where
-- requests alone are read, and else malformed.
abbrev pub IsParse : Bool → List ℕ → Parse → Type 0
IsParse requests bytes too_long = 8192 < length bytes
IsParse requests bytes (malformed at) = (length bytes ≤ 8192) × IsMalformed requests bytes at
IsParse requests bytes (other_version z) = (length bytes ≤ 8192) × HasVersion requests bytes z
IsParse requests bytes (not_request tag) = (length bytes ≤ 8192) × (requests ≡ true) × HasOtherPdu bytes tag
IsParse requests bytes (message m) = (length bytes ≤ 8192) × Spells bytes m × (is_read requests m.kind ≡ true)
