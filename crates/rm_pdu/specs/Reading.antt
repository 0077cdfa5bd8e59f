-- What reading a part of a message answers.
use Rattle.std.specs.Prelude.{◌≡◌, ◌<◌, ◌+◌, ℕ, pos, Bool, true, List, [], length, sum_by}
use Rattle.rm_val.specs.Val.{int, octets}
use Rattle.rm_ber.specs.Grammar.{StandsFirst, ValueFirst, Left}
use Rattle.rm_pdu.specs.Message.{Binding, Message}
use Rattle.rm_pdu.specs.Spells.{IsBinding, AreBindings, Spells}
use Rattle.rm_pdu.specs.Placed.{IsPlaced, AreKept}
use Rattle.rm_pdu.specs.declared.places.Offsets.{Offsets}
use Rattle.rm_pdu.specs.declared.message.Numbers.{Numbers}
use Rattle.rm_pdu.specs.declared.message.Message.{Message as Told}
use Rattle.rm_pdu.specs.Parse.{Awaited, Begins, is_read, IsMalformed, HasVersion, HasOtherPdu}
use Rattle.rm_pdu.specs.declared.message.Fault.{Fault}
use Rattle.rm_pdu.specs.declared.message.Fault.TheVariants.{TooLong, Malformed, Version, NotRequest}

-- A reader stands where that is awaited in a message: what is left to it is what is left in the innermost element,
-- and the offset is the point of the first octet left.
pub record IsAt (requests : Bool) (bytes : List ℕ) (awaited : Awaited) (outer : List (List ℕ)) (reader : Left) : Type 0 where
  pub begins : Begins requests bytes (record { awaited = awaited; left = reader.left; outer = outer })
  pub offset : reader.at + (length reader.left + sum_by length outer) ≡ length bytes

-- what a fault says of the octets
abbrev pub Fails : Bool → List ℕ → Fault → Type 0
Fails requests bytes TooLong = 8192 < length bytes
Fails requests bytes (Malformed at) = IsMalformed requests bytes at
Fails requests bytes (Version z) = HasVersion requests bytes z
Fails requests bytes (NotRequest tag) = (requests ≡ true) × HasOtherPdu bytes tag

-- the version 1 and the community
abbrev pub Envelope : List ℕ → List ℕ → List ℕ → Type 0
Envelope text rest left = (after : List ℕ) × ValueFirst (int (pos 1)) after left × ValueFirst (octets text) rest after

-- the three numbers of a PDU
abbrev pub AreNumbers : Numbers → List ℕ → List ℕ → Type 0
AreNumbers numbers rest left = (after_id after_first : List ℕ) × ValueFirst (int numbers.id) after_id left
    × ValueFirst (int numbers.first) after_first after_id × ValueFirst (int numbers.second) rest after_first

-- a binding that stands first in the octets left, and where
abbrev pub OneBinding : List ℕ → Offsets → List ℕ → List ℕ → Type 0
OneBinding bytes offsets rest left = (binding : Binding) × (content : List ℕ) × StandsFirst 0x30 content rest left
    × IsBinding content binding × IsPlaced bytes offsets binding

-- the bindings to the end of their list, their number, and where the first 128 stand
abbrev pub AllBindings : List ℕ → List Offsets → ℕ → List ℕ → Type 0
AllBindings bytes offsets count left = (bindings : List Binding) × AreBindings left bindings × (count ≡ length bindings) × AreKept bytes offsets bindings

-- what the code's message and its bindings are
pub record IsTold (bytes : List ℕ) (told : Told) (offsets : List Offsets) (m : Message) : Type 0 where
  pub community : told.community.now ≡ m.community
  pub kind : told.kind ≡ m.kind
  pub id : told.id ≡ m.id
  pub first : told.first ≡ m.first
  pub second : told.second ≡ m.second
  pub count : told.count ≡ length m.bindings
  pub kept : AreKept bytes offsets m.bindings

-- the content of a PDU
abbrev pub WholePdu : List ℕ → List Offsets → Numbers → ℕ → List ℕ → Type 0
WholePdu bytes offsets numbers count left = (after list : List ℕ) × AreNumbers numbers after left × StandsFirst 0x30 list [] after × AllBindings bytes offsets count list

-- what was read is a message that the octets spell, of a kind that is read
abbrev pub IsRead : Bool → List ℕ → Told → List Offsets → Type 0
IsRead requests bytes told offsets = (m : Message) × Spells bytes m × (is_read requests m.kind ≡ true) × IsTold bytes told offsets m
