-- What reading a message answers.
use Rattle.std.specs.Prelude.{◌≡◌, ℕ, Bool, List, [], Result, Ok, Err, OnErr}
use Rattle.rm_pdu.specs.Parse.{Parse, too_long, malformed, other_version, not_request, message, IsParse}
use Rattle.rm_pdu.specs.Reading.{IsTold}
use Rattle.rm_pdu.specs.declared.places.Offsets.{Offsets}
use Rattle.rm_pdu.specs.declared.message.Message.{Message as Told}
use Rattle.rm_pdu.specs.declared.message.Fault.{Fault}
use Rattle.rm_pdu.specs.declared.message.Fault.TheVariants.{TooLong, Malformed, Version, NotRequest}

-- what a fault says
abbrev pub parse_of : Fault → Parse
parse_of TooLong = too_long
parse_of (Malformed at) = malformed at
parse_of (Version z) = other_version z
parse_of (NotRequest tag) = not_request tag

-- the answer is the parse: its message, told with the places of its bindings, or its fault
abbrev pub IsAnswer : List ℕ → Parse → Result Told Fault → List Offsets → Type 0
IsAnswer bytes (message m) (Ok told) offsets = IsTold bytes told offsets m
IsAnswer bytes v (Ok told) offsets = ⊥
IsAnswer bytes v (Err fault) offsets = v ≡ parse_of fault

-- The answer is that of the octets' one parse, where requests alone are read or all kinds. After a fault no places are kept.
pub record IsVerdict (requests : Bool) (bytes : List ℕ) (result : Result Told Fault) (places : List Offsets) : Type 0 where
  pub parse : (v : Parse) × IsParse requests bytes v × IsAnswer bytes v result places
  pub only : (v : Parse) → IsParse requests bytes v → IsAnswer bytes v result places
  pub emptied : OnErr result (places ≡ [])
