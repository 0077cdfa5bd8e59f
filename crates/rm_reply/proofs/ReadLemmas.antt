-- The message that was read.
use Rattle.std.proofs.Common.{ℕ, List, true}
use Rattle.std.specs.Prelude.{Ok}
use Rattle.rm_pdu.specs.Message.{Message}
use Rattle.rm_pdu.specs.Parse.{Parse, too_long, malformed, other_version, not_request, message, IsParse}
use Rattle.rm_pdu.specs.Reading.{IsTold}
use Rattle.rm_pdu.specs.Answers.{IsAnswer}
use Rattle.rm_pdu.specs.declared.places.Offsets.{Offsets}
use Rattle.rm_pdu.specs.declared.message.Message.{Message as Told}

-- the octets are a message, and this is what was told of it
pub record HasRead (bytes : List ℕ) (told : Told) (offsets : List Offsets) : Type 0 where
  pub request : Message
  pub parse : IsParse true bytes (message request)
  pub is_told : IsTold bytes told offsets request

pub read_one : (bytes : List ℕ) (told : Told) (offsets : List Offsets) (v : Parse) → IsParse true bytes v → IsAnswer bytes v (Ok told) offsets → HasRead bytes told offsets
read_one bytes told offsets (message m) is answers = record { request = m; parse = is; is_told = answers }
read_one bytes told offsets too_long is answers = absurd answers
read_one bytes told offsets (malformed at) is answers = absurd answers
read_one bytes told offsets (other_version z) is answers = absurd answers
read_one bytes told offsets (not_request tag) is answers = absurd answers
