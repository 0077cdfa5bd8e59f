-- What a datagram is answered.
use Rattle.std.specs.Prelude.{◌≡◌, ◌≤◌, ℕ, true, List, if◌then◌else◌, Option, Some, None, length, take}
use Rattle.rm_model.specs.Journal.{Journal}
use Rattle.rm_pdu.specs.Message.{Message, message_octets}
use Rattle.rm_pdu.specs.Parse.{Parse, too_long, malformed, other_version, not_request, message, IsParse}
use Rattle.rm_pdu.specs.declared.message.Fault.{Fault}
use Rattle.rm_pdu.specs.declared.message.Fault.TheVariants.{TooLong as LongFault, Malformed as MalformedFault, Version as VersionFault, NotRequest as OtherFault}
use Rattle.rm_settings.specs.declared.settings.Settings.{Settings}
use Rattle.rm_agent.specs.declared.answer.Reason.{Reason}
use Rattle.rm_agent.specs.declared.answer.Reason.TheVariants.{TooLong, Malformed, Version, NotRequest, Community}
use Rattle.rm_agent.specs.declared.answer.Answer.{Answer}
use Rattle.rm_agent.specs.declared.answer.Answer.TheVariants.{Reply, Drop}
use Rattle.rm_settings.specs.Communities.{is_known, may_write}
use Rattle.rm_reply.specs.Responses.{IsReplyBy}
use Rattle.rm_reply.specs.Storage.{IsGrantedBy, IsGrantedOrDenied}
use Rattle.rm_agent.specs.Groups.{cells, objects, alone, together, Reserves}

-- Why octets of which that is the parse get no reply; nothing where they get one. A request is judged whole before
-- its community is.
abbrev pub reason_for : Settings → Parse → Option Reason
reason_for settings too_long = Some TooLong
reason_for settings (malformed at) = Some (Malformed at)
reason_for settings (other_version z) = Some Version
reason_for settings (not_request tag) = Some NotRequest
reason_for settings (message request) =
    if is_known settings request.community then None else Some Community

-- the same of a fault
abbrev pub reason_of : Fault → Reason
reason_of LongFault = TooLong
reason_of (MalformedFault at) = Malformed at
reason_of (VersionFault z) = Version
reason_of (OtherFault tag) = NotRequest

-- why there is no reply, if there is none
abbrev pub reason_in : Answer → Option Reason
reason_in (Reply count) = None
reason_in (Drop reason) = Some reason

-- the reply to a request at a moment in milliseconds after a journal, and the journal after it
abbrev pub IsReplyAfter : Settings → Journal → ℕ → Message → Message → Journal → Type 0
IsReplyAfter settings journal now request reply after =
    IsReplyBy (cells settings journal now) objects alone (together settings journal now) (Reserves journal) (may_write settings request.community) now journal request.kind request reply after

-- the one that it has where there is memory for all that it reserves, and the journal after it
abbrev pub IsGrantedAfter : Settings → Journal → ℕ → Message → Message → Journal → Type 0
IsGrantedAfter settings journal now request reply after =
    IsGrantedBy (cells settings journal now) objects alone (together settings journal now) (may_write settings request.community) now journal request reply after

-- A datagram is answered the octets of a reply to its request, at the front of `out`, and `replied` holds of both; or it is dropped, and
-- `dropped` holds.
abbrev pub IsAnswer : Settings → List ℕ → Answer → List ℕ → (replied : Message → Message → Type 0) → (dropped : Type 0) → Type 0
IsAnswer settings datagram (Reply count) out replied dropped =
    (request reply : Message) × IsParse true datagram (message request) × (reason_for settings (message request) ≡ None)
    × replied request reply × (count ≡ length (message_octets reply)) × (take count out ≡ message_octets reply)
IsAnswer settings datagram (Drop reason) out replied dropped = dropped

-- the reply to the datagram's request is answered; where there is none, the journal stays
abbrev pub IsReplied : Settings → Journal → ℕ → List ℕ → Answer → List ℕ → Journal → Type 0
IsReplied settings journal now datagram answer out after =
    IsAnswer settings datagram answer out (λ request reply. IsReplyAfter settings journal now request reply after) (after ≡ journal)

-- Storage comes first: a request is granted all that it reserves and gets its reply, and the journal after that is stood for; or a
-- SetRequest is denied storage, and the journal is stood for as it was. So it is where the datagram is dropped.
abbrev pub IsStorageFirst : Settings → Journal → ℕ → List ℕ → Answer → List ℕ → (stands : Journal → Type 0) → Type 0
IsStorageFirst settings journal now datagram answer out stands =
    IsAnswer settings datagram answer out
    (λ request reply. IsGrantedOrDenied (IsGrantedAfter settings journal now request) (Reserves journal) journal request reply stands)
    (stands journal)

-- a reply has at most 1472 octets
abbrev pub IsShort : Answer → Type 0
IsShort (Reply count) = count ≤ 1472
IsShort (Drop reason) = Unit {0}
