-- What is said in a run, the lines that are written for it, and the messages that are sent.
use Rattle.std.specs.Prelude.{ℕ, zero, suc, Bool, true, false, List, [], ◌∷◌, ◌++◌, map, take, flat_map, decimal, codes}
use Rattle.hex.specs.Hex.{encode_lower}
use Rattle.rm_edge.specs.Link.{Datagram}
use Rattle.rm_edge.specs.declared.outside.link.Peer.{Peer}
use Rattle.rm_model.specs.Journal.{Frame}
use Rattle.rm_pcap.specs.Records.{Stop}
use Rattle.rm_captures.specs.Left.{is_cut}
use Rattle.rm_agent.specs.declared.answer.Reason.{Reason}
use Rattle.rm_agent.specs.declared.answer.Reason.TheVariants.{TooLong, Malformed, Version, NotRequest, Community}
use Rattle.rm_agent.specs.declared.answer.Answer.{Answer}
use Rattle.rm_agent.specs.declared.answer.Answer.TheVariants.{Reply, Drop}
use Rattle.rm_probe.specs.Notes.{Note, trap_line}

-- what is answered to a datagram: a reply of these octets, or none, and why
pub data Response : Type 0 where
  Replied : List ℕ → Response
  Dropped : Reason → Response

-- what is said: a notification, the response to the datagram of that number at its moment, or whether a capture is cut short and how many frames
-- and datagrams there were
pub data Said : Type 0 where
  Notified : Note → Said
  Responded : ℕ → ℕ → Response → Said
  Last : Bool → ℕ → ℕ → Said

-- why there is no reply, in words
abbrev pub reason_text : Reason → List ℕ
reason_text TooLong = codes "too-long"
reason_text (Malformed at) = codes "malformed " ++ decimal at
reason_text Version = codes "version"
reason_text NotRequest = codes "not-request"
reason_text Community = codes "community"

-- a response in words, a reply in hexadecimal digits
abbrev pub response_text : Response → List ℕ
response_text (Replied message) = codes "reply " ++ encode_lower message
response_text (Dropped reason) = codes "drop " ++ reason_text reason

-- the response by which an answer is, where a reply stands at the front of the octets
abbrev pub response_of : Answer → List ℕ → Response
response_of (Reply count) out = Replied (take count out)
response_of (Drop reason) out = Dropped reason

-- the line of a datagram: its moment, its number and what is said of it
abbrev pub answer_line : ℕ → ℕ → List ℕ → List ℕ
answer_line moment number text = decimal moment ++ codes " " ++ decimal number ++ codes " " ++ text ++ codes "\n"

-- what the last line begins with: whether a capture is cut short
abbrev pub last_word : Bool → List ℕ
last_word true = codes "cut"
last_word false = codes "end"

-- whether a capture is cut short, as the last line says it where frames may be left: only where none is
abbrev pub is_cut_behind : List Frame → Stop → Bool
is_cut_behind [] stop = is_cut stop
is_cut_behind (frame ∷ more) stop = false

-- the last line: how many frames and how many datagrams there were
unfoldable pub last_line : Bool → ℕ → ℕ → List ℕ
last_line cut frames requests = last_word cut ++ codes " " ++ decimal frames ++ codes " " ++ decimal requests ++ codes "\n"

-- each thing said is one line
abbrev pub line_of : Said → List ℕ
line_of (Notified note) = trap_line note
line_of (Responded number moment response) = answer_line moment number (response_text response)
line_of (Last cut frames requests) = last_line cut frames requests

abbrev pub lines : List Said → List ℕ
lines said = flat_map line_of said

-- a message to each of these peers
abbrev pub to_each : List Peer → List ℕ → List Datagram
to_each peers message = map (λ (peer : Peer). record { peer = peer; bytes = message }) peers

-- the messages that are sent: a notification to the managers, and a reply to the peers from which the datagram of its number came
abbrev pub messages_of : List Peer → (ℕ → List Peer) → Said → List Datagram
messages_of managers asking (Notified note) = to_each managers note.message
messages_of managers asking (Responded number moment (Replied message)) = to_each (asking number) message
messages_of managers asking said = []

abbrev pub messages : List Peer → (ℕ → List Peer) → List Said → List Datagram
messages managers asking said = flat_map (messages_of managers asking) said

-- how many datagrams are answered by what is said
unfoldable pub answers_in : List Said → ℕ
answers_in [] = zero
answers_in (Notified note ∷ more) = answers_in more
answers_in (Responded number moment response ∷ more) = suc (answers_in more)
answers_in (Last cut frames requests ∷ more) = answers_in more

-- More was said behind what had been said before, by a relation that says what was said since an earlier state.
abbrev pub SaysMore : {S : Type 0} → (since : S → S → List Said → Type 0) → S → S → List Said → Type 0
SaysMore {S} since old new more = (start : S) (said : List Said) → since start old said → since start new (said ++ more)
