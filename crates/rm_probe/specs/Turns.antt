-- What the steps of a run that serves do.
use Rattle.std.specs.Prelude.{◌≡◌, ℕ, min, List, [], ◌∷◌, length, take, Option, None, Result, Ok, Err}
use Rattle.rm_edge.specs.Link.{Datagram}
use Rattle.rm_edge.specs.Uses.{SinkUse, LinkUse, ClockUse}
use Rattle.rm_edge.specs.declared.outside.link.Peer.{Peer}
use Rattle.rm_model.specs.Journal.{Frame, Journal}
use Rattle.rm_pcap.specs.Records.{Stop}
use Rattle.rm_pcap.specs.declared.capture.Capture.{Capture}
use Rattle.rm_settings.specs.declared.settings.Settings.{Settings}
use Rattle.rm_probe.specs.Output.{HasAdded, IsSaidFront, Shown}
use Rattle.rm_probe.specs.Said.{Said, lines, messages}
use Rattle.rm_probe.specs.Serving.{Arrival, AreAnswered, HaveCome, IsServed, request_of}
use Rattle.rm_probe.specs.Steps.{FailsBy, HasBegun, IsNextSaid, SaysFirst, SaysNext}
use Rattle.rm_probe.specs.declared.output.OutputFault.{OutputFault}
use Rattle.rm_probe.specs.declared.probe.Probe.{Probe}
use Rattle.rm_probe.specs.declared.status.Status.{Status}
use Rattle.rm_probe.specs.declared.status.Status.TheVariants.{LinkFault}

-- how many octets of a datagram are taken in at most: one more than are read
abbrev pub room : ℕ
room = 8193

-- What a receive answers: who sent the datagram, and how many of its octets stand at the front of the room, all or the first that fit.
abbrev pub ReceivesOne : Option (List Datagram) → Option (List Datagram) → Option (List ℕ) → Option (List ℕ) → ℕ → ℕ → List ℕ → Result (Peer × ℕ) Status → Type 0
ReceivesOne received received' told told' last last' into (Ok found) = (arrival : Arrival) × HaveCome received received' told told' last (arrival ∷ [])
    × (arrival.peer ≡ found.0) × (arrival.moment ≡ last') × (found.1 ≡ min (length arrival.bytes) room) × (take found.1 into ≡ take found.1 arrival.bytes)
ReceivesOne received received' told told' last last' into (Err status) = (status ≡ LinkFault) × HaveCome received received' told told' last [] × (last' ≡ last)

-- a sink and a link, before and after
abbrev pub shown_before : SinkUse → LinkUse → Shown
shown_before out link = record { content = out.content; puts = out.faults; sent = link.sent; sends = link.faults; failed = None }

abbrev pub shown_after : SinkUse → LinkUse → Option OutputFault → Shown
shown_after out link failed = record { content = out.content_after; puts = out.faults_after; sent = link.sent_after; sends = link.faults_after; failed = failed }

-- Datagrams came and this was said, replies being sent to who asked: of it these things were told whole, by which all datagrams but the last are
-- answered. No port was bound.
pub record HasServed {T : Type 0} (manager : Peer) (asking : ℕ → List Peer) (last : ℕ) (out : SinkUse) (link : LinkUse) (clock : ClockUse) (arrivals : List Arrival) (said : List Said) (result : Result T Status) : Type 0 where
  pub come : HaveCome link.received link.received_after clock.told clock.told_after last arrivals
  pub bound : link.bound_after ≡ link.bound
  -- a receive that failed counts as a send that did
  pub failed : Option OutputFault
  pub adds : HasAdded (shown_before out link) (shown_after out link failed) (lines said) (messages (manager ∷ []) asking said)
  pub told : List Said
  pub order : IsSaidFront (manager ∷ []) asking out.content out.content_after link.sent link.sent_after said told
  pub at_once : AreAnswered arrivals told
  pub fails : FailsBy failed result

-- In a turn nothing came, since the link failed; or one datagram did, and what is said next was said of it.
abbrev pub SaysTurn : {T : Type 0} → List (List ℕ) → List Capture → List Capture → Settings → Probe → ℕ → List Frame → Stop → Journal → List Arrival → List Said → Result T Status → Type 0
SaysTurn files old new settings probe number frames stop journal [] said result = (said ≡ []) × (result ≡ Err LinkFault)
SaysTurn files old new settings probe number frames stop journal (arrival ∷ more) said result =
    (more ≡ []) × SaysNext (IsNextSaid files old new settings probe number (request_of arrival) frames stop journal) (HasBegun settings arrival.moment frames journal) said result

-- what was said to datagrams: all of it, or the first of it where a call failed
abbrev pub SaysServed : {T : Type 0} → Settings → List Frame → Stop → List Arrival → List Said → Result T Status → Type 0
SaysServed settings frames stop arrivals said result = SaysFirst (IsServed settings frames stop arrivals) said result
