-- What a run that serves says: to the datagrams that it receives, at the moments that the clock tells then.
use Rattle.std.specs.Prelude.{◌≡◌, ◌⊎◌, ℕ, ◌+◌, ◌-◌, ◌≤◌, max, List, [], ◌∷◌, ◌++◌, length, map, take, take_while, drop, Option, Some, None, ⊤}
use Rattle.rm_edge.specs.Outside.{File, Adds}
use Rattle.rm_edge.specs.Link.{Datagram}
use Rattle.rm_edge.specs.Uses.{FileUse, SinkUse, LinkUse, ClockUse, HasPutFault, HasLinkFault, IsUntouched}
use Rattle.rm_edge.specs.declared.outside.link.Peer.{Peer}
use Rattle.rm_model.specs.Journal.{Frame}
use Rattle.rm_pcap.specs.Records.{Stop}
use Rattle.rm_settings.specs.declared.settings.Settings.{Settings}
use Rattle.rm_requests.specs.Lines.{TimedDatagram}
use Rattle.rm_captures.specs.Rounds.{AreCaptures, AreCaptureFiles, IsFirstFault}
use Rattle.rm_captures.specs.Merge.{is_by}
use Rattle.rm_captures.specs.Told.{OfFiles}
use Rattle.rm_captures.specs.declared.fault.CaptureFault.{CaptureFault}
use Rattle.rm_probe.specs.Capture.{AreTold, CallsFor, HasReadFaults, helds_of, status_of}
use Rattle.rm_probe.specs.Ends.{Comes}
use Rattle.rm_probe.specs.Events.{Event}
use Rattle.rm_probe.specs.InOrder.{AreInOrder}
use Rattle.rm_probe.specs.Output.{IsSaidFront}
use Rattle.rm_probe.specs.Said.{Said, Last, answers_in, is_cut_behind, lines, messages}
use Rattle.rm_probe.specs.Text.{AreSaid, AreSaidBy, Choice}
use Rattle.rm_probe.specs.declared.status.Status.{Status}
use Rattle.rm_probe.specs.declared.status.Status.TheVariants.{Done, BadCapture, ReadFault, WriteFault, NoMemory, LinkFault, TooLong}

-- a datagram that came: from whom, at which moment, and its octets
pub record Arrival : Type 0 where
  pub peer : Peer
  pub moment : ℕ
  pub bytes : List ℕ

abbrev pub received_of : Arrival → Datagram
received_of arrival = record { peer = arrival.peer; bytes = arrival.bytes }

abbrev pub request_of : Arrival → TimedDatagram
request_of arrival = record { moment = arrival.moment; datagram = arrival.bytes }

abbrev pub requests_of : List Arrival → List TimedDatagram
requests_of arrivals = map request_of arrivals

abbrev pub peers_of : List Arrival → List Peer
peers_of arrivals = map (λ (arrival : Arrival). arrival.peer) arrivals

-- from whom the datagram of a number came
abbrev pub asking_of : List Arrival → ℕ → List Peer
asking_of arrivals number = peers_of (take 1 (drop (number - 1) arrivals))

-- a port of the machine itself
abbrev pub local_port : ℕ → Peer
local_port port = record { ip = 127 ∷ 0 ∷ 0 ∷ 1 ∷ []; port = port }

-- the moment of the last datagram that came, or, where none did, the one that is given
unfoldable pub last_of : ℕ → List Arrival → ℕ
last_of last [] = last
last_of last (arrival ∷ more) = last_of arrival.moment more

-- the frames up to the moment of the last datagram that came; none, where none came
abbrev pub frames_by_last : List Arrival → List Frame → List Frame
frames_by_last [] frames = []
frames_by_last (arrival ∷ more) frames = take_while (is_by (last_of arrival.moment more)) frames

-- the frames behind them, which are left
abbrev pub frames_behind : List Arrival → List Frame → List Frame
frames_behind arrivals frames = drop (length (frames_by_last arrivals frames)) frames

-- the last thing said: `cut` where no frame is left and a capture is cut short, how many frames were taken, and how many datagrams came
abbrev pub last_served : List Frame → Stop → List Arrival → Said
last_served frames stop arrivals = Last (is_cut_behind (frames_behind arrivals frames) stop) (length (frames_by_last arrivals frames)) (length arrivals)

-- All that is said in a run that serves: what is said of the frames up to the last datagram and of the datagrams, in order, and the last line.
pub record IsServed (settings : Settings) (frames : List Frame) (stop : Stop) (arrivals : List Arrival) (said : List Said) : Type 0 where
  pub events : List Event
  pub in_order : AreInOrder 1 (frames_by_last arrivals frames) (requests_of arrivals) events
  pub before : List Said
  pub are_said : AreSaid settings [] events before
  pub whole : said ≡ before ++ last_served frames stop arrivals ∷ []

-- the same, said with these answers
pub record IsServedBy (settings : Settings) (frames : List Frame) (stop : Stop) (arrivals : List Arrival) (choices : List Choice) (said : List Said) : Type 0 where
  pub events : List Event
  pub in_order : AreInOrder 1 (frames_by_last arrivals frames) (requests_of arrivals) events
  pub before : List Said
  pub are_said : AreSaidBy settings [] events choices before
  pub whole : said ≡ before ++ last_served frames stop arrivals ∷ []

-- of the moments that a clock told, one earlier than the last is taken as the last
unfoldable pub rising : ℕ → List ℕ → List ℕ
rising last [] = []
rising last (told ∷ more) = max last told ∷ rising (max last told) more

-- What the calls of a clock did to the list of its moments: these were told. A clock may cease to show its moments.
abbrev pub TellsAll : Option (List ℕ) → Option (List ℕ) → List ℕ → Type 0
TellsAll old None told = ⊤
TellsAll None (Some new) told = ⊥
TellsAll (Some old) (Some new) told = new ≡ old ++ told

-- these datagrams came, by what a link has received and a clock has told, one moment for each
pub record HaveCome (received received_after : Option (List Datagram)) (told told_after : Option (List ℕ)) (last : ℕ) (arrivals : List Arrival) : Type 0 where
  pub came : Adds received received_after (map received_of arrivals)
  pub moments : List ℕ
  pub tells : TellsAll told told_after moments
  pub rises : map (λ (arrival : Arrival). arrival.moment) arrivals ≡ rising last moments

-- the files are captures, and P holds of what is said of them
abbrev pub OfServed : Settings → ℕ → List Arrival → List FileUse → (List Said → Type 0) → Type 0
OfServed settings lead arrivals captures P = OfFiles (helds_of captures) (AreCaptureFiles lead)
    × OfFiles (helds_of captures) (λ files. (frames : List Frame) (stop : Stop) → AreCaptures lead files frames stop → (said : List Said) × IsServed settings frames stop arrivals said × P said)

-- the messages of what is said: notifications go to the manager, replies to who asked
abbrev pub served_messages : Peer → List Arrival → List Said → List Datagram
served_messages manager arrivals said = messages (manager ∷ []) (asking_of arrivals) said

-- the text of what is said was written, and its messages were sent
abbrev pub WritesServed : Settings → ℕ → Peer → List Arrival → List FileUse → SinkUse → LinkUse → Type 0
WritesServed settings lead manager arrivals captures out link = OfServed settings lead arrivals captures
    (λ said. Adds out.content out.content_after (lines said) × Adds link.sent link.sent_after (served_messages manager arrivals said))

-- all datagrams that came but the last are answered by what was told
abbrev pub AreAnswered : List Arrival → List Said → Type 0
AreAnswered arrivals told = length arrivals ≤ 1 + answers_in told

-- Of what is said a front was told: the first things whole, by which all datagrams but the last are answered, and of the next one a front of its
-- line, or that line and maybe its message.
abbrev pub WritesServedFront : Settings → ℕ → Peer → List Arrival → List FileUse → SinkUse → LinkUse → Type 0
WritesServedFront settings lead manager arrivals captures out link = OfServed settings lead arrivals captures
    (λ said. (told : List Said) × IsSaidFront (manager ∷ []) (asking_of arrivals) out.content out.content_after link.sent link.sent_after said told × AreAnswered arrivals told)

-- nothing was written or sent
pub record IsIdle (out : SinkUse) (link : LinkUse) : Type 0 where
  pub unwritten : IsUntouched out
  pub unsent : link.sent_after ≡ link.sent

-- no port was bound, and nothing was received or sent
pub record BindsNone (arrivals : List Arrival) (link : LinkUse) : Type 0 where
  pub unbound : Adds link.bound link.bound_after []
  pub unasked : arrivals ≡ []
  pub unsent : link.sent_after ≡ link.sent

-- the run ended before it bound its port, and before it wrote anything
pub record HasNotBegun (arrivals : List Arrival) (out : SinkUse) (link : LinkUse) : Type 0 where
  pub idle : IsIdle out link
  pub binds : BindsNone arrivals link

-- How a run that serves ends, status by status.
abbrev pub EndsServing : Settings → ℕ → Peer → List Arrival → List FileUse → SinkUse → LinkUse → Status → Type 0
EndsServing settings lead manager arrivals captures out link Done = WritesServed settings lead manager arrivals captures out link
EndsServing settings lead manager arrivals captures out link (BadCapture interface at) =
    CallsFor lead (BadCapture interface at) (helds_of captures) × (AreTold (helds_of captures) → HasNotBegun arrivals out link)
EndsServing settings lead manager arrivals captures out link TooLong = CallsFor lead TooLong (helds_of captures) × (AreTold (helds_of captures) → HasNotBegun arrivals out link)
EndsServing settings lead manager arrivals captures out link ReadFault =
    HasReadFaults captures × (HasNotBegun arrivals out link ⊎ WritesServedFront settings lead manager arrivals captures out link)
EndsServing settings lead manager arrivals captures out link WriteFault = HasPutFault out × WritesServedFront settings lead manager arrivals captures out link
EndsServing settings lead manager arrivals captures out link LinkFault = HasLinkFault link × WritesServedFront settings lead manager arrivals captures out link
EndsServing settings lead manager arrivals captures out link NoMemory = HasNotBegun arrivals out link
EndsServing settings lead manager arrivals captures out link other = ⊥

-- The port alone was bound, or none where the run isn't done.
abbrev pub BindsPort : ℕ → List Arrival → LinkUse → Status → Type 0
BindsPort port arrivals link Done = Adds link.bound link.bound_after (port ∷ [])
BindsPort port arrivals link status = Adds link.bound link.bound_after (port ∷ []) ⊎ BindsNone arrivals link

-- How `serve` ends, and what came: at most so many datagrams, and with Done just as many.
pub record Serves (settings : Settings) (lead : ℕ) (port count : ℕ) (manager : Peer) (captures : List FileUse) (out : SinkUse) (link : LinkUse) (clock : ClockUse) (result : Status) : Type 0 where
  pub arrivals : List Arrival
  pub come : HaveCome link.received link.received_after clock.told clock.told_after 0 arrivals
  pub few : length arrivals ≤ count
  pub all : result ≡ Done → length arrivals ≡ count
  pub bound : BindsPort port arrivals link result
  pub ends : EndsServing settings lead manager arrivals captures out link result

-- The status of a bad capture comes wherever one of them is bad; and where all captures are good and no call failed, the run is done, or found no memory.
pub record ServesExactly (lead : ℕ) (captures : List FileUse) (out : SinkUse) (link : LinkUse) (result : Status) : Type 0 where
  pub bad_capture : (files : List (List ℕ)) (found : CaptureFault) → helds_of captures ≡ map File files → IsFirstFault lead files found → Comes (status_of found) result
  pub complete : (files : List (List ℕ)) → helds_of captures ≡ map File files → AreCaptureFiles lead files
      → (HasReadFaults captures → ⊥) → (HasPutFault out → ⊥) → (HasLinkFault link → ⊥) → (result ≡ Done) ⊎ (result ≡ NoMemory)
