-- What the steps of a run do.
use Rattle.std.specs.Prelude.{◌≡◌, ◌⊎◌, ℕ, ◌+◌, ◌≤◌, Bool, List, [], ◌∷◌, ◌++◌, length, map, take_while, Option, Some, None, Result, Ok, Err, ⊤}
use Rattle.rm_edge.specs.Outside.{Adds, AddsFront, File, Held}
use Rattle.rm_edge.specs.declared.outside.link.Peer.{Peer}
use Rattle.rm_model.specs.Journal.{Frame, Journal, passes}
use Rattle.rm_pcap.specs.Records.{Stop}
use Rattle.rm_pcap.specs.Steps.{Found, Whole, Stops}
use Rattle.rm_pcap.specs.View.{progress_of}
use Rattle.rm_pcap.specs.declared.capture.Capture.{Capture}
use Rattle.rm_pcap.specs.declared.reach.Reach.{Reach}
use Rattle.rm_captures.specs.Left.{AreLeft, IsNext, LooksAll, coming_of, is_cut, passed_of}
use Rattle.rm_captures.specs.Merge.{is_by, frames_after}
use Rattle.rm_captures.specs.Reading.{AreHeld}
use Rattle.rm_captures.specs.Rounds.{AreCaptureFiles}
use Rattle.rm_captures.specs.Told.{OfFiles}
use Rattle.rm_captures.specs.declared.coming.Coming.{Coming}
use Rattle.rm_probe.specs.Advance.{IsAdvanced}
use Rattle.rm_agent.specs.Orderly.{IsOrderly}
use Rattle.rm_probe.specs.Notes.{Note}
use Rattle.rm_probe.specs.Said.{Response, Said, Notified, Responded, Last, is_cut_behind, messages}
use Rattle.rm_probe.specs.Capture.{CallsFor}
use Rattle.rm_requests.specs.Lines.{TimedDatagram, IsRequestFile}
use Rattle.rm_probe.specs.declared.replaying.NumberedDatagram.{NumberedDatagram}
use Rattle.rm_probe.specs.Events.{Event, Asks, comings}
use Rattle.rm_probe.specs.Text.{IsAnswered, AreSaid, IsRun, IsText}
use Rattle.rm_probe.specs.Status.{status_for}
use Rattle.rm_probe.specs.declared.output.OutputFault.{OutputFault}
use Rattle.rm_probe.specs.declared.output.OutputFault.TheVariants.{Put, Send}
use Rattle.rm_probe.specs.Probe.{settings_of, last_given, frames_given, Stands}
use Rattle.rm_probe.specs.declared.probe.Probe.{Probe}
use Rattle.rm_settings.specs.declared.settings.Settings.{Settings}
use Rattle.rm_probe.specs.declared.status.Status.{Status}
use Rattle.rm_probe.specs.declared.status.Status.TheVariants.{Done, Usage, BadCapture, BadRequests, ReadFault, WriteFault, NoMemory, LinkFault, TooLong}

-- what the fault of a record ends by, or a failed read
abbrev pub IsOfCapture : Status → Type 0
IsOfCapture (BadCapture interface at) = ⊤
IsOfCapture TooLong = ⊤
IsOfCapture ReadFault = ⊤
IsOfCapture status = ⊥

-- what judging the captures answers, where Failed says that a read of one failed
abbrev pub JudgesCaptures : {T : Type 0} → ℕ → List Held → Type 0 → Result T Status → Type 0
JudgesCaptures lead helds Failed (Ok done) = OfFiles helds (AreCaptureFiles lead)
JudgesCaptures lead helds Failed (Err ReadFault) = Failed
JudgesCaptures lead helds Failed (Err NoMemory) = ⊤
JudgesCaptures lead helds Failed (Err (BadCapture interface at)) = CallsFor lead (BadCapture interface at) helds
JudgesCaptures lead helds Failed (Err TooLong) = CallsFor lead TooLong helds
JudgesCaptures lead helds Failed (Err other) = ⊥

-- the frame that stands next isn't before a moment, whatever the file has
abbrev pub IsNotBefore : ℕ → Reach → Option Found → Type 0
IsNotBefore moment reach None = moment ≤ reach.last
IsNotBefore moment reach (Some (Whole frame after)) = moment ≤ frame.moment
IsNotBefore moment reach (Some (Stops stop)) = ⊤

unfoldable pub AreNotBefore : ℕ → List Capture → Type 0
AreNotBefore moment [] = ⊤
AreNotBefore moment (capture ∷ more) = IsNotBefore moment (progress_of capture).reach (progress_of capture).ahead × AreNotBefore moment more

-- of none more were passed than a capture has at most
unfoldable pub AreFew : List Capture → Type 0
AreFew [] = ⊤
AreFew (capture ∷ more) = ((progress_of capture).reach.count ≤ 100000000) × AreFew more

-- There are as many captures as names. The probe was given as many frames as were passed, and nothing later than a moment, before which no frame is
-- left.
pub record Keeps (named : ℕ) (moment : ℕ) (probe : Probe) (captures : List Capture) : Type 0 where
  pub all : length captures ≡ named
  pub last : last_given probe ≤ moment
  pub next : AreNotBefore moment captures
  pub count : frames_given probe ≡ passed_of captures
  pub few : AreFew captures

-- which frame comes next is told by a look at all captures
abbrev pub IsTold : List (List ℕ) → List Capture → Coming → Type 0
IsTold names captures coming = (held : List ℕ → Held) × (olds : List Capture) × LooksAll held 1 names olds captures (Some coming)

-- what a look for the next frame answers, where these are left
abbrev pub FindsFrame : List Frame → Result (Option Coming) Status → Type 0
FindsFrame frames (Ok next) = IsNext frames next
FindsFrame frames (Err status) = status ≡ ReadFault

-- what a look for the end answers, where these are left: whether a capture is cut short and no frame is left
abbrev pub FindsCutBehind : List Frame → Stop → Result Bool Status → Type 0
FindsCutBehind left stop (Ok cut) = cut ≡ is_cut_behind left stop
FindsCutBehind left stop (Err status) = status ≡ ReadFault

-- Frames pass one after the other, from a journal on, each after the samples that are due up to its moment. These are the
-- notifications, and that is the journal after.
abbrev pub ArePassing : Settings → Journal → List Frame → List Note → Journal → Type 0
ArePassing settings journal [] notes after = (notes ≡ []) × (after ≡ journal)
ArePassing settings journal (frame ∷ frames) notes after =
    (first later : List Note) × (ready : Journal) × IsAdvanced settings frame.moment journal first ready × (notes ≡ first ++ later)
    × ArePassing settings (passes frame ∷ ready) frames later after

-- Whatever frames the captures had left and whatever the journal was, the frame that comes next has passed, with these notifications.
abbrev pub HasPassed : (List ℕ → Held) → List (List ℕ) → List Capture → List Capture → Probe → Probe → Coming → List Note → Type 0
HasPassed held names olds news old new coming notes =
    (files : List (List ℕ)) (frame : Frame) (more : List Frame) (stop : Stop) (journal : Journal) → AreHeld held names files → coming ≡ coming_of frame
    → AreLeft 1 olds files (frame ∷ more) stop → Stands old journal
    → AreLeft 1 news files more stop × ((ready : Journal) × IsAdvanced (settings_of old) frame.moment journal notes ready × Stands new (passes frame ∷ ready))

-- some of the frames up to a moment have passed, from a journal on, with these notifications
pub record HasBegun (settings : Settings) (moment : ℕ) (frames : List Frame) (journal : Journal) (notes : List Note) : Type 0 where
  pub passed : List Frame
  pub left : List Frame
  pub reached : Journal
  pub passing : ArePassing settings journal passed notes reached
  pub taken : take_while (is_by moment) frames ≡ passed ++ take_while (is_by moment) left
  pub orderly : IsOrderly reached

-- what the frames up to a moment leave, and what they have made of the probe and the journal, with these notifications
pub record Advanced (settings : Settings) (moment : ℕ) (files : List (List ℕ)) (captures : List Capture) (probe : Probe) (before : ℕ) (frames : List Frame) (stop : Stop) (journal : Journal) (notes : List Note) : Type 0 where
  pub left : AreLeft 1 captures files (frames_after moment frames) stop
  pub reached : Journal
  pub passing : ArePassing settings journal (take_while (is_by moment) frames) notes reached
  pub stands : Stands probe reached
  pub count : passed_of captures + length (frames_after moment frames) ≡ before + length frames

-- the datagram of a request, at its moment
abbrev pub timed : NumberedDatagram → TimedDatagram
timed request = record { moment = request.moment; datagram = request.datagram.now }

-- Whatever the journal is, the response is lawful after these notifications, and the probe stands for the journal after it.
abbrev pub Answers : Probe → Probe → TimedDatagram → List Note → Response → Type 0
Answers old new request notes response =
    (journal : Journal) → Stands old journal
    → (ready after : Journal) × IsAdvanced (settings_of old) request.moment journal notes ready
    × IsAnswered (settings_of old) ready request.moment request.datagram response after × Stands new after

-- What is said next: the notifications up to the moment of a datagram, and a response to it. Whatever may be said from there on may
-- follow.
pub record IsNextSaid (files : List (List ℕ)) (old new : List Capture) (settings : Settings) (probe : Probe) (number : ℕ) (request : TimedDatagram) (frames : List Frame) (stop : Stop) (journal : Journal) (said : List Said) : Type 0 where
  pub left : AreLeft 1 new files (frames_after request.moment frames) stop
  pub count : passed_of new + length (frames_after request.moment frames) ≡ passed_of old + length frames
  pub after : Journal
  pub goes : (more : List Event) (rest : List Said) → AreSaid settings after more rest
      → AreSaid settings journal (comings (take_while (is_by request.moment) frames) ++ Asks number request ∷ more) (said ++ rest)
  pub stands : Stands probe after

-- notifications, and then a response to the datagram of that number
pub record IsResponse (number : ℕ) (said : List Said) : Type 0 where
  pub notes : List Note
  pub moment : ℕ
  pub response : Response
  pub is : said ≡ map Notified notes ++ Responded number moment response ∷ []

-- what is said of one datagram: a response, or notifications alone
abbrev pub IsOfOne : ℕ → List Said → Type 0
IsOfOne number said = IsResponse number said ⊎ ((notes : List Note) × (said ≡ map Notified notes))

-- what is said last: the notifications of the frames that are left, and the last line
abbrev pub IsLastSaid : Settings → ℕ → ℕ → List Frame → Stop → Journal → List Said → Type 0
IsLastSaid settings passed requests frames stop journal said =
    (before : List Said) × AreSaid settings journal (comings frames) before × (said ≡ before ++ Last (is_cut stop) (passed + length frames) requests ∷ [])

-- the last line of so many frames and datagrams, where these frames may be left
abbrev pub IsLastLine : ℕ → ℕ → List Frame → Stop → List Said → Type 0
IsLastLine passed requests left stop said = said ≡ Last (is_cut_behind left stop) passed requests ∷ []

-- no message tells it
abbrev pub TellsNoMessage : List Said → Type 0
TellsNoMessage said = (managers : List Peer) (asking : ℕ → List Peer) → messages managers asking said ≡ []

-- what the result of an output is for the run: one that takes nothing more ends it
abbrev pub told_by : Result (Unit {0}) OutputFault → Result (Unit {0}) Status
told_by (Ok done) = Ok done
told_by (Err fault) = Err (status_for fault)

-- the status of a run by its result
abbrev pub ends_by : {T : Type 0} → Result T Status → Status
ends_by (Ok done) = Done
ends_by (Err status) = status

-- What was said by a step: what it was to say, where nothing but a put or a send failed; some of its notifications where a read did.
-- Captures that are left have no other fault.
abbrev pub SaysNext : {T : Type 0} → (List Said → Type 0) → (List Note → Type 0) → List Said → Result T Status → Type 0
SaysNext IsNext IsBegun said (Ok done) = IsNext said
SaysNext IsNext IsBegun said (Err WriteFault) = IsNext said
SaysNext IsNext IsBegun said (Err LinkFault) = IsNext said
SaysNext IsNext IsBegun said (Err ReadFault) = (notes : List Note) × IsBegun notes × (said ≡ map Notified notes)
SaysNext IsNext IsBegun said (Err status) = ⊥

-- What was said by a step, whatever frames the captures had left and whatever the journal was. Where a read failed, some of the frames up to a
-- moment have passed.
abbrev pub SaysFrom : {T : Type 0} → (List ℕ → Held) → List (List ℕ) → List Capture → Probe → ℕ → (List (List ℕ) → List Frame → Stop → Journal → List Said → Type 0) → List Said → Result T Status → Type 0
SaysFrom held names captures probe moment IsNext said result =
    (files : List (List ℕ)) (frames : List Frame) (stop : Stop) (journal : Journal) → AreHeld held names files → AreLeft 1 captures files frames stop → Stands probe journal
    → SaysNext (IsNext files frames stop journal) (HasBegun (settings_of probe) moment frames journal) said result

-- what failed last after a step: nothing, or what it ends by
abbrev pub FailsBy : {T : Type 0} → Option OutputFault → Result T Status → Type 0
FailsBy failed (Ok done) = failed ≡ None
FailsBy failed (Err WriteFault) = failed ≡ Some Put
FailsBy failed (Err LinkFault) = failed ≡ Some Send
FailsBy failed (Err status) = ⊤

-- what was said: all of it, or the first of it where a read, a put or a call on the link failed
abbrev pub SaysFirst : {T : Type 0} → (List Said → Type 0) → List Said → Result T Status → Type 0
SaysFirst IsAll said (Ok done) = IsAll said
SaysFirst IsAll said (Err WriteFault) = (rest : List Said) × IsAll (said ++ rest)
SaysFirst IsAll said (Err LinkFault) = (rest : List Said) × IsAll (said ++ rest)
SaysFirst IsAll said (Err ReadFault) = (rest : List Said) × IsAll (said ++ rest)
SaysFirst IsAll said (Err other) = ⊥

-- what was said by a run
abbrev pub SaysRun : {T : Type 0} → Settings → List Frame → Stop → List TimedDatagram → List Said → Result T Status → Type 0
SaysRun settings frames stop requests said result = SaysFirst (IsRun settings frames stop requests) said result

-- what a run writes: its text, or a front of it where a read or a put failed, or nothing for want of memory
abbrev pub Writes : Settings → List Frame → Stop → List TimedDatagram → Option (List ℕ) → Option (List ℕ) → Status → Type 0
Writes settings frames stop requests old new Done = (text : List ℕ) × IsText settings frames stop requests text × Adds old new text
Writes settings frames stop requests old new WriteFault = (text : List ℕ) × IsText settings frames stop requests text × AddsFront old new text
Writes settings frames stop requests old new ReadFault = (text : List ℕ) × IsText settings frames stop requests text × AddsFront old new text
Writes settings frames stop requests old new NoMemory = new ≡ old
Writes settings frames stop requests old new other = ⊥

-- what isn't of a call on a capture, nor of a put or a send
abbrev pub IsForeign : Status → Type 0
IsForeign Done = ⊤
IsForeign Usage = ⊤
IsForeign (BadRequests line) = ⊤
IsForeign NoMemory = ⊤
IsForeign status = ⊥

-- these don't come once all files were judged and the captures were begun
abbrev pub IsQuiet : Status → Type 0
IsQuiet Usage = ⊤
IsQuiet NoMemory = ⊤
IsQuiet status = ⊥

-- the files held aren't captures, or these aren't left of them
abbrev pub AreNotCaptures : ℕ → (List ℕ → Held) → List (List ℕ) → Type 0
AreNotCaptures lead held names = (files : List (List ℕ)) → AreHeld held names files → AreCaptureFiles lead files → ⊥

abbrev pub AreNotLeft : (List ℕ → Held) → List (List ℕ) → List Capture → Type 0
AreNotLeft held names captures = (files : List (List ℕ)) (frames : List Frame) (stop : Stop) → AreHeld held names files → AreLeft 1 captures files frames stop → ⊥

-- no request file is held
abbrev pub IsNotRequests : Held → Type 0
IsNotRequests held = (bytes : List ℕ) → held ≡ File bytes → IsRequestFile bytes → ⊥

-- All files were judged before they are read again: where a fault of one is found, a shelf held another one then.
abbrev pub FindsAnother : Type 0 → Type 0 → Status → Type 0
FindsAnother NoCapture NoRequests (BadCapture interface at) = NoCapture
FindsAnother NoCapture NoRequests (BadRequests line) = NoRequests
FindsAnother NoCapture NoRequests TooLong = NoCapture ⊎ NoRequests
FindsAnother NoCapture NoRequests status = ⊤
