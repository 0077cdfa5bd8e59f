-- How a run ends: what each status says of the files and of the sink.
use Rattle.std.specs.Prelude.{◌≡◌, ◌⊎◌, ℕ, List, map, Result, Ok, Err, ⊤}
use Rattle.rm_edge.specs.Outside.{Held, File, OfFile, Adds, AddsFront}
use Rattle.rm_model.specs.Journal.{Frame}
use Rattle.rm_pcap.specs.Records.{Stop}
use Rattle.rm_captures.specs.Rounds.{AreCaptures, AreCaptureFiles, IsFirstFault}
use Rattle.rm_captures.specs.Told.{OfFiles}
use Rattle.rm_captures.specs.declared.fault.CaptureFault.{CaptureFault}
use Rattle.rm_probe.specs.Capture.{AreTold, CallsFor, HasReadFaults, helds_of, status_of}
use Rattle.rm_requests.specs.Lines.{TimedDatagram, HasTooManyLines, AreRequests, IsRequestFile, IsWrongAt}
use Rattle.rm_requests.specs.Reading.{beginning, reached_of}
use Rattle.rm_requests.specs.declared.requests.Requests.{Requests}
use Rattle.rm_probe.specs.Text.{IsText}
use Rattle.rm_edge.specs.Uses.{FileUse, SinkUse, HasReadFault, HasPutFault, IsUntouched}
use Rattle.rm_settings.specs.declared.settings.Settings.{Settings}
use Rattle.rm_probe.specs.declared.status.Status.{Status}
use Rattle.rm_probe.specs.declared.status.Status.TheVariants.{Done, Usage, BadCapture, BadRequests, ReadFault, WriteFault, NoMemory, LinkFault, TooLong}

-- all files are of the form, and P holds of all their frames, of how the records stop, and of all datagrams
abbrev pub OfAll : ℕ → List Held → Held → (List Frame → Stop → List TimedDatagram → Type 0) → Type 0
OfAll lead captures requests P = OfFiles captures (AreCaptureFiles lead) × OfFile requests IsRequestFile
    × OfFiles captures (λ files. OfFile requests (λ lines.
    (frames : List Frame) (stop : Stop) (asked : List TimedDatagram) → AreCaptures lead files frames stop → AreRequests lines asked → P frames stop asked))

-- the octets added are a text of all files
abbrev pub WritesText : Settings → ℕ → List FileUse → FileUse → SinkUse → Type 0
WritesText settings lead captures requests out =
    OfAll lead (helds_of captures) requests.held (λ frames stop asked. (text : List ℕ) × IsText settings frames stop asked text × Adds out.content out.content_after text)

-- the octets added are a front of such a text
abbrev pub WritesFront : Settings → ℕ → List FileUse → FileUse → SinkUse → Type 0
WritesFront settings lead captures requests out =
    OfAll lead (helds_of captures) requests.held (λ frames stop asked. (text : List ℕ) × IsText settings frames stop asked text × AddsFront out.content out.content_after text)

-- A read failed: of a capture, or, where all captures are judged and good, of the request file.
abbrev pub HasFailedRead : ℕ → List FileUse → FileUse → Type 0
HasFailedRead lead captures requests = HasReadFaults captures ⊎ (OfFiles (helds_of captures) (AreCaptureFiles lead) × HasReadFault requests)

-- What a status says of the files and of the sink. All are read again while the lines are written: a read may
-- fail then, and a shelf that doesn't tell what it holds may then have other files.
abbrev pub Ends : Settings → ℕ → List FileUse → FileUse → SinkUse → Status → Type 0
Ends settings lead captures requests out Done = WritesText settings lead captures requests out
Ends settings lead captures requests out (BadCapture interface at) = CallsFor lead (BadCapture interface at) (helds_of captures) × (AreTold (helds_of captures) → IsUntouched out)
Ends settings lead captures requests out (BadRequests line) =
    OfFiles (helds_of captures) (AreCaptureFiles lead) × OfFile requests.held (λ lines. IsWrongAt line lines × IsUntouched out)
Ends settings lead captures requests out TooLong =
    (CallsFor lead TooLong (helds_of captures) × (AreTold (helds_of captures) → IsUntouched out))
    ⊎ (OfFiles (helds_of captures) (AreCaptureFiles lead) × OfFile requests.held (λ lines. HasTooManyLines lines × IsUntouched out))
Ends settings lead captures requests out ReadFault =
    HasFailedRead lead captures requests × (IsUntouched out ⊎ WritesFront settings lead captures requests out)
Ends settings lead captures requests out WriteFault = HasPutFault out × WritesFront settings lead captures requests out
Ends settings lead captures requests out NoMemory = IsUntouched out
Ends settings lead captures requests out Usage = ⊥
Ends settings lead captures requests out LinkFault = ⊥

-- with these nothing was written, whatever the shelf tells
abbrev pub IsSilent : Status → Type 0
IsSilent Usage = ⊤
IsSilent NoMemory = ⊤
IsSilent LinkFault = ⊤
IsSilent status = ⊥

-- the status comes, but for want of memory or a failed read
abbrev pub Comes : Status → Status → Type 0
Comes status result = (result ≡ status) ⊎ (result ≡ NoMemory) ⊎ (result ≡ ReadFault)

-- Each status comes wherever the files call for it, the captures judged before the request file. Line 1000001 isn't
-- judged, and a wrong line before it comes first.
pub record IsExact (lead : ℕ) (captures : List Held) (requests : Held) (result : Status) : Type 0 where
  pub bad_capture : (files : List (List ℕ)) (found : CaptureFault) → captures ≡ map File files → IsFirstFault lead files found → Comes (status_of found) result
  pub long_requests : (files : List (List ℕ)) (lines : List ℕ) → captures ≡ map File files → AreCaptureFiles lead files → requests ≡ File lines → HasTooManyLines lines → Comes TooLong result
  pub bad_requests : (files : List (List ℕ)) (lines : List ℕ) (line : ℕ) → captures ≡ map File files → AreCaptureFiles lead files → requests ≡ File lines → IsWrongAt line lines
      → Comes (BadRequests line) result

-- Where all files are of the form and no call failed, the run is done, or found no memory.
abbrev pub IsComplete : ℕ → List FileUse → FileUse → SinkUse → Status → Type 0
IsComplete lead captures requests out result =
    (files : List (List ℕ)) (lines : List ℕ) → helds_of captures ≡ map File files → requests.held ≡ File lines → AreCaptureFiles lead files → IsRequestFile lines
    → (HasReadFaults captures → ⊥) → (HasReadFault requests → ⊥) → (HasPutFault out → ⊥)
    → (result ≡ Done) ⊎ (result ≡ NoMemory)

-- What judging all files answers: what reads the request file again from its first line on, or for what a run ends before anything is written.
abbrev pub JudgesFiles : ℕ → List FileUse → FileUse → Result Requests Status → Type 0
JudgesFiles lead captures requests (Ok reader) =
    OfFiles (helds_of captures) (AreCaptureFiles lead) × OfFile requests.held IsRequestFile × (reached_of reader ≡ beginning)
JudgesFiles lead captures requests (Err (BadCapture interface at)) = CallsFor lead (BadCapture interface at) (helds_of captures)
JudgesFiles lead captures requests (Err (BadRequests line)) = OfFiles (helds_of captures) (AreCaptureFiles lead) × OfFile requests.held (IsWrongAt line)
JudgesFiles lead captures requests (Err TooLong) =
    CallsFor lead TooLong (helds_of captures) ⊎ (OfFiles (helds_of captures) (AreCaptureFiles lead) × OfFile requests.held HasTooManyLines)
JudgesFiles lead captures requests (Err ReadFault) = HasFailedRead lead captures requests
JudgesFiles lead captures requests (Err NoMemory) = ⊤
JudgesFiles lead captures requests (Err other) = ⊥
