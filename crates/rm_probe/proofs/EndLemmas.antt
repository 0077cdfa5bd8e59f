-- How the parts of a run make its end.
use Rattle.std.proofs.Common.{◌≡◌, ◌⊎◌, ℕ, List, [], map, Option, Ok, Err, refl, sym, ap, ◌∙◌, subst, arith, inl, inr}
use Rattle.rm_edge.specs.Outside.{Held, File, OfFile, AddsFront}
use Rattle.rm_model.specs.Journal.{Frame}
use Rattle.rm_pcap.specs.Records.{Stop}
use Rattle.rm_pcap.specs.declared.capture.Capture.{Capture}
use Rattle.rm_pcap.specs.declared.fault.PcapFault.{PcapFault}
use Rattle.rm_pcap.specs.declared.fault.PcapFault.TheVariants.{Magic, Version, LinkType, Included, Original, Late, TooMany, Read, NoMemory as OutOfMemory}
use Rattle.rm_captures.specs.Left.{AreLeft, IsOfRecords}
use Rattle.rm_captures.specs.Reading.{AreHeld, AreReady, IsExcused}
use Rattle.rm_captures.specs.Rounds.{AreCaptureFiles, AreCaptures, AreRead, first_round}
use Rattle.rm_captures.specs.Told.{CallFor, OfFiles}
use Rattle.rm_captures.specs.declared.fault.CaptureFault.{CaptureFault}
use Rattle.rm_captures.proofs.PassLemmas.{all_left}
use Rattle.rm_captures.proofs.RoundLemmas.{held_still}
use Rattle.rm_settings.specs.declared.settings.Settings.{Settings}
use Rattle.rm_probe.specs.Capture.{AreTold, CallsFor, HasReadFaults, helds_of, status_by, status_of}
use Rattle.rm_requests.specs.Lines.{TimedDatagram, AreRequests, HasTooManyLines, IsFirstWrong, IsRequestFile, IsWrongAt}
use Rattle.rm_requests.specs.declared.fault.RequestsFault.{RequestsFault}
use Rattle.rm_requests.specs.declared.fault.RequestsFault.TheVariants.{Line, TooLong as TooManyLines, Read as ReadFailed}
use Rattle.rm_requests.proofs.EachLineLemmas.{none_wrong, one_first}
use Rattle.std.specs.Str.Lines.{lines as lines_of}
use Rattle.rm_agent.specs.Orderly.{IsOrderly}
use Rattle.rm_probe.specs.Said.{lines}
use Rattle.rm_probe.specs.Output.{adds_none}
use Rattle.rm_probe.specs.Text.{IsText}
use Rattle.rm_probe.specs.Steps.{AreNotCaptures, AreNotLeft, FindsAnother, IsNotRequests, IsOfCapture, JudgesCaptures, Writes}
use Rattle.rm_probe.specs.Requests.{JudgesRequests, status_by as status_of_requests}
use Rattle.rm_edge.specs.Uses.{FileUse, SinkUse, HasReadFault, HasPutFault, IsUntouched}
use Rattle.rm_probe.specs.Ends.{Ends, OfAll, JudgesFiles, IsExact, IsComplete, IsSilent, Comes}
use Rattle.rm_probe.specs.declared.status.Status.{Status}
use Rattle.rm_probe.specs.declared.status.Status.TheVariants.{Done, Usage, BadCapture, BadRequests, ReadFault, WriteFault, NoMemory, LinkFault, TooLong}
use Rattle.rm_probe.proofs.FaultLemmas.{OneReading, called_first, not_broken, same_fault}
use Rattle.rm_probe.proofs.FileLemmas.{files_of, held_are, of_files, of_told, told, told_files}
use Rattle.rm_probe.proofs.InOrderLemmas.{FramesRise, RequestsRise, run_in_order}
use Rattle.rm_probe.proofs.PassingLemmas.{SomethingSaid}
use Rattle.rm_probe.proofs.RunLemmas.{said_none}

-- a run that has written nothing has written a front
pub text_none : (settings : Settings) → SomethingSaid → IsOrderly [] → (old : Option (List ℕ)) (frames : List Frame) (stop : Stop) (requests : List TimedDatagram) → FramesRise frames → RequestsRise requests
    → (text : List ℕ) × IsText settings frames stop requests text × AddsFront old old text
text_none settings every orderly old frames stop requests frames_order requests_order =
    let (said, run) = said_none settings every orderly frames stop requests in
    (lines said, record { said = said; is_run = run_in_order settings frames stop requests said frames_order requests_order run; whole = refl }, (0, adds_none old))

-- the fault of a failed read
abbrev pub unread : ℕ → CaptureFault
unread interface = record { interface = interface; fault = Read }

-- a fault of a record or of a read, as a run ends by it
pub of_records : (interface : ℕ) (fault : PcapFault) → IsOfRecords fault → IsOfCapture (status_by interface fault)
of_records interface Read kind = tt
of_records interface (Included at) kind = tt
of_records interface (Original at) kind = tt
of_records interface (Late at) kind = tt
of_records interface TooMany kind = tt
of_records interface Magic kind = absurd kind
of_records interface Version kind = absurd kind
of_records interface LinkType kind = absurd kind
of_records interface OutOfMemory kind = absurd kind

-- of a fault, only a failed read ends so
pub read_by : (interface : ℕ) (fault : PcapFault) → status_by interface fault ≡ ReadFault → fault ≡ Read
read_by interface Read is = refl
read_by interface (Included at) is = absurd cc
read_by interface (Original at) is = absurd cc
read_by interface (Late at) is = absurd cc
read_by interface TooMany is = absurd cc
read_by interface Magic is = absurd cc
read_by interface Version is = absurd cc
read_by interface LinkType is = absurd cc
read_by interface OutOfMemory is = absurd cc

pub not_written : (interface : ℕ) (fault : PcapFault) → status_by interface fault ≡ WriteFault → ⊥
not_written interface Read is = absurd cc
not_written interface (Included at) is = absurd cc
not_written interface (Original at) is = absurd cc
not_written interface (Late at) is = absurd cc
not_written interface TooMany is = absurd cc
not_written interface Magic is = absurd cc
not_written interface Version is = absurd cc
not_written interface LinkType is = absurd cc
not_written interface OutOfMemory is = absurd cc

pub found_read : (found : CaptureFault) → found.fault ≡ Read → status_of found ≡ ReadFault
found_read found is = ap (status_by found.interface) is

-- only want of memory is silent
pub silent_by : (interface : ℕ) (fault : PcapFault) → IsSilent (status_by interface fault) → status_by interface fault ≡ NoMemory
silent_by interface Read silent = absurd silent
silent_by interface (Included at) silent = absurd silent
silent_by interface (Original at) silent = absurd silent
silent_by interface (Late at) silent = absurd silent
silent_by interface TooMany silent = absurd silent
silent_by interface Magic silent = absurd silent
silent_by interface Version silent = absurd silent
silent_by interface LinkType silent = absurd silent
silent_by interface OutOfMemory silent = refl

-- after calls that change nothing
pub left_still : (old new : List ℕ → Held) (names : List (List ℕ)) (captures : List Capture) (NoRequests : Type 0) (status : Status) → ((each : List ℕ) → new each ≡ old each)
    → FindsAnother (AreNotLeft new names captures) NoRequests status → FindsAnother (AreNotLeft old names captures) NoRequests status
left_still old new names captures NoRequests status same finds = by_status status finds
  where
    none : AreNotLeft new names captures → AreNotLeft old names captures
    none never files frames stop are left = never files frames stop (held_still old new names files same are) left

    by_status : (status : Status) → FindsAnother (AreNotLeft new names captures) NoRequests status → FindsAnother (AreNotLeft old names captures) NoRequests status
    by_status (BadCapture interface at) finds = none finds
    by_status (BadRequests line) finds = finds
    by_status TooLong (inl never) = inl (none never)
    by_status TooLong (inr requests) = inr requests
    by_status status finds = tt

-- these files aren't captures, by what is held of them
abbrev pub AreOther : ℕ → List Held → Type 0
AreOther lead helds = (files : List (List ℕ)) → helds ≡ map File files → AreCaptureFiles lead files → ⊥

pub others_are : (lead : ℕ) (held : List ℕ → Held) (names : List (List ℕ)) (helds : List Held) (NoRequests : Type 0) (status : Status) → helds ≡ map held names
    → FindsAnother (AreNotCaptures lead held names) NoRequests status → FindsAnother (AreOther lead helds) NoRequests status
others_are lead held names helds NoRequests status same finds = by_status status finds
  where
    other : AreNotCaptures lead held names → AreOther lead helds
    other another files are good = another files (held_are held names files (sym same ∙ are)) good

    by_status : (status : Status) → FindsAnother (AreNotCaptures lead held names) NoRequests status → FindsAnother (AreOther lead helds) NoRequests status
    by_status (BadCapture interface at) finds = other finds
    by_status (BadRequests line) finds = finds
    by_status TooLong (inl another) = inl (other another)
    by_status TooLong (inr requests) = inr requests
    by_status status finds = tt

module _ (lead : ℕ) where
  -- captures were begun of these files, with the time at the lead that the first round finds
  abbrev pub AreBegun : List (List ℕ) → List Capture → Type 0
  AreBegun files captures = (base : Option ℕ) × (first_round lead 1 files ≡ Ok base) × AreReady base lead 1 files captures

  -- they have all their frames left
  pub begun_left : (files : List (List ℕ)) (frames : List Frame) (stop : Stop) (captures : List Capture) → AreBegun files captures → AreCaptures lead files frames stop → AreLeft 1 captures files frames stop
  begun_left files frames stop captures (base, first, ready) are =
      let e = sym are.begins ∙ first in
      let same : are.base ≡ base = cc in
      all_left base lead 1 files captures frames stop ready (subst (λ (b : Option ℕ). AreRead b lead 1 files frames stop) same are.read)

  -- captures can't be begun again only for want of memory, or by a failed read
  pub writes_none : (settings : Settings) (files : List (List ℕ)) (frames : List Frame) (stop : Stop) (asked : List TimedDatagram) (old : Option (List ℕ)) (found : CaptureFault)
      → IsExcused found.fault ⊎ (first_round lead 1 files ≡ Err found) → AreCaptures lead files frames stop → (text : List ℕ) × IsText settings frames stop asked text × AddsFront old old text
      → Writes settings frames stop asked old old (status_of found)
  writes_none settings files frames stop asked old found (inl (inl read)) are front = subst (λ (fault : PcapFault). Writes settings frames stop asked old old (status_by found.interface fault)) (sym read) front
  writes_none settings files frames stop asked old found (inl (inr none)) are front = subst (λ (fault : PcapFault). Writes settings frames stop asked old old (status_by found.interface fault)) (sym none) refl
  writes_none settings files frames stop asked old found (inr first) are front = absurd (let e = sym are.begins ∙ first in cc)

  -- what judging captures answers
  pub judged_by : (helds : List Held) (Failed : Type 0) (found : CaptureFault) → (found.fault ≡ Read → Failed) → IsExcused found.fault ⊎ CallFor lead helds found → JudgesCaptures {T = Unit {0}} lead helds Failed (Err (status_of found))
  judged_by helds Failed found risen told_so = by_fault found.fault refl
    where
      called : (fault : PcapFault) → found.fault ≡ fault → (IsExcused fault → ⊥) → CallsFor lead (status_by found.interface fault) helds
      called fault is other = elim told_so [
        | inl excused ↦ absurd (other (subst IsExcused is excused))
        | inr calls ↦ (found, ap (status_by found.interface) (sym is), calls)
      ]

      by_fault : (fault : PcapFault) → found.fault ≡ fault → JudgesCaptures {T = Unit {0}} lead helds Failed (Err (status_by found.interface fault))
      by_fault Read is = risen is
      by_fault OutOfMemory is = tt
      by_fault Magic is = called Magic is (λ e. elim e [ inl f ↦ absurd cc | inr f ↦ absurd cc ])
      by_fault Version is = called Version is (λ e. elim e [ inl f ↦ absurd cc | inr f ↦ absurd cc ])
      by_fault LinkType is = called LinkType is (λ e. elim e [ inl f ↦ absurd cc | inr f ↦ absurd cc ])
      by_fault (Included at) is = called (Included at) is (λ e. elim e [ inl f ↦ absurd cc | inr f ↦ absurd cc ])
      by_fault (Original at) is = called (Original at) is (λ e. elim e [ inl f ↦ absurd cc | inr f ↦ absurd cc ])
      by_fault (Late at) is = called (Late at) is (λ e. elim e [ inl f ↦ absurd cc | inr f ↦ absurd cc ])
      by_fault TooMany is = called TooMany is (λ e. elim e [ inl f ↦ absurd cc | inr f ↦ absurd cc ])

  -- all files judged, the captures first
  pub first_refused : (cs : List FileUse) (r : FileUse) (Failed : Type 0) (status : Status) → (Failed → HasReadFaults cs) → JudgesCaptures {T = Unit {0}} lead (helds_of cs) Failed (Err status) → JudgesFiles lead cs r (Err status)
  first_refused cs r Failed (BadCapture interface at) risen h = h
  first_refused cs r Failed TooLong risen h = inl h
  first_refused cs r Failed ReadFault risen h = inl (risen h)
  first_refused cs r Failed NoMemory risen h = tt
  first_refused cs r Failed status risen h = absurd h

  -- a fault of the request file
  pub then_refused : (cs : List FileUse) (r : FileUse) (fault : RequestsFault) → OfFiles (helds_of cs) (AreCaptureFiles lead) → JudgesRequests {T = Unit {0}} r.held (Err fault) → (fault ≡ ReadFailed → HasReadFault r)
      → JudgesFiles lead cs r (Err (status_of_requests fault))
  then_refused cs r (Line line) form judged risen = (form, judged)
  then_refused cs r TooManyLines form judged risen = inr (form, judged)
  then_refused cs r ReadFailed form judged risen = inr (form, risen refl)

  -- a run that ends by what was judged
  pub refused : (settings : Settings) (cs : List FileUse) (r : FileUse) (out : SinkUse) (status : Status) → IsUntouched out → JudgesFiles lead cs r (Err status) → Ends settings lead cs r out status
  refused settings cs r out (BadCapture interface at) still judged = (judged, λ told_all. still)
  refused settings cs r out (BadRequests line) still (form, wrong) = (form, of_told r.held (IsWrongAt line) _ (λ lines is w. (w, still)) wrong)
  refused settings cs r out TooLong still (inl called) = inl (called, λ told_all. still)
  refused settings cs r out TooLong still (inr (form, many)) = inr (form, of_told r.held HasTooManyLines _ (λ lines is m. (m, still)) many)
  refused settings cs r out ReadFault still judged = (judged, inl still)
  refused settings cs r out NoMemory still judged = still
  refused settings cs r out status still judged = absurd judged

  -- a fact of all files
  all_of : (cs : List Held) (r : Held) (P : List Frame → Stop → List TimedDatagram → Type 0) → OfFiles cs (AreCaptureFiles lead) → OfFile r IsRequestFile
      → ((files : List (List ℕ)) (lines : List ℕ) (frames : List Frame) (stop : Stop) (asked : List TimedDatagram) → cs ≡ map File files → r ≡ File lines → AreCaptures lead files frames stop → AreRequests lines asked → P frames stop asked)
      → OfAll lead cs r P
  all_of cs r P form are p = (form, are, of_files cs (AreCaptureFiles lead) _ (λ files is good. of_told r IsRequestFile _ (λ lines isr requests frames stop asked. p files lines frames stop asked is isr) are) form)

  -- other captures call for each fault, and aren't told
  pub other_calls : (helds : List Held) (interface : ℕ) (fault : PcapFault) → OfFiles helds (AreCaptureFiles lead) → AreOther lead helds → CallsFor lead (status_by interface fault) helds
  other_calls helds interface fault form another = (
    record { interface = interface; fault = fault },
    refl,
    inr (of_files helds (AreCaptureFiles lead) _ (λ files is good. absurd (another files is good)) form),
  )

  pub other_told : (P : Type 0) (helds : List Held) → OfFiles helds (AreCaptureFiles lead) → AreOther lead helds → AreTold helds → P
  other_told P helds form another told_all = let (files, is, good) = files_of helds (AreCaptureFiles lead) told_all form in absurd (another files is good)

  -- how the run itself ends
  pub written : (settings : Settings) (cs : List FileUse) (r : FileUse) (out : SinkUse) (status : Status)
      → OfFiles (helds_of cs) (AreCaptureFiles lead) → OfFile r.held IsRequestFile
      → ((files : List (List ℕ)) (lines : List ℕ) (frames : List Frame) (stop : Stop) (asked : List TimedDatagram) → helds_of cs ≡ map File files → r.held ≡ File lines → AreCaptures lead files frames stop → AreRequests lines asked
      → Writes settings frames stop asked out.content out.content_after status)
      → FindsAnother (AreOther lead (helds_of cs)) (IsNotRequests r.held) status
      → (status ≡ ReadFault → HasReadFaults cs ⊎ HasReadFault r) → (status ≡ WriteFault → HasPutFault out) → (IsSilent status → status ≡ NoMemory) → (IsSilent status → IsUntouched out)
      → Ends settings lead cs r out status
  written settings cs r out Done form are text finds risen cut kinds silent = all_of (helds_of cs) r.held _ form are text
  written settings cs r out WriteFault form are text finds risen cut kinds silent = (cut refl, all_of (helds_of cs) r.held _ form are text)
  written settings cs r out ReadFault form are text finds risen cut kinds silent = (elim (risen refl) [ inl rose ↦ inl rose | inr rose ↦ inr (form, rose) ], inr (all_of (helds_of cs) r.held _ form are text))
  written settings cs r out (BadCapture interface at) form are text finds risen cut kinds silent = (other_calls (helds_of cs) interface (Included at) form finds, other_told (IsUntouched out) (helds_of cs) form finds)
  written settings cs r out (BadRequests line) form are text finds risen cut kinds silent = (form, of_told r.held IsRequestFile _ (λ lines is good. absurd (finds lines is good)) are)
  written settings cs r out TooLong form are text (inl another) risen cut kinds silent = inl (other_calls (helds_of cs) 1 TooMany form another, other_told (IsUntouched out) (helds_of cs) form another)
  written settings cs r out TooLong form are text (inr another) risen cut kinds silent = inr (form, of_told r.held IsRequestFile _ (λ lines is good. absurd (another lines is good)) are)
  written settings cs r out NoMemory form are text finds risen cut kinds silent = silent tt
  written settings cs r out Usage form are text finds risen cut kinds silent = absurd (let e = kinds tt in cc)
  written settings cs r out LinkFault form are text finds risen cut kinds silent = absurd (let e = kinds tt in cc)

  -- what another file means where the captures are begun again, and where they aren't
  pub another_left : (held : List ℕ → Held) (names : List (List ℕ)) (captures : List Capture) (NoRequests : Type 0) (status : Status)
      → ((files : List (List ℕ)) (frames : List Frame) (stop : Stop) → AreHeld held names files → AreCaptures lead files frames stop → AreLeft 1 captures files frames stop)
      → FindsAnother (AreNotLeft held names captures) NoRequests status → FindsAnother (AreNotCaptures lead held names) NoRequests status
  another_left held names captures NoRequests status left finds = by_status status finds
    where
      none : AreNotLeft held names captures → AreNotCaptures lead held names
      none never files are (frames, stop, whole) = never files frames stop are (left files frames stop are whole)

      by_status : (status : Status) → FindsAnother (AreNotLeft held names captures) NoRequests status → FindsAnother (AreNotCaptures lead held names) NoRequests status
      by_status (BadCapture interface at) finds = none finds
      by_status (BadRequests line) finds = finds
      by_status TooLong (inl never) = inl (none never)
      by_status TooLong (inr requests) = inr requests
      by_status status finds = tt

  -- after calls that change nothing
  pub another_still : (old new : List ℕ → Held) (names : List (List ℕ)) (NoRequests : Type 0) (status : Status) → ((each : List ℕ) → new each ≡ old each)
      → FindsAnother (AreNotCaptures lead new names) NoRequests status → FindsAnother (AreNotCaptures lead old names) NoRequests status
  another_still old new names NoRequests status same finds = by_status status finds
    where
      none : AreNotCaptures lead new names → AreNotCaptures lead old names
      none never files are good = never files (held_still old new names files same are) good

      by_status : (status : Status) → FindsAnother (AreNotCaptures lead new names) NoRequests status → FindsAnother (AreNotCaptures lead old names) NoRequests status
      by_status (BadCapture interface at) finds = none finds
      by_status (BadRequests line) finds = finds
      by_status TooLong (inl never) = inl (none never)
      by_status TooLong (inr requests) = inr requests
      by_status status finds = tt

  pub another_begun : (held : List ℕ → Held) (names : List (List ℕ)) (NoRequests : Type 0) (found : CaptureFault)
      → ((files : List (List ℕ)) → AreHeld held names files → IsExcused found.fault ⊎ (first_round lead 1 files ≡ Err found)) → FindsAnother (AreNotCaptures lead held names) NoRequests (status_of found)
  another_begun held names NoRequests found faults = by_fault found.fault refl
    where
      none : (fault : PcapFault) → found.fault ≡ fault → (IsExcused fault → ⊥) → AreNotCaptures lead held names
      none fault same other files are (frames, stop, whole) = elim (faults files are) [
        | inl excused ↦ other (subst IsExcused same excused)
        | inr first ↦ absurd (let e = sym whole.begins ∙ first in cc)
      ]

      by_fault : (fault : PcapFault) → found.fault ≡ fault → FindsAnother (AreNotCaptures lead held names) NoRequests (status_by found.interface fault)
      by_fault Read is = tt
      by_fault OutOfMemory is = tt
      by_fault TooMany is = inl (none TooMany is (λ e. elim e [ inl f ↦ absurd cc | inr f ↦ absurd cc ]))
      by_fault Magic is = none Magic is (λ e. elim e [ inl f ↦ absurd cc | inr f ↦ absurd cc ])
      by_fault Version is = none Version is (λ e. elim e [ inl f ↦ absurd cc | inr f ↦ absurd cc ])
      by_fault LinkType is = none LinkType is (λ e. elim e [ inl f ↦ absurd cc | inr f ↦ absurd cc ])
      by_fault (Included at) is = none (Included at) is (λ e. elim e [ inl f ↦ absurd cc | inr f ↦ absurd cc ])
      by_fault (Original at) is = none (Original at) is (λ e. elim e [ inl f ↦ absurd cc | inr f ↦ absurd cc ])
      by_fault (Late at) is = none (Late at) is (λ e. elim e [ inl f ↦ absurd cc | inr f ↦ absurd cc ])

  not_many : (lines : List ℕ) → HasTooManyLines lines → IsRequestFile lines → ⊥
  not_many lines many are = omega (arith, many.many, are.1.few)

  not_both : (lines : List ℕ) (line : ℕ) → HasTooManyLines lines → IsWrongAt line lines → ⊥
  not_both lines line many wrong = omega (arith, many.good line wrong.0, wrong.1)

  not_wrong : (lines : List ℕ) (line : ℕ) → IsWrongAt line lines → IsRequestFile lines → ⊥
  not_wrong lines line wrong are = none_wrong (lines_of lines) line are.0 are.1.are wrong.0

  same_line : (lines : List ℕ) (m n : ℕ) → IsFirstWrong m (lines_of lines) → IsFirstWrong n (lines_of lines) → m ≡ n
  same_line lines m n first second = one_first (lines_of lines) m n first second

  -- where all files are of the form, nothing else is called for
  of_forms : OneReading → (cs : List Held) (r : Held) (status : Status) → OfFiles cs (AreCaptureFiles lead) → OfFile r IsRequestFile → IsExact lead cs r status
  of_forms one cs r status form are = record {
    bad_capture = λ files found is broken. absurd (not_broken one lead files found broken (told_files cs files (AreCaptureFiles lead) is form));
    long_requests = λ files lines is good isr long. absurd (not_many lines long (told r lines IsRequestFile isr are));
    bad_requests = λ files lines line is good isr wrong. absurd (not_wrong lines line wrong (told r lines IsRequestFile isr are));
  }

  -- where the captures have that fault, nothing is asked of the request file
  of_fault : OneReading → (cs : List Held) (r : Held) (status : Status) → CallsFor lead status cs → IsExact lead cs r status
  of_fault one cs r status calls = record {
    bad_capture = λ files found is broken.
        let (first, ends, is_first) = called_first lead cs files status is calls in inl (ends ∙ same_fault one lead files first found is_first broken);
    long_requests = λ files lines is good isr long. absurd (let (first, ends, is_first) = called_first lead cs files status is calls in not_broken one lead files first is_first good);
    bad_requests = λ files lines line is good isr wrong. absurd (let (first, ends, is_first) = called_first lead cs files status is calls in not_broken one lead files first is_first good);
  }

  -- one of the statuses that may come in place of every other
  of_free : (cs : List Held) (r : Held) (status : Status) → ((other : Status) → Comes other status) → IsExact lead cs r status
  of_free cs r status free = record {
    bad_capture = λ files found is broken. free (status_of found);
    long_requests = λ files lines is good isr long. free TooLong;
    bad_requests = λ files lines line is good isr wrong. free (BadRequests line);
  }

  pub is_exact : (settings : Settings) → OneReading → (cs : List FileUse) (r : FileUse) (out : SinkUse) (status : Status) → Ends settings lead cs r out status → IsExact lead (helds_of cs) r.held status
  is_exact settings one cs r out Done ends = of_forms one (helds_of cs) r.held Done ends.0 ends.1
  is_exact settings one cs r out WriteFault ends = of_forms one (helds_of cs) r.held WriteFault ends.1.0 ends.1.1
  is_exact settings one cs r out (BadCapture interface at) ends = of_fault one (helds_of cs) r.held (BadCapture interface at) ends.0
  is_exact settings one cs r out (BadRequests at) ends =
      let wrong_at = λ (lines : List ℕ) (isr : r.held ≡ File lines). (told r.held lines (λ b. IsWrongAt at b × IsUntouched out) isr ends.1).0 in
      record {
        bad_capture = λ files found is broken. absurd (not_broken one lead files found broken (told_files (helds_of cs) files (AreCaptureFiles lead) is ends.0));
        long_requests = λ files lines is good isr many. absurd (not_both lines at many (wrong_at lines isr));
        bad_requests = λ files lines line is good isr wrong. inl (ap BadRequests (same_line lines at line (wrong_at lines isr).0 wrong.0));
      }
  is_exact settings one cs r out TooLong (inl called) = of_fault one (helds_of cs) r.held TooLong called.0
  is_exact settings one cs r out TooLong (inr many) = record {
    bad_capture = λ files found is broken. absurd (not_broken one lead files found broken (told_files (helds_of cs) files (AreCaptureFiles lead) is many.0));
    long_requests = λ files lines is good isr more. inl refl;
    bad_requests = λ files lines line is good isr wrong. absurd (not_both lines line (told r.held lines (λ b. HasTooManyLines b × IsUntouched out) isr many.1).0 wrong);
  }
  is_exact settings one cs r out ReadFault ends = of_free (helds_of cs) r.held ReadFault (λ other. inr (inr refl))
  is_exact settings one cs r out NoMemory ends = of_free (helds_of cs) r.held NoMemory (λ other. inr (inl refl))
  is_exact settings one cs r out status ends = absurd ends

  -- captures that call for a status have a fault
  pub called_bad : OneReading → (helds : List Held) (files : List (List ℕ)) (status : Status) → helds ≡ map File files → CallsFor lead status helds → AreCaptureFiles lead files → ⊥
  called_bad one helds files status is calls good = let (first, ends, is_first) = called_first lead helds files status is calls in not_broken one lead files first is_first good

  pub is_complete : (settings : Settings) → OneReading → (cs : List FileUse) (r : FileUse) (out : SinkUse) (status : Status) → Ends settings lead cs r out status
      → IsComplete lead cs r out status
  is_complete settings one cs r out Done ends files lines is isr good are unread unasked unput = inl refl
  is_complete settings one cs r out NoMemory ends files lines is isr good are unread unasked unput = inr refl
  is_complete settings one cs r out WriteFault ends files lines is isr good are unread unasked unput = absurd (unput ends.0)
  is_complete settings one cs r out ReadFault (inl rose, ends) files lines is isr good are unread unasked unput = absurd (unread rose)
  is_complete settings one cs r out ReadFault (inr (form, rose), ends) files lines is isr good are unread unasked unput = absurd (unasked rose)
  is_complete settings one cs r out (BadCapture interface at) ends files lines is isr good are unread unasked unput = absurd (called_bad one (helds_of cs) files (BadCapture interface at) is ends.0 good)
  is_complete settings one cs r out (BadRequests at) ends files lines is isr good are unread unasked unput =
      absurd (not_wrong lines at (told r.held lines (λ b. IsWrongAt at b × IsUntouched out) isr ends.1).0 are)
  is_complete settings one cs r out TooLong (inl called) files lines is isr good are unread unasked unput = absurd (called_bad one (helds_of cs) files TooLong is called.0 good)
  is_complete settings one cs r out TooLong (inr many) files lines is isr good are unread unasked unput =
      absurd (not_many lines (told r.held lines (λ b. HasTooManyLines b × IsUntouched out) isr many.1).0 are)
  is_complete settings one cs r out status ends files lines is isr good are unread unasked unput = absurd ends
