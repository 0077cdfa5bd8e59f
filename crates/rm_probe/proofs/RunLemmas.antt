-- What a run has said so far.
use Rattle.std.proofs.Common.{◌≡◌, ℕ, ◌+◌, ◌<◌, ◌≤◌, List, [], ◌∷◌, ◌++◌, length, map, Result, Ok, Err, refl, sym, ap, subst, ◌∙◌, arith, take_while, append_assoc, ◌^◌, inl, inr}
use Rattle.std.specs.Prelude.{IfErr, Option}
use Rattle.std.proofs.lemmas.List.{append-nil}
use Rattle.rm_probe.specs.declared.output.OutputFault.{OutputFault}
use Rattle.rm_edge.specs.Outside.{Held, File}
use Rattle.rm_model.specs.Journal.{Frame, Journal}
use Rattle.rm_requests.specs.Lines.{TimedDatagram, AreRequests}
use Rattle.rm_requests.specs.Reading.{Reached, Answers}
use Rattle.rm_requests.specs.declared.fault.RequestsFault.{RequestsFault}
use Rattle.rm_requests.specs.declared.fault.RequestsFault.TheVariants.{Line, TooLong as TooManyLines, Read as ReadFailed}
use Rattle.rm_probe.specs.Requests.{status_by}
use Rattle.rm_pcap.specs.Records.{Stop}
use Rattle.rm_pcap.specs.declared.capture.Capture.{Capture}
use Rattle.rm_captures.specs.Left.{AreLeft, is_cut, passed_of}
use Rattle.rm_captures.specs.Merge.{frames_after, is_by}
use Rattle.rm_captures.specs.Reading.{AreHeld}
use Rattle.rm_probe.specs.declared.status.Status.{Status}
use Rattle.rm_probe.specs.declared.status.Status.TheVariants.{Done, Usage, BadCapture, BadRequests, ReadFault, WriteFault, NoMemory, LinkFault, TooLong}
use Rattle.rm_probe.specs.Events.{Event, Asks, comings}
use Rattle.rm_probe.proofs.Going.{RunsThrough, SaysThrough, events, events_by, frames_left}
use Rattle.rm_probe.specs.Said.{Said, Notified, Last}
use Rattle.rm_probe.specs.Text.{AreSaid}
use Rattle.rm_settings.specs.declared.settings.Settings.{Settings}
use Rattle.rm_agent.specs.Orderly.{IsOrderly}
use Rattle.rm_probe.specs.Probe.{settings_of, last_given, Stands}
use Rattle.rm_probe.specs.Steps.{FailsBy, FindsAnother, HasBegun, IsForeign, IsLastSaid, IsNextSaid, AreNotLeft, IsNotRequests, IsQuiet, Keeps, SaysNext, ends_by}
use Rattle.rm_probe.specs.declared.probe.Probe.{Probe}
use Rattle.rm_probe.specs.Notes.{Note}
use Rattle.rm_probe.proofs.EventLemmas.{events_more, events_split, left_more, split_at, split_last}
use Rattle.rm_probe.proofs.PassingLemmas.{SomethingSaid, begun_said}
use Rattle.rm_probe.proofs.JudgeLemmas.{HasTaken, remains, wrong_not_asked, many_not_asked}

module _ (settings : Settings) where
  -- Whatever may be said of what comes next, after what was said so far, may be said of all. So many datagrams were taken.
  pub record InRun (files : List (List ℕ)) (frames : List Frame) (stop : Stop) (taken : List TimedDatagram) (captures : List Capture) (probe : Probe) (said : List Said) : Type 0 where
    pub journal : Journal
    pub left : List Frame
    pub left_is : left ≡ frames_left taken frames
    pub records_left : AreLeft 1 captures files left stop
    pub stands : Stands probe journal
    pub goes : (es : List Event) (rest : List Said) → AreSaid settings journal es rest → AreSaid settings [] (events_by 1 frames taken ++ es) (said ++ rest)
    pub frame_count : passed_of captures + length left ≡ length frames

  pub run_begin : (files : List (List ℕ)) (frames : List Frame) (stop : Stop) (captures : List Capture) (probe : Probe)
      → AreLeft 1 captures files frames stop → (passed_of captures) ≡ 0 → Stands probe [] → InRun files frames stop [] captures probe []
  unfolding events_by frames_left
  run_begin files frames stop captures probe left none stands =
      record {
        journal = [];
        left = frames;
        left_is = refl;
        records_left = left;
        stands = stands;
        goes = λ es rest h. h;
        frame_count = omega (arith, none);
      }

  -- a datagram more, and what is said of it
  pub next_said : (files : List (List ℕ)) (frames : List Frame) (stop : Stop) (taken : List TimedDatagram) (captures captures' : List Capture) (probe probe' : Probe) (said next : List Said) (number : ℕ) (request : TimedDatagram)
      → (r : InRun files frames stop taken captures probe said) → number ≡ 1 + length taken → IsNextSaid files captures captures' settings probe' number request r.left stop r.journal next
      → InRun files frames stop (taken ++ request ∷ []) captures' probe' (said ++ next)
  next_said files frames stop taken captures captures' probe probe' said next number request r is one =
      record {
        journal = one.after;
        left = frames_after request.moment r.left;
        left_is = ap (frames_after request.moment) r.left_is ∙ sym (left_more frames taken request);
        records_left = one.left;
        stands = one.stands;
        goes = λ es rest h.
            let here : List Event = comings (take_while (is_by request.moment) r.left) in
            let all : AreSaid settings [] (events_by 1 frames taken ++ (here ++ Asks number request ∷ es)) (said ++ (next ++ rest)) = r.goes (here ++ Asks number request ∷ es) (next ++ rest) (one.goes es rest h) in
            subst (λ (s : List Said). AreSaid settings [] (events_by 1 frames (taken ++ request ∷ []) ++ es) s) (sym (append_assoc said next rest))
            (subst (λ (e : List Event). AreSaid settings [] e (said ++ (next ++ rest))) (joined here (ap (λ (fs : List Frame). comings (take_while (is_by request.moment) fs)) r.left_is) es) all);
        frame_count = one.count ∙ r.frame_count;
      }
    where
      joined : (here : List Event) → here ≡ comings (take_while (is_by request.moment) (frames_left taken frames)) → (es : List Event)
          → events_by 1 frames taken ++ (here ++ Asks number request ∷ es) ≡ events_by 1 frames (taken ++ request ∷ []) ++ es
      joined here same es =
          ap (λ (h : List Event). events_by 1 frames taken ++ (h ++ Asks number request ∷ es)) same
          ∙ ap (λ (n : ℕ). events_by 1 frames taken ++ (comings (take_while (is_by request.moment) (frames_left taken frames)) ++ Asks n request ∷ es)) is
          ∙ ap (λ (e : List Event). events_by 1 frames taken ++ e) (sym (append_assoc (comings (take_while (is_by request.moment) (frames_left taken frames))) (Asks (1 + length taken) request ∷ []) es))
          ∙ sym (append_assoc (events_by 1 frames taken) (comings (take_while (is_by request.moment) (frames_left taken frames)) ++ Asks (1 + length taken) request ∷ []) es)
          ∙ ap (λ (e : List Event). e ++ es) (sym (events_more 1 frames taken request))

  -- something that may be said of all that is left makes a run
  to_run : (files : List (List ℕ)) (frames : List Frame) (stop : Stop) (taken more : List TimedDatagram) (captures : List Capture) (probe : Probe) (said next rest : List Said) → (r : InRun files frames stop taken captures probe said)
      → AreSaid settings r.journal (events (1 + length taken) r.left more) (next ++ rest) → (all : List Said) × RunsThrough settings frames stop (taken ++ more) ((said ++ next) ++ all)
  to_run files frames stop taken more captures probe said next rest r are =
      let last : List Said = Last (is_cut stop) (length frames) (length (taken ++ more)) ∷ [] in
      let es : events_by 1 frames taken ++ events (1 + length taken) r.left more ≡ events 1 frames (taken ++ more) =
      ap (λ (fs : List Frame). events_by 1 frames taken ++ events (1 + length taken) fs more) r.left_is ∙ sym (events_split 1 frames taken more) in (
        rest ++ last,
        record {
          before = said ++ (next ++ rest);
          are_said = subst (λ (e : List Event). AreSaid settings [] e (said ++ (next ++ rest))) es (r.goes (events (1 + length taken) r.left more) (next ++ rest) are);
          whole = simp append_assoc;
        },
      )

  -- a run that stops there has said the first of what may be said
  pub said_so_far : SomethingSaid → (files : List (List ℕ)) (frames : List Frame) (stop : Stop) (taken more : List TimedDatagram) (captures : List Capture) (probe : Probe) (said : List Said)
      → InRun files frames stop taken captures probe said → (rest : List Said) × RunsThrough settings frames stop (taken ++ more) (said ++ rest)
  said_so_far every files frames stop taken more captures probe said r =
      let m = every settings r.journal r.stands.orderly (events (1 + length taken) r.left more) in
      let (rest, is) = to_run files frames stop taken more captures probe said [] m.0 r m.1 in
      (rest, subst (λ (s : List Said). RunsThrough settings frames stop (taken ++ more) (s ++ rest)) (append-nil said) is)

  -- and so has one that stops after some notifications
  pub said_stopped : SomethingSaid → (files : List (List ℕ)) (frames : List Frame) (stop : Stop) (taken more : List TimedDatagram) (captures : List Capture) (probe : Probe) (said : List Said) (moment : ℕ) (es : List Event) (notes : List Note)
      → (r : InRun files frames stop taken captures probe said) → comings (take_while (is_by moment) r.left) ++ es ≡ events (1 + length taken) r.left more
      → HasBegun settings moment r.left r.journal notes → (rest : List Said) × RunsThrough settings frames stop (taken ++ more) ((said ++ map Notified notes) ++ rest)
  said_stopped every files frames stop taken more captures probe said moment es notes r left begun =
      let m = begun_said settings every moment r.left r.journal notes es begun in
      to_run files frames stop taken more captures probe said (map Notified notes) m.0 r (subst (λ (es : List Event). AreSaid settings r.journal es (map Notified notes ++ m.0)) left m.1)

  -- a run that has said nothing has said the first
  pub said_none : SomethingSaid → IsOrderly [] → (frames : List Frame) (stop : Stop) (requests : List TimedDatagram) → (rest : List Said) × RunsThrough settings frames stop requests rest
  said_none every orderly frames stop requests =
      let m = every settings [] orderly (events 1 frames requests) in
      (m.0 ++ Last (is_cut stop) (length frames) (length requests) ∷ [], record { before = m.0; are_said = m.1; whole = refl })

  -- all is said with the last line
  said_all : (files : List (List ℕ)) (frames : List Frame) (stop : Stop) (taken : List TimedDatagram) (captures : List Capture) (probe : Probe) (said last : List Said)
      → (r : InRun files frames stop taken captures probe said) → IsLastSaid settings (passed_of captures) (length taken) r.left stop r.journal last → RunsThrough settings frames stop taken (said ++ last)
  said_all files frames stop taken captures probe said last r (before, are, is) =
      record {
        before = said ++ before;
        are_said = subst (λ (fs : List Frame). AreSaid settings [] (events_by 1 frames taken ++ comings fs) (said ++ before)) r.left_is (r.goes (comings r.left) before are);
        whole = ap (λ (t : List Said). said ++ t) (is ∙ ap (λ (k : ℕ). before ++ Last (is_cut stop) k (length taken) ∷ []) r.frame_count) ∙ sym (append_assoc said before (Last (is_cut stop) (length frames) (length taken) ∷ []));
      }

  -- what was said with the answer to a datagram is the first of what may be said
  pub answer_first : SomethingSaid → (files : List (List ℕ)) (frames : List Frame) (stop : Stop) (taken more : List TimedDatagram) (captures captures' : List Capture) (probe probe' : Probe) (said next : List Said) (number : ℕ) (request : TimedDatagram)
      → (r : InRun files frames stop taken captures probe said) → number ≡ 1 + length taken → IsNextSaid files captures captures' settings probe' number request r.left stop r.journal next
      → (rest : List Said) × RunsThrough settings frames stop (taken ++ request ∷ more) ((said ++ next) ++ rest)
  answer_first every files frames stop taken more captures captures' probe probe' said next number request r is_number is =
      let (rest, run) = said_so_far every files frames stop (taken ++ request ∷ []) more captures' probe' (said ++ next) (next_said files frames stop taken captures captures' probe probe' said next number request r is_number is) in
      (rest, subst (λ (rs : List TimedDatagram). RunsThrough settings frames stop rs ((said ++ next) ++ rest)) (append_assoc taken (request ∷ []) more) run)

  -- the answer to a datagram isn't said whole
  pub answer_stops : SomethingSaid → (files : List (List ℕ)) (frames : List Frame) (stop : Stop) (taken more : List TimedDatagram) (captures captures' : List Capture) (probe probe' : Probe) (said next : List Said) (number : ℕ) (request : TimedDatagram)
      → (r : InRun files frames stop taken captures probe said) → number ≡ 1 + length taken → (status : Status)
      → SaysNext {T = Unit {0}} (IsNextSaid files captures captures' settings probe' number request r.left stop r.journal) (HasBegun settings request.moment r.left r.journal) next (Err status)
      → SaysThrough {T = Unit {0}} settings frames stop (taken ++ request ∷ more) (said ++ next) (Err status)
  answer_stops every files frames stop taken more captures captures' probe probe' said next number request r is_number WriteFault is =
      answer_first every files frames stop taken more captures captures' probe probe' said next number request r is_number is
  answer_stops every files frames stop taken more captures captures' probe probe' said next number request r is_number LinkFault is =
      answer_first every files frames stop taken more captures captures' probe probe' said next number request r is_number is
  answer_stops every files frames stop taken more captures captures' probe probe' said next number request r is_number ReadFault (notes, begun, is) =
      subst (λ (s : List Said). (rest : List Said) × RunsThrough settings frames stop (taken ++ request ∷ more) ((said ++ s) ++ rest)) (sym is)
      (said_stopped every files frames stop taken (request ∷ more) captures probe said request.moment (Asks (1 + length taken) request ∷ events (1 + length taken + 1) (frames_after request.moment r.left) more) notes r
      (split_at (1 + length taken) r.left request more) begun)
  answer_stops every files frames stop taken more captures captures' probe probe' said next number request r is_number Done is = absurd is
  answer_stops every files frames stop taken more captures captures' probe probe' said next number request r is_number Usage is = absurd is
  answer_stops every files frames stop taken more captures captures' probe probe' said next number request r is_number (BadCapture interface at) is = absurd is
  answer_stops every files frames stop taken more captures captures' probe probe' said next number request r is_number (BadRequests at) is = absurd is
  answer_stops every files frames stop taken more captures captures' probe probe' said next number request r is_number NoMemory is = absurd is
  answer_stops every files frames stop taken more captures captures' probe probe' said next number request r is_number TooLong is = absurd is

  -- what is said last, or the first of it
  pub last_said : {T : Type 0} → SomethingSaid → (files : List (List ℕ)) (frames : List Frame) (stop : Stop) (taken : List TimedDatagram) (captures : List Capture) (probe : Probe) (said last : List Said)
      → (r : InRun files frames stop taken captures probe said) → (result : Result T Status)
      → SaysNext (IsLastSaid settings (passed_of captures) (length taken) r.left stop r.journal) (HasBegun settings 4294967295 r.left r.journal) last result → SaysThrough settings frames stop taken (said ++ last) result
  last_said every files frames stop taken captures probe said last r (Ok done) is = said_all files frames stop taken captures probe said last r is
  last_said every files frames stop taken captures probe said last r (Err WriteFault) is =
      ([], subst (λ (s : List Said). RunsThrough settings frames stop taken s) (sym (append-nil (said ++ last))) (said_all files frames stop taken captures probe said last r is))
  last_said every files frames stop taken captures probe said last r (Err LinkFault) is =
      ([], subst (λ (s : List Said). RunsThrough settings frames stop taken s) (sym (append-nil (said ++ last))) (said_all files frames stop taken captures probe said last r is))
  last_said every files frames stop taken captures probe said last r (Err ReadFault) (notes, begun, is) =
      let (rest, run) = said_stopped every files frames stop taken [] captures probe said 4294967295 (comings (frames_after 4294967295 r.left)) notes r (split_last (1 + length taken) 4294967295 r.left) begun in
      (rest, subst (λ (s : List Said). RunsThrough settings frames stop taken ((said ++ s) ++ rest)) (sym is) (subst (λ (rs : List TimedDatagram). RunsThrough settings frames stop rs ((said ++ map Notified notes) ++ rest)) (append-nil taken) run))
  last_said every files frames stop taken captures probe said last r (Err Done) is = absurd is
  last_said every files frames stop taken captures probe said last r (Err Usage) is = absurd is
  last_said every files frames stop taken captures probe said last r (Err (BadCapture interface at)) is = absurd is
  last_said every files frames stop taken captures probe said last r (Err (BadRequests at)) is = absurd is
  last_said every files frames stop taken captures probe said last r (Err NoMemory) is = absurd is
  last_said every files frames stop taken captures probe said last r (Err TooLong) is = absurd is

  -- the request file isn't read on
  pub requests_stop : SomethingSaid → (files : List (List ℕ)) (frames : List Frame) (stop : Stop) (taken asked : List TimedDatagram) (captures : List Capture) (probe : Probe) (said : List Said)
      (held : Held) (reached reached' : Reached) (datagram file : List ℕ) (fault : RequestsFault)
      → InRun files frames stop taken captures probe said → held ≡ File file → HasTaken taken reached file → AreRequests file asked → Answers held reached reached' datagram (Err fault)
      → SaysThrough {T = Unit {0}} settings frames stop asked said (Err (status_by fault))
  requests_stop every files frames stop taken asked captures probe said held reached reached' datagram file (Line line) r is has are (stays, number, few, wrong) =
      absurd (wrong_not_asked taken asked reached file has are (wrong file is has.agrees))
  requests_stop every files frames stop taken asked captures probe said held reached reached' datagram file TooManyLines r is has are (stays, last, some) =
      absurd (many_not_asked taken asked reached file has are last (some file is has.agrees))
  requests_stop every files frames stop taken asked captures probe said held reached reached' datagram file ReadFailed r is has are stays =
      let rest = remains taken asked reached file has are in
      subst (λ (rs : List TimedDatagram). (later : List Said) × RunsThrough settings frames stop rs (said ++ later)) (sym rest.all) (said_so_far every files frames stop taken rest.more captures probe said r)

  -- how far a run is
  pub record Running {F : Type 0} (held : F → List ℕ → Held) (reads : F → List ℕ → ℕ) (shelf shelf' : F) (names : List (List ℕ)) (requests : List ℕ) (named : ℕ)
      (begun captures : List Capture) (reached : Reached) (probe : Probe) (said : List Said) : Type 0 where
    pub same : (each : List ℕ) → held shelf' each ≡ held shelf each
    pub quiet : (each : List ℕ) → reads shelf' each ≡ reads shelf each
    pub taken : List TimedDatagram
    pub number : reached.number ≡ 1 + length taken
    pub few : reached.number ≤ 1000001
    pub settings_same : settings_of probe ≡ settings
    pub given : last_given probe ≤ reached.last
    pub in_range : reached.last < 2 ^ 32
    pub keeps : Keeps named (last_given probe) probe captures
    pub file : (lines : List ℕ) → held shelf requests ≡ File lines → HasTaken taken reached lines
    pub run : (files : List (List ℕ)) (frames : List Frame) (stop : Stop) → AreHeld (held shelf) names files → AreLeft 1 begun files frames stop → InRun files frames stop taken captures probe said

-- a fault of the request file that is read again is one of another file
pub requests_find : (NoCapture : Type 0) (held : Held) (reached reached' : Reached) (datagram : List ℕ) (taken : List TimedDatagram) (fault : RequestsFault) → Answers held reached reached' datagram (Err fault)
    → ((file : List ℕ) → held ≡ File file → HasTaken taken reached file) → FindsAnother NoCapture (IsNotRequests held) (status_by fault)
requests_find NoCapture held reached reached' datagram taken (Line line) (stays, number, few, wrong) has =
    λ file is (asked, are). wrong_not_asked taken asked reached file (has file is) are (wrong file is (has file is).agrees)
requests_find NoCapture held reached reached' datagram taken TooManyLines (stays, last, some) has =
    inr (λ file is (asked, are). many_not_asked taken asked reached file (has file is) are last (some file is (has file is).agrees))
requests_find NoCapture held reached reached' datagram taken ReadFailed stays has = tt

-- what a step that fails comes to, where captures are left
pub says_faultless : {T : Type 0} (IsNext : List Said → Type 0) (IsBegun : List Note → Type 0) (said : List Said) (result : Result T Status) → SaysNext IsNext IsBegun said result → FindsAnother ⊥ ⊥ (ends_by result)
says_faultless IsNext IsBegun said (Ok done) says = tt
says_faultless IsNext IsBegun said (Err LinkFault) says = tt
says_faultless IsNext IsBegun said (Err WriteFault) says = tt
says_faultless IsNext IsBegun said (Err ReadFault) says = tt
says_faultless IsNext IsBegun said (Err Done) says = absurd says
says_faultless IsNext IsBegun said (Err Usage) says = absurd says
says_faultless IsNext IsBegun said (Err (BadCapture interface at)) says = absurd says
says_faultless IsNext IsBegun said (Err (BadRequests at)) says = absurd says
says_faultless IsNext IsBegun said (Err NoMemory) says = absurd says
says_faultless IsNext IsBegun said (Err TooLong) says = absurd says

-- a fault of a capture that is read again is one of another file
pub capture_finds : (held : List ℕ → Held) (names : List (List ℕ)) (captures : List Capture) (NoRequests : Type 0) (status : Status) → (IsForeign status → ⊥)
    → ((files : List (List ℕ)) (frames : List Frame) (stop : Stop) → AreHeld held names files → AreLeft 1 captures files frames stop → FindsAnother ⊥ ⊥ status)
    → FindsAnother (AreNotLeft held names captures) NoRequests status
capture_finds held names captures NoRequests (BadCapture interface at) known none = none
capture_finds held names captures NoRequests TooLong known none = inl (λ files frames stop are left. elim (none files frames stop are left) [ inl never ↦ never | inr never ↦ never ])
capture_finds held names captures NoRequests (BadRequests line) known none = absurd (known tt)
capture_finds held names captures NoRequests Done known none = tt
capture_finds held names captures NoRequests Usage known none = tt
capture_finds held names captures NoRequests ReadFault known none = tt
capture_finds held names captures NoRequests WriteFault known none = tt
capture_finds held names captures NoRequests NoMemory known none = tt
capture_finds held names captures NoRequests LinkFault known none = tt

-- no status that doesn't come then is of the files
pub quiet_foreign : (status : Status) → IsQuiet status → IsForeign status
quiet_foreign Usage quiet = tt
quiet_foreign NoMemory quiet = tt
quiet_foreign LinkFault quiet = absurd quiet
quiet_foreign Done quiet = absurd quiet
quiet_foreign (BadCapture interface at) quiet = absurd quiet
quiet_foreign (BadRequests line) quiet = absurd quiet
quiet_foreign ReadFault quiet = absurd quiet
quiet_foreign WriteFault quiet = absurd quiet
quiet_foreign TooLong quiet = absurd quiet

pub requests_loud : (fault : RequestsFault) → IsQuiet (status_by fault) → ⊥
requests_loud (Line line) quiet = quiet
requests_loud TooManyLines quiet = quiet
requests_loud ReadFailed quiet = quiet

pub read_failed : (fault : RequestsFault) → status_by fault ≡ ReadFault → fault ≡ ReadFailed
read_failed (Line line) is = absurd cc
read_failed TooManyLines is = absurd cc
read_failed ReadFailed is = refl

-- what the last step comes to
pub last_finds : {T : Type 0} (held : List ℕ → Held) (names : List (List ℕ)) (captures : List Capture) (NoRequests : Type 0) (result : Result T Status) → IfErr result (λ (status : Status). IsForeign status → ⊥)
    → ((files : List (List ℕ)) (frames : List Frame) (stop : Stop) → AreHeld held names files → AreLeft 1 captures files frames stop → FindsAnother ⊥ ⊥ (ends_by result))
    → FindsAnother (AreNotLeft held names captures) NoRequests (ends_by result)
last_finds held names captures NoRequests (Ok done) known none = tt
last_finds held names captures NoRequests (Err status) known none = capture_finds held names captures NoRequests status known none

pub last_loud : {T : Type 0} (result : Result T Status) → IfErr result (λ (status : Status). IsForeign status → ⊥) → IsQuiet (ends_by result) → ⊥
last_loud (Ok done) known quiet = quiet
last_loud (Err status) known quiet = known (quiet_foreign status quiet)

-- a fault of the request file leaves open what failed
pub requests_open : (failed : Option OutputFault) (fault : RequestsFault) → FailsBy {T = Unit {0}} failed (Err (status_by fault))
requests_open failed (Line line) = tt
requests_open failed TooManyLines = tt
requests_open failed ReadFailed = tt
