-- What the steps of a run say.
use Rattle.std.proofs.Common.{◌≡◌, ℕ, ◌+◌, Bool, true, false, List, [], ◌∷◌, ◌++◌, length, map, take_while, Option, Some, None, Result, Ok, Err, refl, sym, ap, subst, ◌∙◌, arith, append_assoc}
use Rattle.std.specs.Prelude.{IfErr, is_some}
use Rattle.std.proofs.lemmas.List.{append-nil}
use mathlib.Core.List.{map-append}
use Rattle.rm_edge.specs.Outside.{Held}
use Rattle.rm_model.specs.Journal.{Frame, Journal}
use Rattle.rm_pcap.specs.Records.{Stop}
use Rattle.rm_pcap.specs.declared.capture.Capture.{Capture}
use Rattle.rm_captures.specs.Left.{IsNext, is_cut, passed_of}
use Rattle.rm_captures.specs.Merge.{frames_after, is_by}
use Rattle.rm_captures.specs.declared.coming.Coming.{Coming}
use Rattle.rm_settings.specs.declared.settings.Settings.{Settings}
use Rattle.rm_probe.specs.Advance.{IsAdvanced}
use Rattle.rm_probe.specs.Events.{Event, Asks, comings}
use Rattle.rm_requests.specs.Lines.{TimedDatagram}
use Rattle.rm_probe.specs.Notes.{Note}
use Rattle.rm_probe.specs.Said.{Response, Said, Notified, Responded, Last, is_cut_behind}
use Rattle.rm_probe.specs.Probe.{settings_of}
use Rattle.rm_probe.specs.Steps.{HasBegun, Advanced, Answers, FailsBy, IsForeign, IsLastLine, IsLastSaid, IsNextSaid, IsOfCapture, IsResponse, SaysFrom, SaysNext, told_by}
use Rattle.rm_probe.specs.declared.status.Status.{Status}
use Rattle.rm_probe.specs.declared.status.Status.TheVariants.{Done, Usage, BadCapture, BadRequests, ReadFault, WriteFault, NoMemory, LinkFault, TooLong}
use Rattle.rm_probe.specs.Text.{IsAnswered, AreSaid}
use Rattle.rm_probe.specs.Output.{failed_by}
use Rattle.rm_probe.specs.declared.output.OutputFault.{OutputFault}
use Rattle.rm_probe.specs.declared.output.OutputFault.TheVariants.{Put, Send}
use Rattle.rm_probe.specs.declared.probe.Probe.{Probe}
use Rattle.rm_probe.proofs.PassingLemmas.{all_frames, nothing_said, said_after}

-- what is said next, after the frames up to the moment of its datagram
pub next_is : (files : List (List ℕ)) (old new : List Capture) (settings : Settings) (probe probe' : Probe) (number : ℕ) (request : TimedDatagram) (frames : List Frame) (stop : Stop) (journal : Journal) (passed told : List Note) (response : Response)
    → Advanced settings request.moment files new probe (passed_of old) frames stop journal passed → settings_of probe ≡ settings → Answers probe probe' request told response
    → IsNextSaid files old new settings probe' number request frames stop journal (map Notified passed ++ (map Notified told ++ Responded number request.moment response ∷ []))
unfolding AreSaid
next_is files old new settings probe probe' number request frames stop journal passed told response advanced same answers =
    let (ready, after, is, answer, stands) = answers advanced.reached advanced.stands in
    record {
      left = advanced.left;
      count = advanced.count;
      after = after;
      goes = λ more rest are.
          let here : AreSaid settings advanced.reached (Asks number request ∷ more) (map Notified told ++ Responded number request.moment response ∷ rest) = (
            told,
            response,
            rest,
            ready,
            after,
            subst (λ (s : Settings). IsAdvanced s request.moment advanced.reached told ready) same is,
            subst (λ (s : Settings). IsAnswered s ready request.moment request.datagram response after) same answer,
            refl,
            are,
          ) in
          let whole : map Notified passed ++ (map Notified told ++ Responded number request.moment response ∷ rest) ≡ (map Notified passed ++ (map Notified told ++ Responded number request.moment response ∷ [])) ++ rest = simp append_assoc in
          subst (λ (t : List Said). AreSaid settings journal (comings (take_while (is_by request.moment) frames) ++ Asks number request ∷ more) t) whole
          (said_after settings journal (take_while (is_by request.moment) frames) passed advanced.reached (Asks number request ∷ more) (map Notified told ++ Responded number request.moment response ∷ rest) advanced.passing here);
      stands = stands;
    }

pub is_response : (number moment : ℕ) (passed told : List Note) (response : Response) → IsResponse number (map Notified passed ++ (map Notified told ++ Responded number moment response ∷ []))
is_response number moment passed told response = record {
  notes = passed ++ told;
  moment = moment;
  response = response;
  is = sym (append_assoc (map Notified passed) (map Notified told) (Responded number moment response ∷ [])) ∙ ap (λ (notes : List Said). notes ++ Responded number moment response ∷ []) (sym (map-append Notified passed told));
}

-- a step that stops by a capture has said the same, whatever it was to say
stops_so : (IsNext IsOther : List Said → Type 0) (IsBegun : List Note → Type 0) (said : List Said) (status : Status) → IsOfCapture status
    → SaysNext {T = Unit {0}} IsNext IsBegun said (Err status) → SaysNext {T = Unit {0}} IsOther IsBegun said (Err status)
stops_so IsNext IsOther IsBegun said (BadCapture interface at) kind says = says
stops_so IsNext IsOther IsBegun said TooLong kind says = says
stops_so IsNext IsOther IsBegun said ReadFault kind says = says
stops_so IsNext IsOther IsBegun said Done kind says = absurd kind
stops_so IsNext IsOther IsBegun said Usage kind says = absurd kind
stops_so IsNext IsOther IsBegun said (BadRequests line) kind says = absurd kind
stops_so IsNext IsOther IsBegun said WriteFault kind says = absurd kind
stops_so IsNext IsOther IsBegun said NoMemory kind says = absurd kind
stops_so IsNext IsOther IsBegun said LinkFault kind says = absurd kind

-- a fault of a capture leaves open what failed
fails_open : (failed : Option OutputFault) (status : Status) → IsOfCapture status → FailsBy {T = Unit {0}} failed (Err status)
fails_open failed (BadCapture interface at) kind = tt
fails_open failed TooLong kind = tt
fails_open failed ReadFault kind = tt
fails_open failed Done kind = absurd kind
fails_open failed Usage kind = absurd kind
fails_open failed (BadRequests line) kind = absurd kind
fails_open failed WriteFault kind = absurd kind
fails_open failed NoMemory kind = absurd kind
fails_open failed LinkFault kind = absurd kind

-- a fault of a capture is of a call on it
known : (status : Status) → IsOfCapture status → IsForeign status → ⊥
known (BadCapture interface at) kind foreign = foreign
known TooLong kind foreign = foreign
known ReadFault kind foreign = foreign
known Done kind foreign = kind
known Usage kind foreign = kind
known (BadRequests line) kind foreign = kind
known WriteFault kind foreign = kind
known NoMemory kind foreign = kind
known LinkFault kind foreign = kind

-- a step that ends as a capture stopped another one
module _ (result : Result (Unit {0}) Status) (status : Status) (is : (given : Status) × (result ≡ Err given) × (given ≡ status)) (kind : IsOfCapture status) where
  pub stops_open : (failed : Option OutputFault) → FailsBy failed result
  stops_open failed = subst (λ (r : Result (Unit {0}) Status). FailsBy failed r) (sym (is.1 ∙ ap Err is.2)) (fails_open failed status kind)

  pub stops_known : IfErr result (λ (status : Status). IsForeign status → ⊥)
  stops_known = subst (λ (r : Result (Unit {0}) Status). IfErr r (λ (status : Status). IsForeign status → ⊥)) (sym (is.1 ∙ ap Err is.2)) (known status kind)

  pub stops_saying : (held : List ℕ → Held) (names : List (List ℕ)) (captures : List Capture) (probe : Probe) (moment : ℕ) (IsNext IsOther : List (List ℕ) → List Frame → Stop → Journal → List Said → Type 0) (said : List Said)
      → SaysFrom {T = Unit {0}} held names captures probe moment IsNext said (Err status) → SaysFrom held names captures probe moment IsOther said result
  stops_saying held names captures probe moment IsNext IsOther said says =
      subst (λ (r : Result (Unit {0}) Status). SaysFrom held names captures probe moment IsOther said r) (sym (is.1 ∙ ap Err is.2)) (λ files frames stop journal holds left stands.
      stops_so (IsNext files frames stop journal) (IsOther files frames stop journal) (HasBegun (settings_of probe) moment frames journal) said status kind (says files frames stop journal holds left stands))

-- what was said with an output, and what failed last
pub says_told : (IsNext : List Said → Type 0) (IsBegun : List Note → Type 0) (said : List Said) (output : Result (Unit {0}) OutputFault) → IsNext said → SaysNext IsNext IsBegun said (told_by output)
says_told IsNext IsBegun said (Ok done) is = is
says_told IsNext IsBegun said (Err Put) is = is
says_told IsNext IsBegun said (Err Send) is = is

pub fails_told : (failed : Option OutputFault) (output : Result (Unit {0}) OutputFault) → failed ≡ failed_by output → FailsBy failed (told_by output)
fails_told failed (Ok done) is = is
fails_told failed (Err Put) is = is
fails_told failed (Err Send) is = is

-- all frames up to the last moment have passed, and then the last line was said, or wasn't
module _ (settings : Settings) (files : List (List ℕ)) (captures : List Capture) (probe : Probe) (before : ℕ) (frames : List Frame) (stop : Stop) (journal : Journal) (notes : List Note)
    (requests : ℕ) (said : List Said) (a : Advanced settings 4294967295 files captures probe before frames stop journal notes) (none : frames_after 4294967295 frames ≡ []) where
  all_said : AreSaid settings journal (comings frames) (map Notified notes)
  all_said =
      let taken : List Frame = take_while (is_by 4294967295) frames in
      let whole : taken ≡ frames = sym (append-nil taken) ∙ ap (λ (fs : List Frame). taken ++ fs) (sym none) ∙ all_frames 4294967295 frames in
      subst (λ (fs : List Frame). AreSaid settings journal (comings fs) (map Notified notes)) whole
      (subst (λ (s : List Said). AreSaid settings journal (comings taken) s) (append-nil (map Notified notes))
      (subst (λ (es : List Event). AreSaid settings journal es (map Notified notes ++ [])) (append-nil (comings taken)) (said_after settings journal taken notes a.reached [] [] a.passing (nothing_said settings a.reached))))

  last_one : IsLastLine (passed_of captures) requests [] stop said → IsLastSaid settings before requests frames stop journal (map Notified notes ++ said)
  last_one is =
      let count : passed_of captures ≡ before + length frames = omega (arith, a.count, ap length none) in
      (map Notified notes, all_said, ap (λ (s : List Said). map Notified notes ++ s) (is ∙ ap (λ (k : ℕ). Last (is_cut stop) k requests ∷ []) count))

  all_begun : HasBegun settings 4294967295 frames journal notes
  all_begun = record {
    passed = take_while (is_by 4294967295) frames;
    left = [];
    reached = a.reached;
    passing = a.passing;
    taken = sym (append-nil (take_while (is_by 4294967295) frames));
    orderly = a.stands.orderly;
  }

  pub last_after : {T : Type 0} (result : Result T Status) → SaysNext (IsLastLine (passed_of captures) requests [] stop) (λ (later : List Note). later ≡ []) said result
      → SaysNext (IsLastSaid settings before requests frames stop journal) (HasBegun settings 4294967295 frames journal) (map Notified notes ++ said) result
  last_after (Ok done) is = last_one is
  last_after (Err WriteFault) is = last_one is
  last_after (Err LinkFault) is = last_one is
  last_after (Err ReadFault) (later, nothing, is) =
      (notes, all_begun, ap (λ (s : List Said). map Notified notes ++ s) (is ∙ ap (map Notified) nothing) ∙ append-nil (map Notified notes))
  last_after (Err Done) is = is
  last_after (Err Usage) is = is
  last_after (Err (BadCapture interface at)) is = is
  last_after (Err (BadRequests at)) is = is
  last_after (Err NoMemory) is = is
  last_after (Err TooLong) is = is

-- a read failed where the last line was to be said
pub unread_last : (IsLast : List Said → Type 0) (status : Status) → status ≡ ReadFault → SaysNext {T = Unit {0}} IsLast (λ (notes : List Note). notes ≡ []) [] (Err status)
unread_last IsLast status is = subst (λ (s : Status). SaysNext {T = Unit {0}} IsLast (λ (notes : List Note). notes ≡ []) [] (Err s)) (sym is) ([], refl, refl)

-- what comes next, if something does
pub some_next : (next : Option Coming) → is_some next ≡ true → (coming : Coming) × (next ≡ Some coming)
some_next None is = absurd cc
some_next (Some coming) is = (coming, refl)

pub no_next : (next : Option Coming) → is_some next ≡ false → next ≡ None
no_next None is = refl
no_next (Some coming) is = absurd cc

-- where a frame is left nothing is cut short
pub cut_frames : (frames : List Frame) (stop : Stop) (next : Option Coming) → (coming : Coming) × (next ≡ Some coming) → IsNext frames next → false ≡ is_cut_behind frames stop
cut_frames [] stop next (coming, is) none = absurd (let e = sym none ∙ is in cc)
cut_frames (frame ∷ more) stop next some is = refl

-- where none is, the captures tell
pub cut_ends : (frames : List Frame) (stop : Stop) (next : Option Coming) → next ≡ None → IsNext frames next → (cut : Bool) → (frames ≡ [] → cut ≡ is_cut stop) → cut ≡ is_cut_behind frames stop
cut_ends [] stop next none is cut ends = ends refl
cut_ends (frame ∷ more) stop next none is cut ends = absurd (let e = sym none ∙ is in cc)

pub cut_reads : (frames : List Frame) (next : Option Coming) → next ≡ None → IsNext frames next → (status : Status) → (frames ≡ [] → status ≡ ReadFault) → status ≡ ReadFault
cut_reads [] next none is status reads = reads refl
cut_reads (frame ∷ more) next none is status reads = absurd (let e = sym none ∙ is in cc)
