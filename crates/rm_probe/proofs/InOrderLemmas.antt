-- What is said as the code goes is said of events in order.
use Rattle.std.proofs.Common.{◌≡◌, ℕ, zero, suc, ◌+◌, ◌-◌, max, List, [], ◌∷◌, ◌++◌, length, map, take, drop, Result, Ok, Err, refl, sym, ap, subst, ◌∙◌, arith}
use Rattle.std.specs.List.Sorted.{IsNonDecreasingBy}
use Rattle.std.specs.List.{prefix_len}
use Rattle.std.proofs.lemmas.List.{append-nil, drop_at, length-append}
use Rattle.rm_model.specs.Journal.{Frame}
use Rattle.rm_pcap.specs.Records.{Stop}
use Rattle.rm_pcap.specs.declared.capture.Capture.{Capture}
use Rattle.rm_captures.specs.Left.{AreLeft}
use Rattle.rm_captures.specs.Merge.{is_by}
use Rattle.rm_requests.specs.Lines.{AreRequests, TimedDatagram}
use Rattle.rm_settings.specs.declared.settings.Settings.{Settings}
use Rattle.rm_probe.specs.Events.{comings}
use Rattle.rm_probe.specs.InOrder.{AreInOrder}
use Rattle.rm_probe.specs.Said.{Said, Last, is_cut_behind}
use Rattle.rm_probe.specs.Serving.{Arrival, IsServed, frames_behind, frames_by_last, last_of, requests_of, rising}
use Rattle.rm_probe.specs.Steps.{SaysFirst, SaysRun}
use Rattle.rm_probe.specs.Text.{IsRun}
use Rattle.rm_probe.specs.Turns.{SaysServed}
use Rattle.rm_probe.specs.declared.status.Status.{Status}
use Rattle.rm_probe.specs.declared.status.Status.TheVariants.{Done, Usage, BadCapture, BadRequests, ReadFault, WriteFault, NoMemory, LinkFault, TooLong}
use Rattle.rm_probe.proofs.CaptureOrder.{left_rise}
use Rattle.rm_probe.proofs.FramesByLast.{Arrive, all_come, events_upto, left_last, none_left}
use Rattle.rm_probe.proofs.Going.{RunsThrough, SaysServedThrough, SaysThrough, ServesThrough, events, events_by, frames_left}
use Rattle.rm_probe.proofs.OrderLemmas.{Rises, are_in_order, rises_all, rises_from}
use Rattle.rm_probe.proofs.PassingLemmas.{all_frames}

-- the moments of frames, and of datagrams, don't fall
abbrev pub FramesRise : List Frame → Type 0
FramesRise frames = IsNonDecreasingBy (λ (frame : Frame). frame.moment) frames

abbrev pub RequestsRise : List TimedDatagram → Type 0
RequestsRise requests = IsNonDecreasingBy (λ (request : TimedDatagram). request.moment) requests

-- what is said, or the first of it
pub says_so : {T : Type 0} (P Q : List Said → Type 0) → ((said : List Said) → P said → Q said) → (said : List Said) (result : Result T Status) → SaysFirst P said result → SaysFirst Q said result
says_so P Q so said (Ok done) is = so said is
says_so P Q so said (Err WriteFault) (rest, is) = (rest, so (said ++ rest) is)
says_so P Q so said (Err LinkFault) (rest, is) = (rest, so (said ++ rest) is)
says_so P Q so said (Err ReadFault) (rest, is) = (rest, so (said ++ rest) is)
says_so P Q so said (Err Done) is = absurd is
says_so P Q so said (Err Usage) is = absurd is
says_so P Q so said (Err (BadCapture interface at)) is = absurd is
says_so P Q so said (Err (BadRequests at)) is = absurd is
says_so P Q so said (Err NoMemory) is = absurd is
says_so P Q so said (Err TooLong) is = absurd is

pub run_in_order : (settings : Settings) (frames : List Frame) (stop : Stop) (requests : List TimedDatagram) (said : List Said) → FramesRise frames → RequestsRise requests
    → RunsThrough settings frames stop requests said → IsRun settings frames stop requests said
run_in_order settings frames stop requests said frames_order requests_order run =
    record { events = events 1 frames requests; in_order = are_in_order 1 frames requests frames_order requests_order; before = run.before; are_said = run.are_said; whole = run.whole }

-- what a run said of captures that are left and of the datagrams of a request file
pub run_says : {T : Type 0} (settings : Settings) (captures : List Capture) (files : List (List ℕ)) (frames : List Frame) (stop : Stop) (lines : List ℕ) (asked : List TimedDatagram) (said : List Said) (result : Result T Status)
    → AreLeft 1 captures files frames stop → AreRequests lines asked → SaysThrough settings frames stop asked said result → SaysRun settings frames stop asked said result
run_says settings captures files frames stop lines asked said result left requests says =
    says_so (RunsThrough settings frames stop asked) (IsRun settings frames stop asked)
    (λ all run. run_in_order settings frames stop asked all (left_rise captures files frames stop left) requests.are.order run) said result says

-- nothing is in order
pub none_in_order : AreInOrder 1 [] [] []
none_in_order = record {
  comings = refl;
  askings = refl;
  order = λ i j d le within. absurd (omega (arith, within));
  frames_first = λ before after asked request frame any less within is is'. absurd (omega (arith, within));
}

-- the moments of datagrams that came don't fall
arrived : (last : ℕ) (arrivals : List Arrival) (told : List ℕ) → map (λ (arrival : Arrival). arrival.moment) arrivals ≡ rising last told → Arrive last arrivals
unfolding rising
arrived last [] told is = tt
arrived last (arrival ∷ arrivals) [] is = absurd cc
arrived last (arrival ∷ arrivals) (moment ∷ told) is =
    let first : arrival.moment ≡ max last moment = cc in
    let rest : map (λ (a : Arrival). a.moment) arrivals ≡ rising (max last moment) told = cc in
    (omega (arith, first), subst (λ (low : ℕ). Arrive low arrivals) (sym first) (arrived (max last moment) arrivals told rest))

-- the first of frames whose moments don't fall
front_rises : (count low : ℕ) (frames : List Frame) → Rises (λ (frame : Frame). frame.moment) low frames → Rises (λ (frame : Frame). frame.moment) low (take count frames)
front_rises zero low frames rises = tt
front_rises (suc count) low [] rises = tt
front_rises (suc count) low (frame ∷ frames) rises = (rises.0, front_rises count frame.moment frames rises.1)

-- the frames up to the last datagram, and those behind it
record Parted (frames : List Frame) (arrivals : List Arrival) : Type 0 where
  behind : frames_behind arrivals frames ≡ frames_left (requests_of arrivals) frames
  count : length frames - length (frames_left (requests_of arrivals) frames) ≡ length (frames_by_last arrivals frames)

parted : (frames : List Frame) (arrivals : List Arrival) → frames_by_last arrivals frames ++ frames_left (requests_of arrivals) frames ≡ frames → Parted frames arrivals
parted frames arrivals all =
    let first = frames_by_last arrivals frames in
    let rest = frames_left (requests_of arrivals) frames in record {
      behind = ap (drop (length first)) (sym all) ∙ drop_at first rest (length first) refl;
      count = omega (arith, ap length all, length-append first rest);
    }

module _ (settings : Settings) (frames : List Frame) (stop : Stop) where
  -- what is said of events in order up to the last datagram, and last
  to_served : (arrivals : List Arrival) (said : List Said) → AreInOrder 1 (frames_by_last arrivals frames) (requests_of arrivals) (events_by 1 frames (requests_of arrivals)) → Parted frames arrivals
      → ServesThrough settings frames stop arrivals said → IsServed settings frames stop arrivals said
  to_served arrivals said order parts run = record {
    events = events_by 1 frames (requests_of arrivals);
    in_order = order;
    before = run.before;
    are_said = run.are_said;
    whole =
        let left = frames_left (requests_of arrivals) frames in
        run.whole
        ∙ ap (λ (n : ℕ). run.before ++ Last (is_cut_behind left stop) n (length arrivals) ∷ []) parts.count
        ∙ ap (λ (fs : List Frame). run.before ++ Last (is_cut_behind fs stop) (length (frames_by_last arrivals frames)) (length arrivals) ∷ []) (sym parts.behind);
  }

  none_served : (said : List Said) → ServesThrough settings frames stop [] said → IsServed settings frames stop [] said
  unfolding events_by frames_left
  none_served said run = to_served [] said none_in_order (parted frames [] refl) run

  some_served : (arrival : Arrival) (more : List Arrival) (said : List Said) → FramesRise frames → Arrive 0 (arrival ∷ more) → ServesThrough settings frames stop (arrival ∷ more) said
      → IsServed settings frames stop (arrival ∷ more) said
  some_served arrival more said frames_order arrive run =
      let arrivals : List Arrival = arrival ∷ more in
      let requests = requests_of arrivals in
      let last = last_of arrival.moment more in
      let first = frames_by_last arrivals frames in
      let rises = rises_from (λ (frame : Frame). frame.moment) 0 frames frames_order (λ j d within. omega arith) in
      let order = are_in_order 1 first requests
      (rises_all (λ (frame : Frame). frame.moment) 0 first (front_rises (prefix_len (is_by last) frames) 0 frames rises))
      (rises_all (λ (request : TimedDatagram). request.moment) 0 requests arrive) in
      let all : events 1 first requests ≡ events_by 1 frames requests =
      ap (λ (fs : List Frame). events_by 1 first requests ++ comings fs) (none_left arrival more frames arrive) ∙ append-nil (events_by 1 first requests)
      ∙ events_upto last 1 requests frames (all_come arrival more arrive) in
      to_served arrivals said (subst (AreInOrder 1 first requests) all order)
      (parted frames arrivals (ap (λ (fs : List Frame). first ++ fs) (left_last arrival more frames arrive.1) ∙ all_frames last frames)) run

  pub served_in_order : (arrivals : List Arrival) (told : List ℕ) (said : List Said) → FramesRise frames → map (λ (arrival : Arrival). arrival.moment) arrivals ≡ rising 0 told
      → ServesThrough settings frames stop arrivals said → IsServed settings frames stop arrivals said
  served_in_order [] told said frames_order rises run = none_served said run
  served_in_order (arrival ∷ more) told said frames_order rises run = some_served arrival more said frames_order (arrived 0 (arrival ∷ more) told rises) run

-- what a run that serves said of captures that are left and of the datagrams that came
pub served_says : {T : Type 0} (settings : Settings) (captures : List Capture) (files : List (List ℕ)) (frames : List Frame) (stop : Stop) (arrivals : List Arrival) (told : List ℕ) (said : List Said) (result : Result T Status)
    → AreLeft 1 captures files frames stop → map (λ (arrival : Arrival). arrival.moment) arrivals ≡ rising 0 told → SaysServedThrough settings frames stop arrivals said result
    → SaysServed settings frames stop arrivals said result
served_says settings captures files frames stop arrivals told said result left rises says =
    says_so (ServesThrough settings frames stop arrivals) (IsServed settings frames stop arrivals)
    (λ all run. served_in_order settings frames stop arrivals told all (left_rise captures files frames stop left) rises run) said result says
