-- What happens in a run is in order.
use Rattle.std.proofs.Common.{◌≡◌, ℕ, zero, suc, ◌+◌, ◌*◌, ◌<◌, ◌≤◌, Bool, true, false, List, [], ◌∷◌, length, get_or, refl, sym, ap, subst, arith}
use Rattle.std.specs.Prelude.{filter_map}
use Rattle.std.specs.List.{enumerate_from, prefix_len}
use Rattle.std.specs.List.Sorted.{IsNonDecreasingBy}
use Rattle.std.proofs.Math.Numerals.{one-add}
use Rattle.std.proofs.lemmas.Bool.{leb-true, leb-false}
use Rattle.rm_model.specs.Journal.{Frame}
use Rattle.rm_requests.specs.Lines.{TimedDatagram}
use Rattle.rm_probe.specs.Events.{Event, Comes, Asks, comings}
use Rattle.rm_probe.proofs.Going.{events, events_by, frames_left}
use Rattle.rm_captures.specs.Merge.{is_by}
use Rattle.rm_probe.specs.InOrder.{moment_of, coming_in, asking_in, AreInOrder}

-- events are frames and datagrams of which the next is a frame where it doesn't come later, and else a datagram
data Merges : ℕ → List Frame → List TimedDatagram → List Event → Type 0 where
  over : (number : ℕ) → Merges number [] [] []
  comes : (number : ℕ) (frame : Frame) (frames : List Frame) (requests : List TimedDatagram) (list : List Event)
      → ((request : TimedDatagram) (more : List TimedDatagram) → requests ≡ request ∷ more → frame.moment ≤ request.moment)
      → Merges number frames requests list → Merges number (frame ∷ frames) requests (Comes frame ∷ list)
  asks : (number : ℕ) (request : TimedDatagram) (frames : List Frame) (requests : List TimedDatagram) (list : List Event)
      → ((frame : Frame) (more : List Frame) → frames ≡ frame ∷ more → request.moment < frame.moment)
      → Merges (number + 1) frames requests list → Merges number frames (request ∷ requests) (Asks number request ∷ list)

frames_alone : (number : ℕ) (frames : List Frame) → Merges number frames [] (comings frames)
frames_alone number [] = over number
frames_alone number (frame ∷ frames) = comes number frame frames [] (comings frames) (λ request more are. absurd cc) (frames_alone number frames)

-- the next event
frame_next : (number : ℕ) (frame : Frame) (frames : List Frame) (request : TimedDatagram) (requests : List TimedDatagram) → is_by request.moment frame ≡ true
    → events number (frame ∷ frames) (request ∷ requests) ≡ Comes frame ∷ events number frames (request ∷ requests)
unfolding events_by frames_left
frame_next number frame frames request requests by = rw (by, one-add (prefix_len (is_by request.moment) frames)) refl

request_next : (number : ℕ) (frame : Frame) (frames : List Frame) (request : TimedDatagram) (requests : List TimedDatagram) → is_by request.moment frame ≡ false
    → events number (frame ∷ frames) (request ∷ requests) ≡ Asks number request ∷ events (number + 1) (frame ∷ frames) requests
unfolding events_by frames_left
request_next number frame frames request requests later = rw later refl

request_alone : (number : ℕ) (request : TimedDatagram) (requests : List TimedDatagram) → events number [] (request ∷ requests) ≡ Asks number request ∷ events (number + 1) [] requests
unfolding events_by frames_left
request_alone number request requests = refl

merges_one : (number : ℕ) (request : TimedDatagram) (requests : List TimedDatagram) → ((frames : List Frame) → Merges (number + 1) frames requests (events (number + 1) frames requests))
    → (frames : List Frame) → Merges number frames (request ∷ requests) (events number frames (request ∷ requests))
merges_one number request requests rest [] =
    subst (Merges number [] (request ∷ requests)) (sym (request_alone number request requests))
    (asks number request [] requests (events (number + 1) [] requests) (λ frame more are. absurd cc) (rest []))
merges_one number request requests rest (frame ∷ frames) = by_time (is_by request.moment frame) refl (merges_one number request requests rest frames)
  where
    by_time : (by : Bool) → is_by request.moment frame ≡ by → Merges number frames (request ∷ requests) (events number frames (request ∷ requests))
        → Merges number (frame ∷ frames) (request ∷ requests) (events number (frame ∷ frames) (request ∷ requests))
    by_time true by behind =
        let early : frame.moment ≤ request.moment = leb-true frame.moment request.moment by in
        subst (Merges number (frame ∷ frames) (request ∷ requests)) (sym (frame_next number frame frames request requests by))
        (comes number frame frames (request ∷ requests) (events number frames (request ∷ requests))
        (λ other more are. let same : request ≡ other = cc in omega (arith, early, ap (λ (r : TimedDatagram). r.moment) same)) behind)
    by_time false later behind =
        let late : request.moment < frame.moment = leb-false frame.moment request.moment later in
        subst (Merges number (frame ∷ frames) (request ∷ requests)) (sym (request_next number frame frames request requests later))
        (asks number request (frame ∷ frames) requests (events (number + 1) (frame ∷ frames) requests)
        (λ other more are. let same : frame ≡ other = cc in omega (arith, late, ap (λ (f : Frame). f.moment) same)) (rest (frame ∷ frames)))

merges : (number : ℕ) (frames : List Frame) (requests : List TimedDatagram) → Merges number frames requests (events number frames requests)
unfolding events_by frames_left
merges number frames [] = frames_alone number frames
merges number frames (request ∷ requests) = merges_one number request requests (λ later. merges (number + 1) later requests) frames

-- each kind in its own order
all_comings : (number : ℕ) (frames : List Frame) (requests : List TimedDatagram) (list : List Event) → Merges number frames requests list → filter_map coming_in list ≡ frames
all_comings _ _ _ _ (over number) = refl
all_comings _ _ _ _ (comes number frame frames requests list early behind) = ap (λ (fs : List Frame). frame ∷ fs) (all_comings number frames requests list behind)
all_comings _ _ _ _ (asks number request frames requests list late behind) = all_comings (number + 1) frames requests list behind

all_askings : (number : ℕ) (frames : List Frame) (requests : List TimedDatagram) (list : List Event) → Merges number frames requests list → filter_map asking_in list ≡ enumerate_from number requests
all_askings _ _ _ _ (over number) = refl
all_askings _ _ _ _ (comes number frame frames requests list early behind) = all_askings number frames requests list behind
all_askings _ _ _ _ (asks number request frames requests list late behind) =
    ap (λ (rs : List (ℕ × TimedDatagram)). (number, request) ∷ rs) (all_askings (number + 1) frames requests list behind)

-- a number of each element isn't below that of the one before
abbrev pub Rises : {X : Type 0} → (X → ℕ) → ℕ → List X → Type 0
Rises rank low [] = Unit {0}
Rises rank low (x ∷ xs) = (low ≤ rank x) × Rises rank (rank x) xs

module _ {X : Type 0} (rank : X → ℕ) where
  rises_above : (low : ℕ) (xs : List X) → Rises rank low xs → (j : ℕ) (d : X) → j < length xs → low ≤ rank (get_or xs j d)
  rises_above low [] rises j d within = absurd (omega (arith, within))
  rises_above low (x ∷ xs) rises zero d within = rises.0
  rises_above low (x ∷ xs) rises (suc j) d within = omega (arith, rises.0, rises_above (rank x) xs rises.1 j d (omega (arith, within)))

  pub rises_all : (low : ℕ) (xs : List X) → Rises rank low xs → IsNonDecreasingBy rank xs
  rises_all low [] rises i j d le within = absurd (omega (arith, within))
  rises_all low (x ∷ xs) rises zero zero d le within = omega arith
  rises_all low (x ∷ xs) rises zero (suc j) d le within = rises_above (rank x) xs rises.1 j d (omega (arith, within))
  rises_all low (x ∷ xs) rises (suc i) zero d le within = absurd (omega (arith, le))
  rises_all low (x ∷ xs) rises (suc i) (suc j) d le within = rises_all (rank x) xs rises.1 i j d (omega (arith, le)) (omega (arith, within))

  pub rises_from : (low : ℕ) (xs : List X) → IsNonDecreasingBy rank xs → ((j : ℕ) (d : X) → j < length xs → low ≤ rank (get_or xs j d)) → Rises rank low xs
  rises_from low [] order above = tt
  rises_from low (x ∷ xs) order above = (
    above 0 x (omega arith),
    rises_from (rank x) xs
        (λ i j d le within. order (suc i) (suc j) d (omega (arith, le)) (omega (arith, within)))
        (λ j d within. order 0 (suc j) d (omega arith) (omega (arith, within))),
  )

-- frames stand before datagrams of the same moment
abbrev pub frame_rank : Frame → ℕ
frame_rank frame = 2 * frame.moment

abbrev pub request_rank : TimedDatagram → ℕ
request_rank request = 2 * request.moment + 1

abbrev pub event_rank : Event → ℕ
event_rank (Comes frame) = frame_rank frame
event_rank (Asks number request) = request_rank request

requests_rise : (low : ℕ) (requests : List TimedDatagram) (early : (request : TimedDatagram) (more : List TimedDatagram) → requests ≡ request ∷ more → low ≤ request_rank request)
    → (before : ℕ) → Rises request_rank before requests → Rises request_rank low requests
requests_rise low [] early before rises = tt
requests_rise low (request ∷ requests) early before rises = (early request requests refl, rises.1)

frames_rise : (low : ℕ) (frames : List Frame) (late : (frame : Frame) (more : List Frame) → frames ≡ frame ∷ more → low ≤ frame_rank frame)
    → (before : ℕ) → Rises frame_rank before frames → Rises frame_rank low frames
frames_rise low [] late before rises = tt
frames_rise low (frame ∷ frames) late before rises = (late frame frames refl, rises.1)

events_rise : (number : ℕ) (frames : List Frame) (requests : List TimedDatagram) (list : List Event) → Merges number frames requests list → (low : ℕ) → Rises frame_rank low frames → Rises request_rank low requests
    → Rises event_rank low list
events_rise _ _ _ _ (over number) low first second = tt
events_rise _ _ _ _ (comes number frame frames requests list early behind) low first second = (
  first.0,
  events_rise number frames requests list behind (frame_rank frame) first.1
      (requests_rise (frame_rank frame) requests (λ request more are. omega (arith, early request more are)) low second),
)
events_rise _ _ _ _ (asks number request frames requests list late behind) low first second = (
  second.0,
  events_rise (number + 1) frames requests list behind (request_rank request)
      (frames_rise (request_rank request) frames (λ frame more are. omega (arith, late frame more are)) low first) second.1,
)

earlier : (a b : Event) → event_rank a ≤ event_rank b → moment_of a ≤ moment_of b
earlier (Comes a) (Comes b) le = omega (arith, le)
earlier (Comes a) (Asks n b) le = omega (arith, le)
earlier (Asks n a) (Comes b) le = omega (arith, le)
earlier (Asks n a) (Asks k b) le = omega (arith, le)

pub are_in_order : (number : ℕ) (frames : List Frame) (requests : List TimedDatagram) → IsNonDecreasingBy (λ (frame : Frame). frame.moment) frames
    → IsNonDecreasingBy (λ (request : TimedDatagram). request.moment) requests → AreInOrder number frames requests (events number frames requests)
are_in_order number frames requests frames_order requests_order =
    let list = events number frames requests in
    let merge = merges number frames requests in
    let first = rises_from frame_rank 0 frames (λ i j d le within. omega (arith, frames_order i j d le within)) (λ j d within. omega arith) in
    let second = rises_from request_rank 0 requests (λ i j d le within. omega (arith, requests_order i j d le within)) (λ j d within. omega arith) in
    let rise = rises_all event_rank 0 list (events_rise number frames requests list merge 0 first second) in record {
      comings = all_comings number frames requests list merge;
      askings = all_askings number frames requests list merge;
      order = λ i j d le within. earlier (get_or list i d) (get_or list j d) (rise i j d le within);
      frames_first = λ before after asked request frame any sooner within is_request is_frame.
          omega (arith, rise before after any (omega (arith, sooner)) within, ap event_rank is_request, ap event_rank is_frame);
    }
