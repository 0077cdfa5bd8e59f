-- The frames up to the last datagram, and those behind it.
use Rattle.std.proofs.Common.{◌≡◌, ℕ, ◌+◌, ◌≤◌, Bool, true, false, List, [], ◌∷◌, ◌++◌, refl, sym, ap, ◌∙◌, arith, take_while}
use Rattle.std.specs.List.{prefix_len}
use Rattle.std.proofs.Math.Numerals.{one-add}
use Rattle.std.proofs.lemmas.Bool.Decides.{nat_tests}
use Rattle.rm_model.specs.Journal.{Frame}
use Rattle.rm_captures.specs.Merge.{frames_after, is_by}
use Rattle.rm_requests.specs.Lines.{TimedDatagram}
use Rattle.rm_probe.specs.Events.{Event, Asks, comings}
use Rattle.rm_probe.specs.Serving.{Arrival, last_of, requests_of}
use Rattle.rm_probe.proofs.Going.{events_by, frames_left}
use Rattle.rm_probe.proofs.OrderLemmas.{Rises}

-- the frames up to a moment
abbrev upto : ℕ → List Frame → List Frame
upto moment frames = take_while (is_by moment) frames

module _ (moment : ℕ) (frame : Frame) (frames : List Frame) where
  upto_soon : is_by moment frame ≡ true → upto moment (frame ∷ frames) ≡ frame ∷ upto moment frames
  upto_soon by = rw (by, one-add (prefix_len (is_by moment) frames)) refl

  upto_late : is_by moment frame ≡ false → upto moment (frame ∷ frames) ≡ []
  upto_late later = rw later refl

  after_soon : is_by moment frame ≡ true → frames_after moment (frame ∷ frames) ≡ frames_after moment frames
  after_soon by = rw (by, one-add (prefix_len (is_by moment) frames)) refl

  after_late : is_by moment frame ≡ false → frames_after moment (frame ∷ frames) ≡ frame ∷ frames
  after_late later = rw later refl

-- none of the frames after a moment stands up to it
pub none_upto : (moment : ℕ) (frames : List Frame) → upto moment (frames_after moment frames) ≡ []
none_upto moment [] = refl
none_upto moment (frame ∷ frames) = by_time (is_by moment frame) refl (none_upto moment frames)
  where
    by_time : (by : Bool) → is_by moment frame ≡ by → upto moment (frames_after moment frames) ≡ [] → upto moment (frames_after moment (frame ∷ frames)) ≡ []
    by_time true by behind = ap (upto moment) (after_soon moment frame frames by) ∙ behind
    by_time false later behind = ap (upto moment) (after_late moment frame frames later) ∙ upto_late moment frame frames later

module _ (low moment : ℕ) (le : low ≤ moment) where
  soon_then : (frame : Frame) → is_by low frame ≡ true → is_by moment frame ≡ true
  soon_then frame by = grind (arith, nat_tests)

  -- of the frames up to a moment those up to one before
  upto_sooner : (frames : List Frame) → upto low (upto moment frames) ≡ upto low frames
  upto_sooner [] = refl
  upto_sooner (frame ∷ frames) = by_time (is_by low frame) (is_by moment frame) refl refl (upto_sooner frames)
    where
      by_time : (soon by : Bool) → is_by low frame ≡ soon → is_by moment frame ≡ by → upto low (upto moment frames) ≡ upto low frames → upto low (upto moment (frame ∷ frames)) ≡ upto low (frame ∷ frames)
      by_time true by soon is behind =
          ap (upto low) (upto_soon moment frame frames (soon_then frame soon)) ∙ upto_soon low frame (upto moment frames) soon ∙ ap (λ (fs : List Frame). frame ∷ fs) behind ∙ sym (upto_soon low frame frames soon)
      by_time false true late is behind = ap (upto low) (upto_soon moment frame frames is) ∙ upto_late low frame (upto moment frames) late ∙ sym (upto_late low frame frames late)
      by_time false false late is behind = ap (upto low) (upto_late moment frame frames is) ∙ sym (upto_late low frame frames late)

  -- and those after it
  after_upto : (frames : List Frame) → frames_after low (upto moment frames) ≡ upto moment (frames_after low frames)
  after_upto [] = refl
  after_upto (frame ∷ frames) = by_time (is_by low frame) (is_by moment frame) refl refl (after_upto frames)
    where
      by_time : (soon by : Bool) → is_by low frame ≡ soon → is_by moment frame ≡ by → frames_after low (upto moment frames) ≡ upto moment (frames_after low frames)
          → frames_after low (upto moment (frame ∷ frames)) ≡ upto moment (frames_after low (frame ∷ frames))
      by_time true by soon is behind =
          ap (frames_after low) (upto_soon moment frame frames (soon_then frame soon)) ∙ after_soon low frame (upto moment frames) soon ∙ behind ∙ sym (ap (upto moment) (after_soon low frame frames soon))
      by_time false true late is behind =
          ap (frames_after low) (upto_soon moment frame frames is) ∙ after_late low frame (upto moment frames) late ∙ sym (upto_soon moment frame frames is) ∙ sym (ap (upto moment) (after_late low frame frames late))
      by_time false false late is behind = ap (frames_after low) (upto_late moment frame frames is) ∙ sym (upto_late moment frame frames is) ∙ sym (ap (upto moment) (after_late low frame frames late))

  after_later : (frames : List Frame) → frames_after moment (frames_after low frames) ≡ frames_after moment frames
  after_later [] = refl
  after_later (frame ∷ frames) = by_time (is_by low frame) refl (after_later frames)
    where
      by_time : (soon : Bool) → is_by low frame ≡ soon → frames_after moment (frames_after low frames) ≡ frames_after moment frames → frames_after moment (frames_after low (frame ∷ frames)) ≡ frames_after moment (frame ∷ frames)
      by_time true soon behind = ap (frames_after moment) (after_soon low frame frames soon) ∙ behind ∙ sym (after_soon moment frame frames (soon_then frame soon))
      by_time false late behind = ap (frames_after moment) (after_late low frame frames late)

-- none of the datagrams comes after a moment
abbrev pub ComeBy : ℕ → List TimedDatagram → Type 0
ComeBy moment [] = Unit {0}
ComeBy moment (request ∷ more) = (request.moment ≤ moment) × ComeBy moment more

-- so the frames after it make no difference to what happens up to the last of them
pub events_upto : (moment number : ℕ) (requests : List TimedDatagram) (frames : List Frame) → ComeBy moment requests → events_by number (upto moment frames) requests ≡ events_by number frames requests
unfolding events_by
events_upto moment number [] frames come = refl
events_upto moment number (request ∷ more) frames come =
    ap (λ (fs : List Frame). comings fs ++ Asks number request ∷ events_by (number + 1) (frames_after request.moment (upto moment frames)) more) (upto_sooner request.moment moment come.0 frames)
    ∙ ap (λ (fs : List Frame). comings (upto request.moment frames) ++ Asks number request ∷ events_by (number + 1) fs more) (after_upto request.moment moment come.0 frames)
    ∙ ap (λ (es : List Event). comings (upto request.moment frames) ++ Asks number request ∷ es) (events_upto moment (number + 1) more (frames_after request.moment frames) come.1)

left_upto : (moment : ℕ) (requests : List TimedDatagram) (frames : List Frame) → ComeBy moment requests → frames_left requests (upto moment frames) ≡ upto moment (frames_left requests frames)
unfolding frames_left
left_upto moment [] frames come = refl
left_upto moment (request ∷ more) frames come =
    ap (frames_left more) (after_upto request.moment moment come.0 frames) ∙ left_upto moment more (frames_after request.moment frames) come.1

-- datagrams that come at moments that don't fall, and none before one
abbrev pub Arrive : ℕ → List Arrival → Type 0
Arrive low arrivals = Rises (λ (request : TimedDatagram). request.moment) low (requests_of arrivals)

-- the last of them
last_after : (low : ℕ) (arrivals : List Arrival) → Arrive low arrivals → low ≤ last_of low arrivals
unfolding last_of
last_after low [] arrive = omega arith
last_after low (arrival ∷ more) arrive = omega (arith, arrive.0, last_after arrival.moment more arrive.1)

all_by_last : (low : ℕ) (arrivals : List Arrival) → Arrive low arrivals → ComeBy (last_of low arrivals) (requests_of arrivals)
unfolding last_of
all_by_last low [] arrive = tt
all_by_last low (arrival ∷ more) arrive = (last_after arrival.moment more arrive.1, all_by_last arrival.moment more arrive.1)

pub all_come : (arrival : Arrival) (more : List Arrival) → Arrive 0 (arrival ∷ more) → ComeBy (last_of arrival.moment more) (requests_of (arrival ∷ more))
all_come arrival more arrive = (last_after arrival.moment more arrive.1, all_by_last arrival.moment more arrive.1)

-- the frames that are left are those after the last of them
left_after : (low : ℕ) (arrivals : List Arrival) (frames : List Frame) → Arrive low arrivals → frames_left (requests_of arrivals) (frames_after low frames) ≡ frames_after (last_of low arrivals) frames
unfolding last_of frames_left
left_after low [] frames arrive = refl
left_after low (arrival ∷ more) frames arrive =
    ap (frames_left (requests_of more)) (after_later low arrival.moment arrive.0 frames) ∙ left_after arrival.moment more frames arrive.1

pub left_last : (arrival : Arrival) (more : List Arrival) (frames : List Frame) → Arrive arrival.moment more → frames_left (requests_of (arrival ∷ more)) frames ≡ frames_after (last_of arrival.moment more) frames
unfolding frames_left
left_last arrival more frames arrive = left_after arrival.moment more frames arrive

-- and none of the frames up to it is left
pub none_left : (arrival : Arrival) (more : List Arrival) (frames : List Frame) → Arrive 0 (arrival ∷ more) → frames_left (requests_of (arrival ∷ more)) (upto (last_of arrival.moment more) frames) ≡ []
none_left arrival more frames arrive =
    left_upto (last_of arrival.moment more) (requests_of (arrival ∷ more)) frames (all_come arrival more arrive)
    ∙ ap (upto (last_of arrival.moment more)) (left_last arrival more frames arrive.1) ∙ none_upto (last_of arrival.moment more) frames
