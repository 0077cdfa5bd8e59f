-- Events up to a datagram, and those behind it.
use Rattle.std.proofs.Common.{◌≡◌, ℕ, ◌+◌, List, [], ◌∷◌, ◌++◌, length, refl, sym, ap, ◌∙◌, arith, take_while, append_assoc}
use Rattle.rm_model.specs.Journal.{Frame}
use Rattle.rm_requests.specs.Lines.{TimedDatagram}
use Rattle.rm_probe.proofs.PassingLemmas.{all_frames, more_comings}
use Rattle.rm_probe.specs.Events.{Event, Asks, comings}
use Rattle.rm_probe.proofs.Going.{events, events_by, frames_left}
use Rattle.rm_captures.specs.Merge.{frames_after, is_by}

-- the events up to a datagram behind others
pub events_more : (number : ℕ) (frames : List Frame) (taken : List TimedDatagram) (request : TimedDatagram)
    → events_by number frames (taken ++ request ∷ []) ≡ events_by number frames taken ++ (comings (take_while (is_by request.moment) (frames_left taken frames)) ++ Asks (number + length taken) request ∷ [])
unfolding events_by frames_left
events_more number frames [] request =
    let same : number ≡ number + 0 = omega arith in
    ap (λ (n : ℕ). comings (take_while (is_by request.moment) frames) ++ Asks n request ∷ []) same
events_more number frames (first ∷ taken) request =
    let here : List Event = comings (take_while (is_by first.moment) frames) in
    let next : List Frame = frames_after first.moment frames in
    let same : number + 1 + length taken ≡ number + length (first ∷ taken) = omega arith in
    ap (λ (es : List Event). here ++ Asks number first ∷ es) (events_more (number + 1) next taken request
    ∙ ap (λ (n : ℕ). events_by (number + 1) next taken ++ (comings (take_while (is_by request.moment) (frames_left taken next)) ++ Asks n request ∷ [])) same)
    ∙ sym (append_assoc here (Asks number first ∷ events_by (number + 1) next taken) (comings (take_while (is_by request.moment) (frames_left taken next)) ++ Asks (number + length (first ∷ taken)) request ∷ []))

-- the frames after it
pub left_more : (frames : List Frame) (taken : List TimedDatagram) (request : TimedDatagram) → frames_left (taken ++ request ∷ []) frames ≡ frames_after request.moment (frames_left taken frames)
unfolding frames_left
left_more frames [] request = refl
left_more frames (first ∷ taken) request = left_more (frames_after first.moment frames) taken request

-- all events, those of some datagrams first
pub events_split : (number : ℕ) (frames : List Frame) (taken more : List TimedDatagram)
    → events number frames (taken ++ more) ≡ events_by number frames taken ++ events (number + length taken) (frames_left taken frames) more
unfolding events_by frames_left
events_split number frames [] more =
    let same : number ≡ number + 0 = omega arith in ap (λ (n : ℕ). events n frames more) same
events_split number frames (first ∷ taken) more =
    let here : List Event = comings (take_while (is_by first.moment) frames) in
    let next : List Frame = frames_after first.moment frames in
    let same : number + 1 + length taken ≡ number + length (first ∷ taken) = omega arith in
    append_assoc here (Asks number first ∷ events_by (number + 1) next (taken ++ more)) (comings (frames_left (taken ++ more) next))
    ∙ ap (λ (es : List Event). here ++ Asks number first ∷ es) (events_split (number + 1) next taken more
    ∙ ap (λ (n : ℕ). events_by (number + 1) next taken ++ events n (frames_left taken next) more) same)
    ∙ sym (append_assoc here (Asks number first ∷ events_by (number + 1) next taken) (events (number + length (first ∷ taken)) (frames_left taken next) more))

-- all events from a datagram on
pub split_at : (number : ℕ) (left : List Frame) (request : TimedDatagram) (more : List TimedDatagram)
    → comings (take_while (is_by request.moment) left) ++ (Asks number request ∷ events (number + 1) (frames_after request.moment left) more) ≡ events number left (request ∷ more)
unfolding events_by frames_left
split_at number left request more =
    sym (append_assoc (comings (take_while (is_by request.moment) left)) (Asks number request ∷ events_by (number + 1) (frames_after request.moment left) more) (comings (frames_left more (frames_after request.moment left))))

-- all events where no datagram is left
pub split_last : (number moment : ℕ) (left : List Frame) → comings (take_while (is_by moment) left) ++ comings (frames_after moment left) ≡ events number left []
unfolding events_by frames_left
split_last number moment left = sym (more_comings (take_while (is_by moment) left) (frames_after moment left)) ∙ ap comings (all_frames moment left)
