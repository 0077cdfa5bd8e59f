-- Frames and datagrams are in order in one way.
use Rattle.std.proofs.Common.{◌≡◌, inl, inr, ℕ, ◌<◌, ◌≤◌, List, [], ◌∷◌, length, get_or, refl, sym, ap, ◌∙◌, arith}
use Rattle.std.specs.Prelude.{filter_map}
use Rattle.std.proofs.lemmas.Bool.{cases_lt}
use Rattle.rm_model.specs.Journal.{Frame}
use Rattle.rm_requests.specs.Lines.{TimedDatagram}
use Rattle.rm_probe.specs.Events.{Event, Comes, Asks}
use Rattle.rm_probe.specs.InOrder.{moment_of, coming_in, asking_in, AreInOrder}
use Rattle.rm_probe.proofs.OrderLemmas.{Rises, event_rank, frame_rank, request_rank, rises_from}

-- events in order are so by their ranks
module _ (number : ℕ) (frames : List Frame) (requests : List TimedDatagram) (list : List Event) (order : AreInOrder number frames requests list) where
  not_below : (i j : ℕ) (d : Event) → i ≤ j → j < length list → (a b : Event) → get_or list i d ≡ a → get_or list j d ≡ b → event_rank a ≤ event_rank b
  not_below i j d le within (Comes a) (Comes b) is is' = omega (arith, order.order i j d le within, ap moment_of is, ap moment_of is')
  not_below i j d le within (Comes a) (Asks n b) is is' = omega (arith, order.order i j d le within, ap moment_of is, ap moment_of is')
  not_below i j d le within (Asks n a) (Asks k b) is is' = omega (arith, order.order i j d le within, ap moment_of is, ap moment_of is')
  not_below i j d le within (Asks n a) (Comes b) is is' = elim (cases_lt i j) [
    | inl less ↦ omega (arith, order.frames_first i j n a b d less within is is')
    | inr more ↦ absurd (
        let same : i ≡ j = omega (arith, le, more) in
        let e : Asks n a ≡ Comes b = sym is ∙ ap (λ (k : ℕ). get_or list k d) same ∙ is' in cc)
  ]

  ranked : Rises event_rank 0 list
  ranked = rises_from event_rank 0 list (λ i j d le within. not_below i j d le within (get_or list i d) (get_or list j d) refl refl) (λ j d within. omega arith)

-- the first frame, and the first datagram, of events none of which is of a rank below one
first_coming : (low : ℕ) (list : List Event) → Rises event_rank low list → (frame : Frame) (more : List Frame) → filter_map coming_in list ≡ frame ∷ more → low ≤ frame_rank frame
first_coming low [] rises frame more is = absurd cc
first_coming low (Comes first ∷ list) rises frame more is =
    let e : first ∷ filter_map coming_in list ≡ frame ∷ more = is in
    let same : first ≡ frame = cc in omega (arith, rises.0, ap frame_rank same)
first_coming low (Asks number request ∷ list) rises frame more is = omega (arith, rises.0, first_coming (request_rank request) list rises.1 frame more is)

-- a datagram with its number
abbrev numbered : ℕ → TimedDatagram → ℕ × TimedDatagram
numbered number request = (number, request)

first_asking : (low : ℕ) (list : List Event) → Rises event_rank low list → (number : ℕ) (request : TimedDatagram) (more : List (ℕ × TimedDatagram)) → filter_map asking_in list ≡ numbered number request ∷ more
    → low ≤ request_rank request
first_asking low [] rises number request more is = absurd cc
first_asking low (Comes frame ∷ list) rises number request more is = omega (arith, rises.0, first_asking (frame_rank frame) list rises.1 number request more is)
first_asking low (Asks n first ∷ list) rises number request more is =
    let e : numbered n first ∷ filter_map asking_in list ≡ numbered number request ∷ more = is in
    let same : numbered n first ≡ numbered number request = cc in omega (arith, rises.0, ap (λ (p : ℕ × TimedDatagram). request_rank p.1) same)

-- events with the same frames and the same datagrams, by their ranks
one_list : (low high : ℕ) (list other : List Event) → Rises event_rank low list → Rises event_rank high other → filter_map coming_in list ≡ filter_map coming_in other
    → filter_map asking_in list ≡ filter_map asking_in other → list ≡ other
one_list low high [] [] rises rises' frames requests = refl
one_list low high [] (Comes frame ∷ other) rises rises' frames requests = absurd (let e : [] ≡ frame ∷ filter_map coming_in other = frames in cc)
one_list low high [] (Asks number request ∷ other) rises rises' frames requests = absurd (let e : [] ≡ numbered number request ∷ filter_map asking_in other = requests in cc)
one_list low high (Comes frame ∷ list) [] rises rises' frames requests = absurd (let e : frame ∷ filter_map coming_in list ≡ [] = frames in cc)
one_list low high (Asks number request ∷ list) [] rises rises' frames requests = absurd (let e : numbered number request ∷ filter_map asking_in list ≡ [] = requests in cc)
one_list low high (Comes frame ∷ list) (Comes first ∷ other) rises rises' frames requests =
    let e : frame ∷ filter_map coming_in list ≡ first ∷ filter_map coming_in other = frames in
    let same : frame ≡ first = cc in
    let rest : filter_map coming_in list ≡ filter_map coming_in other = cc in
    ap (λ (f : Frame). Comes f ∷ list) same ∙ ap (λ (es : List Event). Comes first ∷ es) (one_list (frame_rank frame) (frame_rank first) list other rises.1 rises'.1 rest requests)
one_list low high (Asks number request ∷ list) (Asks n first ∷ other) rises rises' frames requests =
    let e : numbered number request ∷ filter_map asking_in list ≡ numbered n first ∷ filter_map asking_in other = requests in
    let same : numbered number request ≡ numbered n first = cc in
    let rest : filter_map asking_in list ≡ filter_map asking_in other = cc in
    ap (λ (p : ℕ × TimedDatagram). Asks p.0 p.1 ∷ list) same ∙ ap (λ (es : List Event). Asks n first ∷ es) (one_list (request_rank request) (request_rank first) list other rises.1 rises'.1 frames rest)
one_list low high (Comes frame ∷ list) (Asks number request ∷ other) rises rises' frames requests =
    let soon : frame_rank frame ≤ request_rank request = first_asking (frame_rank frame) list rises.1 number request (filter_map asking_in other) requests in
    let late : request_rank request ≤ frame_rank frame = first_coming (request_rank request) other rises'.1 frame (filter_map coming_in list) (sym frames) in
    absurd (omega (arith, soon, late))
one_list low high (Asks number request ∷ list) (Comes frame ∷ other) rises rises' frames requests =
    let soon : frame_rank frame ≤ request_rank request = first_asking (frame_rank frame) other rises'.1 number request (filter_map asking_in list) (sym requests) in
    let late : request_rank request ≤ frame_rank frame = first_coming (request_rank request) list rises.1 frame (filter_map coming_in other) frames in
    absurd (omega (arith, soon, late))

pub one_order : (number : ℕ) (frames : List Frame) (requests : List TimedDatagram) (list other : List Event) → AreInOrder number frames requests list → AreInOrder number frames requests other → list ≡ other
one_order number frames requests list other order order' =
    one_list 0 0 list other (ranked number frames requests list order) (ranked number frames requests other order') (order.comings ∙ sym order'.comings) (order.askings ∙ sym order'.askings)
