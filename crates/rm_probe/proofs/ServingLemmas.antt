-- How far a run that serves is.
use Rattle.std.proofs.Common.{◌≡◌, inl, inr, ℕ, ◌+◌, ◌-◌, ◌≤◌, List, [], ◌∷◌, ◌++◌, length, map, take, take_while, Option, None, Result, Ok, Err, refl, sym, ap, subst, ◌∙◌, arith, append_assoc}
use Rattle.std.proofs.lemmas.List.{append-nil, drop_at, length-append, length-map, take_all}
use mathlib.Core.List.{map-append}
use Rattle.rm_edge.specs.Outside.{Adds, Held}
use Rattle.rm_edge.specs.Link.{Datagram}
use Rattle.rm_edge.specs.Uses.{SinkUse, LinkUse, ClockUse, clock_use, link_use, sink_use}
use Rattle.rm_edge.specs.declared.outside.link.Peer.{Peer}
use Rattle.rm_model.specs.Journal.{Frame, Journal}
use Rattle.rm_pcap.specs.Records.{Stop}
use Rattle.rm_pcap.specs.declared.capture.Capture.{Capture}
use Rattle.rm_captures.specs.Left.{AreLeft, passed_of}
use Rattle.rm_captures.specs.Reading.{AreHeld}
use Rattle.rm_settings.specs.declared.settings.Settings.{Settings}
use Rattle.rm_requests.specs.Lines.{TimedDatagram}
use Rattle.rm_probe.specs.Events.{Event, Asks, comings}
use Rattle.rm_probe.proofs.Going.{SaysServedThrough, ServesThrough, events_by, frames_left}
use Rattle.rm_captures.specs.Merge.{is_by}
use Rattle.rm_probe.specs.Notes.{Note}
use Rattle.rm_probe.specs.Output.{HasAdded, IsSaidFront, Shown, TellsBehind, adds_none, grown_none, nothing_added, shown}
use Rattle.rm_probe.specs.Probe.{Stands, last_given, settings_of}
use Rattle.rm_probe.specs.Said.{Dropped, Last, Notified, Replied, Responded, Response, Said, answers_in, is_cut_behind, lines, messages, messages_of, to_each}
use Rattle.rm_probe.specs.Serving.{Arrival, HaveCome, asking_of, last_of, peers_of, request_of, requests_of}
use Rattle.rm_probe.specs.Steps.{FailsBy, FindsAnother, HasBegun, IsLastLine, IsNextSaid, IsOfOne, IsResponse, Keeps, SaysNext, TellsNoMessage}
use Rattle.rm_probe.specs.Text.{AreSaid}
use Rattle.rm_probe.specs.Turns.{HasServed, SaysTurn, shown_after, shown_before}
use Rattle.rm_probe.specs.declared.output.OutputFault.{OutputFault}
use Rattle.rm_probe.specs.declared.output.OutputFault.TheVariants.{Send}
use Rattle.rm_probe.specs.declared.probe.Probe.{Probe}
use Rattle.rm_probe.specs.declared.status.Status.{Status}
use Rattle.rm_probe.specs.declared.status.Status.TheVariants.{Done, Usage, BadCapture, BadRequests, ReadFault, WriteFault, NoMemory, LinkFault, TooLong}
use Rattle.rm_captures.proofs.RoundLemmas.{held_still}
use Rattle.rm_probe.proofs.ArrivalLemmas.{come_then, last_more, none_come}
use Rattle.rm_probe.proofs.EventLemmas.{events_more}
use Rattle.rm_probe.proofs.PassingLemmas.{SomethingSaid, begun_said, nothing_said}
use Rattle.rm_probe.proofs.RunLemmas.{InRun, next_said, run_begin, says_faultless}
use Rattle.rm_probe.proofs.OutputLemmas.{added_more, more_messages, said_then_front}
use Rattle.rm_probe.proofs.WritingLemmas.{send_rose}

-- the messages of each thing said are the same, whichever of two asked
Alike : List Peer → (ℕ → List Peer) → (ℕ → List Peer) → List Said → Type 0
Alike managers f g [] = Unit {0}
Alike managers f g (one ∷ more) = (messages_of managers f one ≡ messages_of managers g one) × Alike managers f g more

none_alike : (managers : List Peer) (f g : ℕ → List Peer) → Alike managers f g []
unfolding Alike
none_alike managers f g = tt

alike_messages : (managers : List Peer) (f g : ℕ → List Peer) (said : List Said) → Alike managers f g said → messages managers f said ≡ messages managers g said
unfolding Alike
alike_messages managers f g [] same = refl
alike_messages managers f g (one ∷ more) (here, there) =
    ap (λ (l : List Datagram). l ++ messages managers f more) here ∙ ap (λ (l : List Datagram). messages_of managers g one ++ l) (alike_messages managers f g more there)

alike_front : (managers : List Peer) (f g : ℕ → List Peer) (said more : List Said) → Alike managers f g (said ++ more) → Alike managers f g said
unfolding Alike
alike_front managers f g [] more same = tt
alike_front managers f g (one ∷ said) more (here, there) = (here, alike_front managers f g said more there)

alike_behind : (managers : List Peer) (f g : ℕ → List Peer) (said more : List Said) → Alike managers f g (said ++ more) → Alike managers f g more
unfolding Alike
alike_behind managers f g [] more same = same
alike_behind managers f g (one ∷ said) more (here, there) = alike_behind managers f g said more there

-- notifications are sent to the same, whoever asked
notes_alike : (managers : List Peer) (f g : ℕ → List Peer) (notes : List Note) (more : List Said) → Alike managers f g more → Alike managers f g (map Notified notes ++ more)
unfolding Alike
notes_alike managers f g [] more same = same
notes_alike managers f g (note ∷ notes) more same = (refl, notes_alike managers f g notes more same)

response_alike : (managers : List Peer) (f g : ℕ → List Peer) (number moment : ℕ) (response : Response) → f number ≡ g number → Alike managers f g (Responded number moment response ∷ [])
unfolding Alike
response_alike managers f g number moment (Replied message) same = (ap (λ (peers : List Peer). to_each peers message) same, tt)
response_alike managers f g number moment (Dropped reason) same = (refl, tt)

-- what is said of one datagram is sent to the same, where the same asked
one_alike : (managers : List Peer) (f g : ℕ → List Peer) (number : ℕ) (said : List Said) → f number ≡ g number → IsOfOne number said → Alike managers f g said
one_alike managers f g number said same (inl one) = rw one.is (notes_alike managers f g one.notes (Responded number one.moment one.response ∷ []) (response_alike managers f g number one.moment one.response same))
one_alike managers f g number said same (inr (notes, is)) =
    subst (λ (s : List Said). Alike managers f g s) (sym is) (subst (λ (s : List Said). Alike managers f g s) (append-nil (map Notified notes)) (notes_alike managers f g notes [] (none_alike managers f g)))

-- who asked next
asked_next : (arrivals rest : List Arrival) (number : ℕ) → number ≡ 1 + length arrivals → asking_of (arrivals ++ rest) number ≡ peers_of (take 1 rest)
asked_next arrivals rest number is = ap (λ (later : List Arrival). peers_of (take 1 later)) (drop_at arrivals rest (number - 1) (omega (arith, is)))

turn_alike : (manager : Peer) (arrivals next rest : List Arrival) (more : List Said) (number : ℕ) → number ≡ 1 + length arrivals → take 1 rest ≡ next → IsOfOne number more
    → Alike (manager ∷ []) (λ (n : ℕ). peers_of next) (asking_of (arrivals ++ rest)) more
turn_alike manager arrivals next rest more number is one of_one =
    one_alike (manager ∷ []) (λ (n : ℕ). peers_of next) (asking_of (arrivals ++ rest)) number more (ap peers_of (sym one) ∙ sym (asked_next arrivals rest number is)) of_one

-- some things were added, and then what was said of the next datagram
pub turn_adds : (manager : Peer) (first mid last : Shown) (arrivals next rest : List Arrival) (said more : List Said) (number : ℕ) → number ≡ 1 + length arrivals → take 1 rest ≡ next → IsOfOne number more
    → HasAdded first mid (lines said) (messages (manager ∷ []) (asking_of (arrivals ++ rest)) said)
    → HasAdded mid last (lines more) (messages (manager ∷ []) (λ (n : ℕ). peers_of next) more)
    → HasAdded first last (lines (said ++ more)) (messages (manager ∷ []) (asking_of (arrivals ++ rest)) (said ++ more))
turn_adds manager first mid last arrivals next rest said more number is one of_one before turn =
    added_more (manager ∷ []) (asking_of (arrivals ++ rest)) first mid last said more before
    (subst (λ (ms : List Datagram). HasAdded mid last (lines more) ms)
    (alike_messages (manager ∷ []) (λ (n : ℕ). peers_of next) (asking_of (arrivals ++ rest)) more (turn_alike manager arrivals next rest more number is one of_one)) turn)

-- a front is one, whichever of two asked
alike_tells : (managers : List Peer) (f g : ℕ → List Peer) (content content' : Option (List ℕ)) (sent sent' : Option (List Datagram)) (said told : List Said) → Alike managers f g said
    → IsSaidFront managers f content content' sent sent' said told → IsSaidFront managers g content content' sent sent' said told
alike_tells managers f g content content' sent sent' said told same front = record {
  next = front.next;
  rest = front.rest;
  split = front.split;
  one = front.one;
  tells = by_tells front.tells;
}
  where
    all : Alike managers f g (told ++ (front.next ++ front.rest))
    all = subst (λ (s : List Said). Alike managers f g s) front.split same

    first : messages managers f told ≡ messages managers g told
    first = alike_messages managers f g told (alike_front managers f g told (front.next ++ front.rest) all)

    then : messages managers f front.next ≡ messages managers g front.next
    then = alike_messages managers f g front.next (alike_front managers f g front.next front.rest (alike_behind managers f g told (front.next ++ front.rest) all))

    by_tells : TellsBehind content content' sent sent' (lines told) (messages managers f told) (lines front.next) (messages managers f front.next)
        → TellsBehind content content' sent sent' (lines told) (messages managers g told) (lines front.next) (messages managers g front.next)
    by_tells (inl (puts, sends)) = inl (puts, subst (λ (ms : List Datagram). Adds sent sent' ms) first sends)
    by_tells (inr (puts, (n, sends))) = inr (
      puts,
      (n, subst (λ (ms : List Datagram). Adds sent sent' (messages managers g told ++ take n ms)) then (subst (λ (ms : List Datagram). Adds sent sent' (ms ++ take n (messages managers f front.next))) first sends)),
    )

-- and of that a front
turn_front : (manager : Peer) (first mid last : Shown) (arrivals next rest : List Arrival) (said more told : List Said) (number : ℕ) → number ≡ 1 + length arrivals → take 1 rest ≡ next → IsOfOne number more
    → HasAdded first mid (lines said) (messages (manager ∷ []) (asking_of (arrivals ++ rest)) said) → mid.failed ≡ None
    → IsSaidFront (manager ∷ []) (λ (n : ℕ). peers_of next) mid.content last.content mid.sent last.sent more told
    → IsSaidFront (manager ∷ []) (asking_of (arrivals ++ rest)) first.content last.content first.sent last.sent (said ++ more) (said ++ told)
turn_front manager first mid last arrivals next rest said more told number is one of_one before well front =
    said_then_front (manager ∷ []) (asking_of (arrivals ++ rest)) first.content mid.content last.content first.sent mid.sent last.sent said more told (before.puts.whole well) (before.sends.whole well)
    (alike_tells (manager ∷ []) (λ (n : ℕ). peers_of next) (asking_of (arrivals ++ rest)) mid.content last.content mid.sent last.sent more told (turn_alike manager arrivals next rest more number is one of_one) front)

-- the first of what no message tells is told by none
none_front : (managers : List Peer) (asking : ℕ → List Peer) (said more : List Said) → messages managers asking (said ++ more) ≡ [] → messages managers asking said ≡ []
none_front managers asking said more none = first_none (messages managers asking said) (messages managers asking more) (sym (more_messages managers asking said more) ∙ none)
  where
    first_none : (xs ys : List Datagram) → xs ++ ys ≡ [] → xs ≡ []
    first_none [] ys e = refl
    first_none (x ∷ xs) ys e = absurd cc

-- a front beside a link on which nothing is sent
pub front_beside : (managers others : List Peer) (asking asked : ℕ → List Peer) (content content' : Option (List ℕ)) (s t sent : Option (List Datagram)) (said told : List Said) → TellsNoMessage said
    → IsSaidFront others asked content content' s t said told → IsSaidFront managers asking content content' sent sent said told
front_beside managers others asking asked content content' s t sent said told silent front = record {
  next = front.next;
  rest = front.rest;
  split = front.split;
  one = front.one;
  tells = by_tells front.tells;
}
  where
    none : messages managers asking told ≡ []
    none = none_front managers asking told (front.next ++ front.rest) (ap (messages managers asking) (sym front.split) ∙ silent managers asking)

    by_tells : TellsBehind content content' s t (lines told) (messages others asked told) (lines front.next) (messages others asked front.next)
        → TellsBehind content content' sent sent (lines told) (messages managers asking told) (lines front.next) (messages managers asking front.next)
    by_tells (inl (puts, sends)) = inl (puts, subst (λ (ms : List Datagram). Adds sent sent ms) (sym none) (adds_none sent))
    by_tells (inr (puts, sends)) = inr (puts, (0, subst (λ (ms : List Datagram). Adds sent sent ms) (sym (append-nil (messages managers asking told) ∙ none)) (adds_none sent)))

-- what is put beside a link on which nothing is sent
pub put_beside : (a b : Shown) (sent : Option (List Datagram)) (sends : ℕ) (said : List Said) (none : List Datagram) → HasAdded a b (lines said) none → a.failed ≡ None → a.sends ≡ 0 → b.sends ≡ 0
    → HasAdded (record { content = a.content; puts = a.puts; sent = sent; sends = sends; failed = None }) (record { content = b.content; puts = b.puts; sent = sent; sends = sends; failed = b.failed }) (lines said) []
put_beside a b sent sends said none added well first last =
    let still = grown_none {A = Datagram} Send sent sends None in
    record {
      puts = rw well at added.puts;
      sends = record {
        whole = λ e. still.whole refl;
        front = still.front;
        later = still.later;
        cause = λ e. absurd (let rose = send_rose a b said none added well e in omega (arith, rose, first, last));
        stays = λ fault e. refl;
      };
      stays = λ fault e. absurd cc;
    }

module _ (settings : Settings) where
  -- how far a run that serves is
  pub record HasRun {F : Type 0} (held : F → List ℕ → Held) (reads : F → List ℕ → ℕ) (shelf shelf' : F) (names : List (List ℕ)) (named : ℕ) (manager : Peer) (out : SinkUse) (link : LinkUse) (clock : ClockUse)
      (begun captures : List Capture) (probe : Probe) (number last : ℕ) (arrivals : List Arrival) (said : List Said) : Type 0 where
    pub same : (each : List ℕ) → held shelf' each ≡ held shelf each
    pub quiet : (each : List ℕ) → reads shelf' each ≡ reads shelf each
    pub come : HaveCome link.received link.received_after clock.told clock.told_after 0 arrivals
    pub bound : link.bound_after ≡ link.bound
    pub adds : (rest : List Arrival) → HasAdded (shown_before out link) (shown_after out link None) (lines said) (messages (manager ∷ []) (asking_of (arrivals ++ rest)) said)
    pub number_is : number ≡ length arrivals
    pub answered : answers_in said ≡ number
    pub last_is : last_of 0 arrivals ≡ last
    pub settings_same : settings_of probe ≡ settings
    pub given : last_given probe ≤ last
    pub keeps : Keeps named (last_given probe) probe captures
    pub run : (files : List (List ℕ)) (frames : List Frame) (stop : Stop) → AreHeld (held shelf) names files → AreLeft 1 begun files frames stop
        → InRun settings files frames stop (requests_of arrivals) captures probe said

  -- what may be said of the datagrams that came, with the last line
  served : (frames : List Frame) (stop : Stop) (arrivals : List Arrival) (before : List Said) → AreSaid settings [] (events_by 1 frames (requests_of arrivals)) before
      → ServesThrough settings frames stop arrivals (before ++ Last (is_cut_behind (frames_left (requests_of arrivals) frames) stop) (length frames - length (frames_left (requests_of arrivals) frames)) (length arrivals) ∷ [])
  served frames stop arrivals before are = record { before = before; are_said = are; whole = refl }

  -- what was said so far may be said of the datagrams that came
  said_of : (files : List (List ℕ)) (frames : List Frame) (stop : Stop) (arrivals : List Arrival) (captures : List Capture) (probe : Probe) (said : List Said)
      → InRun settings files frames stop (requests_of arrivals) captures probe said → AreSaid settings [] (events_by 1 frames (requests_of arrivals)) said
  said_of files frames stop arrivals captures probe said r =
      subst (λ (s : List Said). AreSaid settings [] (events_by 1 frames (requests_of arrivals)) s) (append-nil said)
      (subst (λ (es : List Event). AreSaid settings [] es (said ++ [])) (append-nil (events_by 1 frames (requests_of arrivals))) (r.goes [] [] (nothing_said settings r.journal)))

  -- a run that stops there has said the first of what may be said
  pub served_so_far : (files : List (List ℕ)) (frames : List Frame) (stop : Stop) (arrivals : List Arrival) (captures : List Capture) (probe : Probe) (said : List Said)
      → InRun settings files frames stop (requests_of arrivals) captures probe said → (rest : List Said) × ServesThrough settings frames stop arrivals (said ++ rest)
  served_so_far files frames stop arrivals captures probe said r = (_, served frames stop arrivals said (said_of files frames stop arrivals captures probe said r))

  -- a datagram more
  pub next_served : (files : List (List ℕ)) (frames : List Frame) (stop : Stop) (arrivals : List Arrival) (captures captures' : List Capture) (probe probe' : Probe) (said next : List Said) (number : ℕ) (arrival : Arrival)
      → (r : InRun settings files frames stop (requests_of arrivals) captures probe said) → number ≡ 1 + length arrivals → IsNextSaid files captures captures' settings probe' number (request_of arrival) r.left stop r.journal next
      → InRun settings files frames stop (requests_of (arrivals ++ arrival ∷ [])) captures' probe' (said ++ next)
  next_served files frames stop arrivals captures captures' probe probe' said next number arrival r is one =
      subst (λ (rs : List TimedDatagram). InRun settings files frames stop rs captures' probe' (said ++ next)) (sym (map-append request_of arrivals (arrival ∷ [])))
      (next_said settings files frames stop (requests_of arrivals) captures captures' probe probe' said next number (request_of arrival) r (is ∙ ap (λ (n : ℕ). 1 + n) (sym (length-map arrivals request_of))) one)

  -- a run that stops after some notifications up to a datagram
  served_stopped : SomethingSaid → (files : List (List ℕ)) (frames : List Frame) (stop : Stop) (arrivals : List Arrival) (captures : List Capture) (probe : Probe) (said : List Said) (arrival : Arrival) (notes : List Note)
      → (r : InRun settings files frames stop (requests_of arrivals) captures probe said) → HasBegun settings arrival.moment r.left r.journal notes
      → (rest : List Said) × ServesThrough settings frames stop (arrivals ++ arrival ∷ []) ((said ++ map Notified notes) ++ rest)
  served_stopped every files frames stop arrivals captures probe said arrival notes r begun =
      let taken : List TimedDatagram = requests_of arrivals in
      let request : TimedDatagram = request_of arrival in
      let asks : List Event = Asks (1 + length taken) request ∷ [] in
      let m = begun_said settings every arrival.moment r.left r.journal notes asks begun in
      let all = r.goes (comings (take_while (is_by arrival.moment) r.left) ++ asks) (map Notified notes ++ m.0) m.1 in
      let es : events_by 1 frames taken ++ (comings (take_while (is_by arrival.moment) r.left) ++ asks) ≡ events_by 1 frames (requests_of (arrivals ++ arrival ∷ [])) =
      ap (λ (fs : List Frame). events_by 1 frames taken ++ (comings (take_while (is_by arrival.moment) fs) ++ asks)) r.left_is ∙ sym (events_more 1 frames taken request)
      ∙ ap (events_by 1 frames) (sym (map-append request_of arrivals (arrival ∷ []))) in
      let are = subst (λ (e : List Event). AreSaid settings [] e (said ++ (map Notified notes ++ m.0))) es all in
      let last : List Said = Last (is_cut_behind (frames_left (requests_of (arrivals ++ arrival ∷ [])) frames) stop) (length frames - length (frames_left (requests_of (arrivals ++ arrival ∷ [])) frames)) (length (arrivals ++ arrival ∷ [])) ∷ [] in (
        m.0 ++ last,
        record { before = said ++ (map Notified notes ++ m.0); are_said = are; whole = simp append_assoc },
      )

  -- the answer to a datagram isn't said whole, or none came
  pub turn_stops : SomethingSaid → (files : List (List ℕ)) (frames : List Frame) (stop : Stop) (arrivals next : List Arrival) (captures captures' : List Capture) (probe probe' : Probe) (said more : List Said) (number : ℕ)
      → (r : InRun settings files frames stop (requests_of arrivals) captures probe said) → number ≡ 1 + length arrivals → (status : Status)
      → SaysTurn {T = Unit {0}} files captures captures' settings probe' number r.left stop r.journal next more (Err status) → SaysServedThrough {T = Unit {0}} settings frames stop (arrivals ++ next) (said ++ more) (Err status)
  turn_stops every files frames stop arrivals [] captures captures' probe probe' said more number r is status (none, fails) =
      let same : status ≡ LinkFault = cc in
      let (rest, whole) = served_so_far files frames stop arrivals captures probe said r in
      let alone : arrivals ≡ arrivals ++ [] = sym (append-nil arrivals) in
      let says : said ≡ said ++ more = sym (append-nil said) ∙ ap (λ (s : List Said). said ++ s) (sym none) in
      subst (λ (s : Status). SaysServedThrough {T = Unit {0}} settings frames stop (arrivals ++ []) (said ++ more) (Err s)) (sym same)
      (rest, subst (λ (s : List Said). ServesThrough settings frames stop (arrivals ++ []) (s ++ rest)) says (subst (λ (came : List Arrival). ServesThrough settings frames stop came (said ++ rest)) alone whole))
  turn_stops every files frames stop arrivals (arrival ∷ others) captures captures' probe probe' said more number r is status (alone, says) =
      subst (λ (came : List Arrival). SaysServedThrough {T = Unit {0}} settings frames stop (arrivals ++ arrival ∷ came) (said ++ more) (Err status)) (sym alone) (by_status status says)
    where
      answered : IsNextSaid files captures captures' settings probe' number (request_of arrival) r.left stop r.journal more → (rest : List Said) × ServesThrough settings frames stop (arrivals ++ arrival ∷ []) ((said ++ more) ++ rest)
      answered one = served_so_far files frames stop (arrivals ++ arrival ∷ []) captures' probe' (said ++ more) (next_served files frames stop arrivals captures captures' probe probe' said more number arrival r is one)

      by_status : (status : Status) → SaysNext {T = Unit {0}} (IsNextSaid files captures captures' settings probe' number (request_of arrival) r.left stop r.journal) (HasBegun settings arrival.moment r.left r.journal) more (Err status)
          → SaysServedThrough {T = Unit {0}} settings frames stop (arrivals ++ arrival ∷ []) (said ++ more) (Err status)
      by_status WriteFault one = answered one
      by_status LinkFault one = answered one
      by_status ReadFault (notes, begun, same) =
          subst (λ (s : List Said). (rest : List Said) × ServesThrough settings frames stop (arrivals ++ arrival ∷ []) ((said ++ s) ++ rest)) (sym same)
          (served_stopped every files frames stop arrivals captures probe said arrival notes r begun)
      by_status Done is = absurd is
      by_status Usage is = absurd is
      by_status (BadCapture interface at) is = absurd is
      by_status (BadRequests at) is = absurd is
      by_status NoMemory is = absurd is
      by_status TooLong is = absurd is

  -- all is said with the last line, or the first of it
  pub served_last : {T : Type 0} → (files : List (List ℕ)) (frames : List Frame) (stop : Stop) (arrivals : List Arrival) (captures : List Capture) (probe : Probe) (said last : List Said) (count : ℕ)
      → (r : InRun settings files frames stop (requests_of arrivals) captures probe said) → count ≡ length arrivals → (result : Result T Status)
      → SaysNext (IsLastLine (passed_of captures) count r.left stop) (λ (notes : List Note). notes ≡ []) last result → SaysServedThrough settings frames stop arrivals (said ++ last) result
  served_last files frames stop arrivals captures probe said last count r is result says = by_result result says
    where
      all : IsLastLine (passed_of captures) count r.left stop last → ServesThrough settings frames stop arrivals (said ++ last)
      all one =
          let passed : (passed_of captures) ≡ length frames - length (frames_left (requests_of arrivals) frames) = omega (arith, r.frame_count, ap length r.left_is) in
          let line : last ≡ Last (is_cut_behind (frames_left (requests_of arrivals) frames) stop) (length frames - length (frames_left (requests_of arrivals) frames)) (length arrivals) ∷ [] =
          one ∙ ap (λ (left : List Frame). Last (is_cut_behind left stop) (passed_of captures) count ∷ []) r.left_is
          ∙ ap (λ (n : ℕ). Last (is_cut_behind (frames_left (requests_of arrivals) frames) stop) n count ∷ []) passed
          ∙ ap (λ (n : ℕ). Last (is_cut_behind (frames_left (requests_of arrivals) frames) stop) (length frames - length (frames_left (requests_of arrivals) frames)) n ∷ []) is in
          subst (λ (l : List Said). ServesThrough settings frames stop arrivals (said ++ l)) (sym line) (served frames stop arrivals said (said_of files frames stop arrivals captures probe said r))

      first : IsLastLine (passed_of captures) count r.left stop last → (rest : List Said) × ServesThrough settings frames stop arrivals ((said ++ last) ++ rest)
      first one = ([], subst (λ (s : List Said). ServesThrough settings frames stop arrivals s) (sym (append-nil (said ++ last))) (all one))

      by_result : {T : Type 0} → (result : Result T Status) → SaysNext (IsLastLine (passed_of captures) count r.left stop) (λ (notes : List Note). notes ≡ []) last result → SaysServedThrough settings frames stop arrivals (said ++ last) result
      by_result (Ok done) one = all one
      by_result (Err WriteFault) one = first one
      by_result (Err LinkFault) one = first one
      by_result (Err ReadFault) (notes, none, same) =
          let says : said ≡ said ++ last = sym (append-nil said) ∙ ap (λ (s : List Said). said ++ s) (sym (same ∙ ap (map Notified) none)) in
          let (rest, whole) = served_so_far files frames stop arrivals captures probe said r in
          (rest, subst (λ (s : List Said). ServesThrough settings frames stop arrivals (s ++ rest)) says whole)
      by_result (Err Done) is = absurd is
      by_result (Err Usage) is = absurd is
      by_result (Err (BadCapture interface at)) is = absurd is
      by_result (Err (BadRequests at)) is = absurd is
      by_result (Err NoMemory) is = absurd is
      by_result (Err TooLong) is = absurd is

-- a fault of the capture in a turn is one of another file
pub turn_finds : (files : List (List ℕ)) (old new : List Capture) (settings : Settings) (probe : Probe) (number : ℕ) (frames : List Frame) (stop : Stop) (journal : Journal) (arrivals : List Arrival) (said : List Said) (status : Status)
    → SaysTurn {T = Unit {0}} files old new settings probe number frames stop journal arrivals said (Err status) → FindsAnother ⊥ ⊥ status
turn_finds files old new settings probe number frames stop journal [] said status (none, fails) =
    let same : status ≡ LinkFault = cc in subst (λ (s : Status). FindsAnother ⊥ ⊥ s) (sym same) tt
turn_finds files old new settings probe number frames stop journal (arrival ∷ more) said status (alone, says) =
    says_faultless {T = Unit {0}} (IsNextSaid files old new settings probe number (request_of arrival) frames stop journal) (HasBegun settings arrival.moment frames journal) said (Err status) says

none_last : last_of 0 [] ≡ 0
unfolding last_of
none_last = refl

-- how many datagrams are answered
none_answered : answers_in [] ≡ 0
unfolding answers_in
none_answered = refl

answered_more : (said more : List Said) → answers_in (said ++ more) ≡ answers_in said + answers_in more
unfolding answers_in
answered_more [] more = omega arith
answered_more (Notified note ∷ said) more = answered_more said more
answered_more (Responded number moment response ∷ said) more = omega (arith, answered_more said more)
answered_more (Last cut frames requests ∷ said) more = answered_more said more

notes_answered : (notes : List Note) (more : List Said) → answers_in (map Notified notes ++ more) ≡ answers_in more
unfolding answers_in
notes_answered [] more = refl
notes_answered (note ∷ notes) more = notes_answered notes more

response_answered : (number moment : ℕ) (response : Response) → answers_in (Responded number moment response ∷ []) ≡ 1
unfolding answers_in
response_answered number moment response = refl

-- a response answers one
one_answered : (number : ℕ) (said : List Said) → IsResponse number said → answers_in said ≡ 1
one_answered number said is = ap answers_in is.is ∙ notes_answered is.notes (Responded number is.moment is.response ∷ []) ∙ response_answered number is.moment is.response

module _ {F K L C : Type 0} (held : F → List ℕ → Held) (reads : F → List ℕ → ℕ) (content : K → Option (List ℕ)) (puts : K → ℕ) (bound : L → Option (List ℕ)) (received sent : L → Option (List Datagram)) (sends : L → ℕ)
    (told : C → Option (List ℕ)) (settings : Settings) (manager : Peer) (names : List (List ℕ)) (named : ℕ) (begun : List Capture) where
  -- how far a run is, by the states of the shelf, the sink, the link and the clock at first and now
  abbrev pub RunIs : F → F → K → K → L → L → C → C → List Capture → Probe → ℕ → ℕ → List Arrival → List Said → Type 0
  RunIs s s' k k' l l' c c' captures probe number last arrivals said =
      HasRun settings held reads s s' names named manager (sink_use content puts k k') (link_use bound received sent sends l l') (clock_use told c c') begun captures probe number last arrivals said

  pub run_begins : (s : F) (k : K) (l : L) (c : C) (probe : Probe) (last : ℕ) → settings_of probe ≡ settings → last ≡ 0 → last_given probe ≡ 0 → Keeps named (last_given probe) probe begun → passed_of begun ≡ 0 → Stands probe []
      → RunIs s s k k l l c c begun probe 0 last [] []
  run_begins s k l c probe last same none first keeps unpassed stands = record {
    same = λ each. refl;
    quiet = λ each. refl;
    come = none_come (received l) (received l) (told c) 0 (adds_none (received l));
    bound = refl;
    adds = λ rest. nothing_added (shown content puts sent sends k l None);
    number_is = refl;
    answered = none_answered;
    last_is = none_last ∙ sym none;
    settings_same = same;
    given = omega (arith, first);
    keeps = keeps;
    run = λ files frames stop are left. run_begin settings files frames stop begun probe left unpassed stands;
  }

  module _ (s s' s'' : F) (k k' k'' : K) (l l' l'' : L) (c c' c'' : C) (captures captures' : List Capture) (probe probe' : Probe) (number last : ℕ) (arrivals : List Arrival) (said : List Said)
      (i : RunIs s s' k k' l l' c c' captures probe number last arrivals said) where
    -- a turn adds to what was said and sent
    pub stop_served : {T : Type 0} (came : List Arrival) (next : List Said) (result : Result T Status) → length came ≤ 1 → IsOfOne (number + 1) next
        → HasServed manager (λ (n : ℕ). peers_of came) last (sink_use content puts k' k'') (link_use bound received sent sends l' l'') (clock_use told c' c'') came next result
        → HasServed manager (asking_of (arrivals ++ came)) 0 (sink_use content puts k k'') (link_use bound received sent sends l l'') (clock_use told c c'') (arrivals ++ came) (said ++ next) result
    stop_served came next result few one turn = record {
      come = come_then (received l) (received l') (received l'') (told c) (told c') (told c'') 0 arrivals came i.come
          (subst (λ (m : ℕ). HaveCome (received l') (received l'') (told c') (told c'') m came) (sym i.last_is) turn.come);
      bound = turn.bound ∙ i.bound;
      failed = turn.failed;
      adds = turn_adds manager (shown content puts sent sends k l None) (shown content puts sent sends k' l' None)
          (shown content puts sent sends k'' l'' turn.failed) arrivals came came said next (number + 1) (omega (arith, i.number_is)) (take_all 1 came few) one (i.adds came) turn.adds;
      told = said ++ turn.told;
      order = turn_front manager (shown content puts sent sends k l None) (shown content puts sent sends k' l' None)
          (shown content puts sent sends k'' l'' turn.failed) arrivals came came said next turn.told (number + 1) (omega (arith, i.number_is)) (take_all 1 came few) one (i.adds came) refl turn.order;
      at_once = omega (arith, few, length-append arrivals came, answered_more said turn.told, i.answered, i.number_is);
      fails = turn.fails;
    }

    -- a datagram more
    pub run_more : (came : List Arrival) (arrival : Arrival) (next : List Said) (last' : ℕ) → came ≡ arrival ∷ [] → arrival.moment ≡ last' → IsResponse (number + 1) next
        → HasServed {T = Unit {0}} manager (λ (n : ℕ). peers_of came) last (sink_use content puts k' k'') (link_use bound received sent sends l' l'') (clock_use told c' c'') came next (Ok tt)
        → ((each : List ℕ) → held s'' each ≡ held s' each) → ((each : List ℕ) → reads s'' each ≡ reads s' each)
        → settings_of probe' ≡ settings_of probe → last_given probe' ≡ last' → Keeps named (last_given probe') probe' captures'
        → ((files : List (List ℕ)) (frames : List Frame) (stop : Stop) (journal : Journal) → AreHeld (held s') names files → AreLeft 1 captures files frames stop → Stands probe journal
        → SaysTurn {T = Unit {0}} files captures captures' (settings_of probe) probe' (number + 1) frames stop journal came next (Ok tt))
        → RunIs s s'' k k'' l l'' c c'' captures' probe' (number + 1) last' (arrivals ++ arrival ∷ []) (said ++ next)
    run_more came arrival next last' alone moment one turn same quiet settled given keeps says =
        let both = stop_served came next (Ok tt) (omega (arith, ap length alone)) (inl one) turn in
        record {
          same = λ each. same each ∙ i.same each;
          quiet = λ each. quiet each ∙ i.quiet each;
          come = subst (λ (a : List Arrival). HaveCome (received l) (received l'') (told c) (told c'') 0 (arrivals ++ a)) alone both.come;
          bound = both.bound;
          adds = λ rest.
              subst (λ (a : List Arrival). HasAdded (shown content puts sent sends k l None) (shown content puts sent sends k'' l'' None)
              (lines (said ++ next)) (messages (manager ∷ []) (asking_of a) (said ++ next))) (sym (append_assoc arrivals (arrival ∷ []) rest))
              (turn_adds manager (shown content puts sent sends k l None) (shown content puts sent sends k' l' None)
              (shown content puts sent sends k'' l'' None) arrivals came (arrival ∷ rest) said next (number + 1) (omega (arith, i.number_is)) (sym alone) (inl one) (i.adds (arrival ∷ rest))
              (subst (λ (f : Option OutputFault). HasAdded (shown content puts sent sends k' l' None) (shown content puts sent sends k'' l'' f)
              (lines next) (messages (manager ∷ []) (λ (n : ℕ). peers_of came) next)) turn.fails turn.adds));
          number_is = omega (arith, i.number_is, length-append arrivals (arrival ∷ []));
          answered = omega (arith, answered_more said next, one_answered (number + 1) next one, i.answered);
          last_is = last_more 0 arrivals arrival ∙ moment;
          settings_same = settled ∙ i.settings_same;
          given = omega (arith, given);
          keeps = keeps;
          run = λ files frames stop are left.
              let r = i.run files frames stop are left in
              let turned = says files r.left stop r.journal (held_still (held s) (held s') names files i.same are) r.records_left r.stands in
              let here = subst (λ (a : List Arrival). SaysTurn {T = Unit {0}} files captures captures' (settings_of probe) probe' (number + 1) r.left stop r.journal a next (Ok tt)) alone turned in
              next_served settings files frames stop arrivals captures captures' probe probe' said next (number + 1) arrival r (omega (arith, i.number_is))
              (subst (λ (set : Settings). IsNextSaid files captures captures' set probe' (number + 1) (request_of arrival) r.left stop r.journal next) i.settings_same here.1);
        }

    -- the last line
    pub end_served : {T : Type 0} (line : List Said) (failed : Option OutputFault) (result : Result T Status) → TellsNoMessage line
        → HasAdded (shown content puts sent sends k' l' None) (shown content puts sent sends k'' l' failed) (lines line) []
        → (told : List Said) × IsSaidFront (manager ∷ []) (asking_of arrivals) (content k') (content k'') (sent l') (sent l') line told → FailsBy failed result
        → HasServed manager (asking_of arrivals) 0 (sink_use content puts k k'') (link_use bound received sent sends l l') (clock_use told c c') arrivals (said ++ line) result
    end_served line failed result silent added front fails = record {
      come = i.come;
      bound = i.bound;
      failed = failed;
      adds = added_more (manager ∷ []) (asking_of arrivals) (shown content puts sent sends k l None) (shown content puts sent sends k' l' None)
          (shown content puts sent sends k'' l' failed) said line
          (subst (λ (a : List Arrival). HasAdded (shown content puts sent sends k l None) (shown content puts sent sends k' l' None)
          (lines said) (messages (manager ∷ []) (asking_of a) said)) (append-nil arrivals) (i.adds []))
          (subst (λ (ms : List Datagram). HasAdded (shown content puts sent sends k' l' None) (shown content puts sent sends k'' l' failed) (lines line) ms)
          (sym (silent (manager ∷ []) (asking_of arrivals))) added);
      told = said ++ front.0;
      order = said_then_front (manager ∷ []) (asking_of arrivals) (content k) (content k') (content k'') (sent l) (sent l') (sent l') said line front.0 ((i.adds []).puts.whole refl)
          (subst (λ (a : List Arrival). Adds (sent l) (sent l') (messages (manager ∷ []) (asking_of a) said)) (append-nil arrivals) ((i.adds []).sends.whole refl)) front.1;
      at_once = omega (arith, answered_more said front.0, i.answered, i.number_is);
      fails = fails;
    }
