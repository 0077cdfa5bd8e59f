-- What a turn of serving says.
use Rattle.std.proofs.Common.{◌≡◌, ◌⊎◌, inl, inr, ℕ, ◌≤◌, ◌<◌, min, true, List, [], ◌∷◌, ◌++◌, length, take, take_while, Option, Some, None, Result, Ok, Err, refl, sym, ap, subst, ◌∙◌, arith}
use Rattle.std.specs.Prelude.{OnOk}
use Rattle.std.proofs.lemmas.List.{length-take, take_all}
use Rattle.std.proofs.lemmas.Bool.{cases_lt}
use Rattle.rm_edge.specs.Outside.{Rose}
use Rattle.rm_edge.specs.Link.{Datagram}
use Rattle.rm_edge.specs.Uses.{SinkUse, LinkUse, ClockUse, IsUntouched}
use Rattle.rm_edge.specs.declared.outside.link.Peer.{Peer}
use Rattle.rm_model.specs.Journal.{Frame, Journal, passes}
use Rattle.rm_pcap.specs.Records.{Stop}
use Rattle.rm_pcap.specs.declared.capture.Capture.{Capture}
use Rattle.rm_pdu.specs.Parse.{Parse, too_long, malformed, other_version, not_request, message, IsParse}
use Rattle.rm_settings.specs.declared.settings.Settings.{Settings}
use Rattle.rm_probe.specs.Events.{Event, Asks, Comes, comings}
use Rattle.rm_captures.specs.Merge.{is_by}
use Rattle.rm_probe.specs.Notes.{Note}
use Rattle.rm_probe.specs.Output.{HasAdded, IsSaidFront, Shown, front_none, grown_none}
use Rattle.rm_probe.specs.Said.{Response, Said, lines, messages}
use Rattle.rm_probe.specs.Serving.{Arrival, HaveCome, peers_of}
use Rattle.rm_probe.specs.Steps.{FailsBy, HasBegun, IsNextSaid, SaysNext}
use Rattle.rm_probe.specs.Text.{IsAnswered, dropped, replied, AreSaid}
use Rattle.rm_probe.specs.Turns.{HasServed, room, shown_after, shown_before}
use Rattle.rm_probe.specs.declared.output.OutputFault.{OutputFault}
use Rattle.rm_probe.specs.declared.output.OutputFault.TheVariants.{Put, Send}
use Rattle.rm_probe.proofs.OutputLemmas.{added_then, adds_same}
use Rattle.rm_probe.specs.declared.probe.Probe.{Probe}
use Rattle.rm_probe.specs.declared.status.Status.{Status}
use Rattle.rm_probe.specs.declared.status.Status.TheVariants.{Done, Usage, BadCapture, BadRequests, ReadFault, WriteFault, NoMemory, LinkFault, TooLong}

-- the octets read of a datagram are all of it, or both are too many
abbrev pub IsReadOf : List ℕ → List ℕ → Type 0
IsReadOf read bytes = (read ≡ bytes) ⊎ ((8192 < length read) × (8192 < length bytes))

pub read_of : (count : ℕ) (into bytes : List ℕ) → count ≡ min (length bytes) room → take count into ≡ take count bytes → IsReadOf (take count into) bytes
read_of count into bytes is same = elim (cases_lt 8192 (length bytes)) [
  | inl lt ↦ inr (omega (arith, lt, is, ap length same, length-take count bytes), lt)
  | inr le ↦ inl (same ∙ take_all count bytes (omega (arith, le, is)))
]

whole_parse : (v : Parse) (read bytes : List ℕ) → 8192 < length read → 8192 < length bytes → IsParse true read v → IsParse true bytes v
whole_parse too_long read bytes long all is = all
whole_parse (malformed at) read bytes long all is = absurd (omega (arith, long, is.0))
whole_parse (other_version z) read bytes long all is = absurd (omega (arith, long, is.0))
whole_parse (not_request tag) read bytes long all is = absurd (omega (arith, long, is.0))
whole_parse (message m) read bytes long all is = absurd (omega (arith, long, is.0))

-- what is answered to the octets read is answered to the datagram
whole_answered : (settings : Settings) (ready : Journal) (moment : ℕ) (read bytes : List ℕ) (response : Response) (after : Journal) → IsReadOf read bytes
    → IsAnswered settings ready moment read response after → IsAnswered settings ready moment bytes response after
whole_answered settings ready moment read bytes response after (inl same) answer = subst (λ (d : List ℕ). IsAnswered settings ready moment d response after) same answer
whole_answered settings ready moment read bytes response after (inr (long, all)) (dropped v reason is why says stays) = dropped v reason (whole_parse v read bytes long all is) why says stays
whole_answered settings ready moment read bytes response after (inr (long, all)) (replied request reply is why replies says) =
    replied request reply (whole_parse (message request) read bytes long all is) why replies says

asks_whole : (settings : Settings) (journal : Journal) (es : List Event) (number moment : ℕ) (read bytes : List ℕ) (more : List Event) (said : List Said) → IsReadOf read bytes
    → AreSaid settings journal (es ++ Asks number (record { moment = moment; datagram = read }) ∷ more) said
    → AreSaid settings journal (es ++ Asks number (record { moment = moment; datagram = bytes }) ∷ more) said
unfolding AreSaid
asks_whole settings journal [] number moment read bytes more said front (notes, response, rest, ready, after, advanced, answer, is, are) =
    (notes, response, rest, ready, after, advanced, whole_answered settings ready moment read bytes response after front answer, is, are)
asks_whole settings journal (Comes frame ∷ es) number moment read bytes more said front (notes, rest, ready, advanced, is, are) =
    (notes, rest, ready, advanced, is, asks_whole settings (passes frame ∷ ready) es number moment read bytes more rest front are)
asks_whole settings journal (Asks n r ∷ es) number moment read bytes more said front (notes, response, rest, ready, after, advanced, answer, is, are) =
    (notes, response, rest, ready, after, advanced, answer, is, asks_whole settings after es number moment read bytes more rest front are)

next_whole : (files : List (List ℕ)) (old new : List Capture) (settings : Settings) (probe : Probe) (number moment : ℕ) (read bytes : List ℕ) (frames : List Frame) (stop : Stop) (journal : Journal) → IsReadOf read bytes
    → (said : List Said) → IsNextSaid files old new settings probe number (record { moment = moment; datagram = read }) frames stop journal said
    → IsNextSaid files old new settings probe number (record { moment = moment; datagram = bytes }) frames stop journal said
next_whole files old new settings probe number moment read bytes frames stop journal front said next = record {
  left = next.left;
  count = next.count;
  after = next.after;
  goes = λ more rest are. asks_whole settings journal (comings (take_while (is_by moment) frames)) number moment read bytes more (said ++ rest) front (next.goes more rest are);
  stands = next.stands;
}

-- what was said by a step, of which more is known
says_more : {T : Type 0} (P Q : List Said → Type 0) (IsBegun : List Note → Type 0) (said : List Said) (result : Result T Status) → ((said : List Said) → P said → Q said)
    → SaysNext P IsBegun said result → SaysNext Q IsBegun said result
says_more P Q IsBegun said (Ok done) more is = more said is
says_more P Q IsBegun said (Err WriteFault) more is = more said is
says_more P Q IsBegun said (Err LinkFault) more is = more said is
says_more P Q IsBegun said (Err ReadFault) more is = is
says_more P Q IsBegun said (Err Done) more is = is
says_more P Q IsBegun said (Err Usage) more is = is
says_more P Q IsBegun said (Err (BadCapture interface at)) more is = is
says_more P Q IsBegun said (Err (BadRequests at)) more is = is
says_more P Q IsBegun said (Err NoMemory) more is = is
says_more P Q IsBegun said (Err TooLong) more is = is

-- what was said of the octets read was said of the datagram
pub says_whole : {T : Type 0} (files : List (List ℕ)) (old new : List Capture) (settings : Settings) (probe : Probe) (number moment : ℕ) (read bytes : List ℕ) (frames : List Frame) (stop : Stop) (journal : Journal) → IsReadOf read bytes
    → (said : List Said) (result : Result T Status) → SaysNext (IsNextSaid files old new settings probe number (record { moment = moment; datagram = read }) frames stop journal) (HasBegun settings moment frames journal) said result
    → SaysNext (IsNextSaid files old new settings probe number (record { moment = moment; datagram = bytes }) frames stop journal) (HasBegun settings moment frames journal) said result
says_whole files old new settings probe number moment read bytes frames stop journal front said result says =
    says_more (IsNextSaid files old new settings probe number (record { moment = moment; datagram = read }) frames stop journal) (IsNextSaid files old new settings probe number (record { moment = moment; datagram = bytes }) frames stop journal)
    (HasBegun settings moment frames journal) said result (next_whole files old new settings probe number moment read bytes frames stop journal front) says

-- a receive adds nothing
pub receive_adds : (content : Option (List ℕ)) (puts : ℕ) (sent sent' : Option (List Datagram)) (sends sends' : ℕ) → sent' ≡ sent → sends ≤ sends'
    → HasAdded (record { content = content; puts = puts; sent = sent; sends = sends; failed = None }) (record { content = content; puts = puts; sent = sent'; sends = sends'; failed = None }) [] []
receive_adds content puts sent sent' sends sends' same later = record {
  puts = grown_none Put content puts None;
  sends = record {
    whole = λ _. adds_same sent sent' same;
    front = (0, adds_same sent sent' same);
    later = later;
    cause = λ e. absurd cc;
    stays = λ fault e. absurd cc;
  };
  stays = λ fault e. absurd cc;
}

-- a receive that failed
pub none_served : (manager : Peer) (asking : ℕ → List Peer) (last : ℕ) (out : SinkUse) (link : LinkUse) (clock : ClockUse) → HaveCome link.received link.received_after clock.told clock.told_after last []
    → link.bound_after ≡ link.bound → link.sent_after ≡ link.sent → IsUntouched out → out.faults_after ≡ out.faults → link.faults ≤ link.faults_after → Rose link.faults link.faults_after
    → HasServed {T = Unit {0}} manager asking last out link clock [] [] (Err LinkFault)
none_served manager asking last out link clock come bound sent untouched count later rose = record {
  come = come;
  bound = bound;
  failed = Some Send;
  adds = record {
    puts = record {
      whole = λ e. absurd cc;
      front = (0, adds_same out.content out.content_after untouched);
      later = omega (arith, count);
      cause = λ e. absurd cc;
      stays = λ fault e. absurd cc;
    };
    sends = record {
      whole = λ e. absurd cc;
      front = (0, adds_same link.sent link.sent_after sent);
      later = later;
      cause = λ e. inr rose;
      stays = λ fault e. absurd cc;
    };
    stays = λ fault e. absurd cc;
  };
  told = [];
  order = subst (λ (content : Option (List ℕ)). IsSaidFront (manager ∷ []) asking out.content content link.sent link.sent_after [] []) (sym untouched)
      (subst (λ (sent : Option (List Datagram)). IsSaidFront (manager ∷ []) asking out.content out.content link.sent sent [] []) (sym sent) (front_none (manager ∷ []) asking out.content link.sent));
  at_once = omega arith;
  fails = refl;
}

-- what holds anyway holds of what is done
pub on_done : {T E : Type 0} (P : Type 0) (result : Result T E) → P → OnOk result P
on_done P (Ok done) is = is
on_done P (Err e) is = tt

-- and with it what holds of what is done
pub done_with : {T E : Type 0} (P Q : Type 0) (result : Result T E) → OnOk result P → Q → OnOk result (P × Q)
done_with P Q (Ok done) first second = (first, second)
done_with P Q (Err e) first second = tt

-- what was added after calls on the link that sent nothing
pub adds_from : (out : SinkUse) (link : LinkUse) (sent : Option (List Datagram)) (sends : ℕ) (last : Shown) (text : List ℕ) (messages : List Datagram) → sent ≡ link.sent → link.faults ≤ sends
    → HasAdded (record { content = out.content; puts = out.faults; sent = sent; sends = sends; failed = None }) last text messages → HasAdded (shown_before out link) last text messages
adds_from out link sent sends last text messages same later added =
    added_then (shown_before out link) (record { content = out.content; puts = out.faults; sent = sent; sends = sends; failed = None }) last [] text [] messages
    (receive_adds out.content out.faults link.sent sent link.faults sends same later) added

-- One datagram came, and this was said of it. The sink and the link were those before, after what the receive did to the link.
pub one_served : {T : Type 0} (manager : Peer) (last : ℕ) (out : SinkUse) (link : LinkUse) (clock : ClockUse) (sent : Option (List Datagram)) (sends : ℕ) (arrival : Arrival) (said : List Said) (result : Result T Status) (failed : Option OutputFault)
    → HaveCome link.received link.received_after clock.told clock.told_after last (arrival ∷ []) → link.bound_after ≡ link.bound → sent ≡ link.sent → link.faults ≤ sends
    → HasAdded (record { content = out.content; puts = out.faults; sent = sent; sends = sends; failed = None }) (shown_after out link failed) (lines said) (messages (manager ∷ []) (λ (number : ℕ). arrival.peer ∷ []) said)
    → (told : List Said) × IsSaidFront (manager ∷ []) (λ (number : ℕ). arrival.peer ∷ []) out.content out.content_after sent link.sent_after said told → FailsBy failed result → HasServed manager (λ (number : ℕ). peers_of (arrival ∷ [])) last out link clock (arrival ∷ []) said result
one_served manager last out link clock sent sends arrival said result failed come bound same later adds order fails = record {
  come = come;
  bound = bound;
  failed = failed;
  adds = adds_from out link sent sends (shown_after out link failed) (lines said) (messages (manager ∷ []) (λ (number : ℕ). arrival.peer ∷ []) said) same later adds;
  told = order.0;
  order = subst (λ (before : Option (List Datagram)). IsSaidFront (manager ∷ []) (λ (number : ℕ). arrival.peer ∷ []) out.content out.content_after before link.sent_after said order.0) same order.1;
  at_once = omega arith;
  fails = fails;
}

-- a fact of things that are two others
pub moved : {K L : Type 0} (P : K → L → Type 0) (k k' : K) (l l' : L) → k ≡ k' → l ≡ l' → P k l → P k' l'
moved P k k' l l' first second is = subst (λ (x : _). P k' x) second (subst (λ (x : _). P x l) first is)
