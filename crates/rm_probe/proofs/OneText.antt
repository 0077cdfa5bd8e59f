-- One text of the same frames and datagrams.
use Rattle.std.proofs.Common.{◌≡◌, ◌⊎◌, inl, inr, ℕ, true, List, [], ◌∷◌, ◌++◌, length, map, drop, Option, Some, None, refl, sym, ap, subst, ◌∙◌}
use Rattle.std.specs.List.{slice_get}
use Rattle.rm_model.specs.Journal.{Frame, Journal, passes}
use Rattle.rm_pcap.specs.Records.{Stop}
use Rattle.rm_captures.specs.Left.{is_cut}
use Rattle.rm_pdu.specs.Message.{Message, message_octets}
use Rattle.rm_pdu.specs.Parse.{Parse, message}
use Rattle.rm_settings.specs.declared.settings.Settings.{Settings}
use Rattle.rm_agent.specs.declared.answer.Reason.{Reason}
use Rattle.rm_agent.specs.Answers.{reason_for, IsReplyAfter}
use Rattle.rm_requests.specs.Lines.{TimedDatagram}
use Rattle.rm_probe.specs.Advance.{note_of, IsAdvanced}
use Rattle.rm_probe.specs.Notes.{Note}
use Rattle.rm_probe.specs.Said.{Response, Replied, Dropped, Said, Notified, Responded, Last, lines}
use Rattle.rm_probe.specs.Laws.{IsToldOnce, OneOfEach}
use Rattle.rm_probe.specs.Events.{Event, Comes, Asks}
use Rattle.rm_probe.specs.InOrder.{AreInOrder}
use Rattle.rm_probe.specs.Serving.{Arrival, IsServed, IsServedBy, frames_by_last, last_served, requests_of}
use Rattle.rm_probe.specs.Text.{IsAnswered, dropped, replied, AreSaid, ReservesNothing, AreWithoutChoice, Choice, AreSaidBy, IsText, IsTextBy}
use Rattle.rm_probe.proofs.OneOrder.{one_order}

module _ (settings : Settings) (one : OneOfEach settings) where
  -- samples have one list of notes, and leave one journal
  advanced_once : (to : ℕ) (journal : Journal) (notes others : List Note) (after later : Journal) → IsAdvanced settings to journal notes after → IsAdvanced settings to journal others later → (notes ≡ others) × (after ≡ later)
  advanced_once to journal notes others after later is is' =
      let (same, stays) = one.advance to journal is.sent is'.sent after later is.advanced is'.advanced in
      (is.noted ∙ ap (map note_of) same ∙ sym is'.noted, stays)

  -- a datagram that is dropped isn't answered
  not_both : (v : Parse) (reason : Reason) (request : Message) → v ≡ message request → reason_for settings v ≡ Some reason → reason_for settings (message request) ≡ None → ⊥
  not_both v reason request same some none = let e : Some reason ≡ None = sym some ∙ ap (reason_for settings) same ∙ none in cc

  -- one thing is said of a datagram that is no SetRequest that reserves storage, and one journal is then there
  said_once : (journal : Journal) (moment : ℕ) (datagram : List ℕ) (response other : Response) (after later : Journal) → ReservesNothing journal datagram
      → IsAnswered settings journal moment datagram response after → IsAnswered settings journal moment datagram other later → (response ≡ other) × (after ≡ later)
  said_once journal moment datagram response other after later nothing (dropped v reason is why says stays) (dropped w cause is' why' says' stays') =
      let same : v ≡ w = one.parse true datagram v w is is' in
      let e : Some reason ≡ Some cause = sym why ∙ ap (reason_for settings) same ∙ why' in
      let causes : reason ≡ cause = cc in
      (says ∙ ap Dropped causes ∙ sym says', stays ∙ sym stays')
  said_once journal moment datagram response other after later nothing (dropped v reason is why says stays) (replied request reply is' why' replies says') =
      absurd (not_both v reason request (one.parse true datagram v (message request) is is') why why')
  said_once journal moment datagram response other after later nothing (replied request reply is why replies says) (dropped v reason is' why' says' stays') =
      absurd (not_both v reason request (one.parse true datagram v (message request) is' is) why' why)
  said_once journal moment datagram response other after later nothing (replied request reply is why replies says) (replied asked answer is' why' answers says') =
      let same : message request ≡ message asked = one.parse true datagram (message request) (message asked) is is' in
      let requests : request ≡ asked = cc in
      let (once, stays) = one.reply journal moment asked reply answer after later (nothing asked is')
      (subst (λ (r : Message). IsReplyAfter settings journal moment r reply after) requests replies) answers in
      (says ∙ ap (λ (r : Message). Replied (message_octets r)) once ∙ sym says', stays)

  -- a datagram has one response with the same answer
  chosen_once : (journal : Journal) (moment : ℕ) (datagram : List ℕ) (choice : Option Choice) (response other : Response) (after later : Journal)
      → ReservesNothing journal datagram ⊎ (choice ≡ Some (record { response = response; after = after }))
      → ReservesNothing journal datagram ⊎ (choice ≡ Some (record { response = other; after = later }))
      → IsAnswered settings journal moment datagram response after → IsAnswered settings journal moment datagram other later → (response ≡ other) × (after ≡ later)
  chosen_once journal moment datagram choice response other after later (inl nothing) chosen answer answer' = said_once journal moment datagram response other after later nothing answer answer'
  chosen_once journal moment datagram choice response other after later (inr chosen) (inl nothing) answer answer' = said_once journal moment datagram response other after later nothing answer answer'
  chosen_once journal moment datagram choice response other after later (inr chosen) (inr again) answer answer' =
      let first : Choice = record { response = response; after = after } in
      let second : Choice = record { response = other; after = later } in
      let same : Some first ≡ Some second = sym chosen ∙ again in
      let equal : first ≡ second = cc in
      (ap (λ (c : Choice). c.response) equal, ap (λ (c : Choice). c.after) equal)

  all_once : (journal : Journal) (es : List Event) (choices : List Choice) (said other : List Said) → AreSaidBy settings journal es choices said → AreSaidBy settings journal es choices other → said ≡ other
  unfolding AreSaidBy
  all_once journal [] choices said other is is' = is ∙ sym is'
  all_once journal (Comes frame ∷ es) choices said other (notes, rest, ready, advanced, is, are) (notes', rest', ready', advanced', is', are') =
      let (same, stays) = advanced_once frame.moment journal notes notes' ready ready' advanced advanced' in
      let more : rest ≡ rest' = all_once (passes frame ∷ ready) es choices rest rest' are (subst (λ (j : Journal). AreSaidBy settings (passes frame ∷ j) es choices rest') (sym stays) are') in
      is ∙ ap (λ (n : List Note). map Notified n ++ rest) same ∙ ap (λ (r : List Said). map Notified notes' ++ r) more ∙ sym is'
  all_once journal (Asks number request ∷ es) choices said other (notes, response, rest, ready, after, advanced, answer, chosen, is, are) (notes', response', rest', ready', after', advanced', answer', chosen', is', are') =
      let (told, readies) = advanced_once request.moment journal notes notes' ready ready' advanced advanced' in
      let (same, stays) = chosen_once ready request.moment request.datagram (slice_get choices 0) response response' after after' chosen
      (subst (λ (j : Journal). ReservesNothing j request.datagram ⊎ (slice_get choices 0 ≡ Some (record { response = response'; after = after' }))) (sym readies) chosen') answer
      (subst (λ (j : Journal). IsAnswered settings j request.moment request.datagram response' after') (sym readies) answer') in
      let more : rest ≡ rest' = all_once after es (drop 1 choices) rest rest' are (subst (λ (j : Journal). AreSaidBy settings j es (drop 1 choices) rest') (sym stays) are') in
      is ∙ ap (λ (n : List Note). map Notified n ++ Responded number request.moment response ∷ rest) told ∙ ap (λ (r : Response). map Notified notes' ++ Responded number request.moment r ∷ rest) same
      ∙ ap (λ (r : List Said). map Notified notes' ++ Responded number request.moment response' ∷ r) more ∙ sym is'

  -- where no SetRequest reserves storage, no answer has to be given
  without_choice : (journal : Journal) (es : List Event) (said : List Said) → AreWithoutChoice settings journal es → AreSaid settings journal es said → AreSaidBy settings journal es [] said
  unfolding AreSaid AreWithoutChoice AreSaidBy
  without_choice journal [] said without is = is
  without_choice journal (Comes frame ∷ es) said without (notes, rest, ready, advanced, is, are) =
      (notes, rest, ready, advanced, is, without_choice (passes frame ∷ ready) es rest (without notes ready advanced) are)
  without_choice journal (Asks number request ∷ es) said without (notes, response, rest, ready, after, advanced, answer, is, are) =
      let (nothing, others) = without notes ready advanced in
      (notes, response, rest, ready, after, advanced, answer, inl nothing, is, without_choice after es rest (others response after answer) are)

-- the answers by which things are said
said_by : (settings : Settings) (journal : Journal) (es : List Event) (said : List Said) → AreSaid settings journal es said → (choices : List Choice) × AreSaidBy settings journal es choices said
unfolding AreSaid AreSaidBy
said_by settings journal [] said is = ([], is)
said_by settings journal (Comes frame ∷ es) said (notes, rest, ready, advanced, is, are) =
    let (choices, by) = said_by settings (passes frame ∷ ready) es rest are in (choices, (notes, rest, ready, advanced, is, by))
said_by settings journal (Asks number request ∷ es) said (notes, response, rest, ready, after, advanced, answer, is, are) =
    let (choices, by) = said_by settings after es rest are in
    (record { response = response; after = after } ∷ choices, (notes, response, rest, ready, after, advanced, answer, inr refl, is, by))

-- one thing is told of events, where it is made of what is said of them
told_once : {T : Type 0} (settings : Settings) → OneOfEach settings → (es : List Event) (make : List Said → T) (IsTold : T → Type 0) (IsToldBy : List Choice → T → Type 0)
    → ((told : T) → IsTold told → (said : List Said) × AreSaid settings [] es said × (told ≡ make said))
    → ((choices : List Choice) (told : T) → IsToldBy choices told → (said : List Said) × AreSaidBy settings [] es choices said × (told ≡ make said))
    → ((choices : List Choice) (told : T) (said : List Said) → AreSaidBy settings [] es choices said → told ≡ make said → IsToldBy choices told)
    → IsToldOnce settings es IsTold IsToldBy
told_once {T} settings one es make IsTold IsToldBy parts parts_by whole_by = record {
  alone = λ without told other is is'. same [] told other (open_ended without told is) (open_ended without other is');
  by_answers = same;
  has_answers = λ told is.
      let (said, are, whole) = parts told is in
      let (choices, by) = said_by settings [] es said are in (choices, whole_by choices told said by whole);
}
  where
    same : (choices : List Choice) (told other : T) → IsToldBy choices told → IsToldBy choices other → told ≡ other
    same choices told other is is' =
        let (said, are, whole) = parts_by choices told is in
        let (said', are', whole') = parts_by choices other is' in
        whole ∙ ap make (all_once settings one [] es choices said said' are are') ∙ sym whole'

    open_ended : AreWithoutChoice settings [] es → (told : T) → IsTold told → IsToldBy [] told
    open_ended without told is =
        let (said, are, whole) = parts told is in whole_by [] told said (without_choice settings one [] es said without are) whole

pub text_once : (settings : Settings) → OneOfEach settings → (frames : List Frame) (stop : Stop) (requests : List TimedDatagram) (events : List Event) → AreInOrder 1 frames requests events
    → IsToldOnce settings events (IsText settings frames stop requests) (IsTextBy settings frames stop requests)
text_once settings one frames stop requests events order =
    told_once settings one events (λ (before : List Said). lines (before ++ Last (is_cut stop) (length frames) (length requests) ∷ [])) (IsText settings frames stop requests) (IsTextBy settings frames stop requests)
    (λ text is. (is.is_run.before, subst (λ (es : List Event). AreSaid settings [] es is.is_run.before) (one_order 1 frames requests is.is_run.events events is.is_run.in_order order) is.is_run.are_said, is.whole ∙ ap lines is.is_run.whole))
    (λ choices text is. (is.before, subst (λ (es : List Event). AreSaidBy settings [] es choices is.before) (one_order 1 frames requests is.events events is.in_order order) is.are_said, is.whole))
    (λ choices text before are whole. record { events = events; in_order = order; before = before; are_said = are; whole = whole })

pub served_once : (settings : Settings) → OneOfEach settings → (frames : List Frame) (stop : Stop) (arrivals : List Arrival) (events : List Event) → AreInOrder 1 (frames_by_last arrivals frames) (requests_of arrivals) events
    → IsToldOnce settings events (IsServed settings frames stop arrivals) (IsServedBy settings frames stop arrivals)
served_once settings one frames stop arrivals events order =
    told_once settings one events (λ (before : List Said). before ++ last_served frames stop arrivals ∷ []) (IsServed settings frames stop arrivals) (IsServedBy settings frames stop arrivals)
    (λ said is. (is.before, subst (λ (es : List Event). AreSaid settings [] es is.before) (same is.events is.in_order) is.are_said, is.whole))
    (λ choices said is. (is.before, subst (λ (es : List Event). AreSaidBy settings [] es choices is.before) (same is.events is.in_order) is.are_said, is.whole))
    (λ choices said before are whole. record { events = events; in_order = order; before = before; are_said = are; whole = whole })
  where
    same : (other : List Event) → AreInOrder 1 (frames_by_last arrivals frames) (requests_of arrivals) other → other ≡ events
    same other is = one_order 1 (frames_by_last arrivals frames) (requests_of arrivals) other events is order
