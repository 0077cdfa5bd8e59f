-- Frames that pass, each after the samples that are due, and what may be said of events.
use Rattle.std.proofs.Common.{◌≡◌, ℕ, Bool, true, List, [], ◌∷◌, ◌++◌, map, take_while, Option, Some, None, refl, sym, ap, subst, ◌∙◌, append_assoc}
use Rattle.std.proofs.lemmas.List.{append-nil, take-append-drop}
use Rattle.std.specs.List.{prefix_len}
use mathlib.Core.List.{map-append}
use Rattle.rm_model.specs.Journal.{Frame, Journal, passes}
use Rattle.rm_pdu.specs.Message.{Message}
use Rattle.rm_pdu.specs.Parse.{Parse, too_long, malformed, other_version, not_request, message, IsParse}
use Rattle.rm_settings.specs.declared.settings.Settings.{Settings}
use Rattle.rm_agent.specs.declared.answer.Reason.{Reason}
use Rattle.rm_agent.specs.Answers.{reason_for, IsReplyAfter}
use Rattle.rm_agent.specs.Orderly.{NoneIsDue, IsOrderly}
use Rattle.rm_agent.specs.Advance.{Notification, IsAdvanced as AgentIsAdvanced}
use Rattle.rm_probe.specs.Advance.{note_of, IsAdvanced}
use Rattle.rm_probe.specs.Events.{Event, Comes, Asks, comings}
use Rattle.rm_captures.specs.Merge.{frames_after, is_by}
use Rattle.rm_probe.specs.Notes.{Note}
use Rattle.rm_probe.specs.Said.{Response, Said, Notified, Responded}
use Rattle.rm_probe.specs.Text.{IsAnswered, dropped, replied, AreSaid}
use Rattle.rm_probe.specs.Steps.{ArePassing, HasBegun}

-- Each datagram is something, and has a reply if it isn't dropped. From each orderly journal the samples up to a moment come to an end,
-- and they, a frame and a reply leave an orderly one.
pub record EveryEvent : Type 0 where
  pub parse : (requests : Bool) (bytes : List ℕ) → (v : Parse) × IsParse requests bytes v
  pub reply : (settings : Settings) (journal : Journal) (now : ℕ) (datagram : List ℕ) (request : Message) → IsParse true datagram (message request)
      → reason_for settings (message request) ≡ None → (reply : Message) × (after : Journal) × IsReplyAfter settings journal now request reply after
  pub samples : (settings : Settings) (to : ℕ) (journal : Journal) → IsOrderly journal → (sent : List Notification) × (after : Journal) × AgentIsAdvanced settings to journal sent after
  pub sampled : (settings : Settings) (to : ℕ) (journal : Journal) (sent : List Notification) (after : Journal) → IsOrderly journal → AgentIsAdvanced settings to journal sent after → IsOrderly after × NoneIsDue to after
  pub passed : (journal : Journal) (frame : Frame) → IsOrderly journal → NoneIsDue frame.moment journal → IsOrderly (passes frame ∷ journal)
  pub replied : (settings : Settings) (journal : Journal) (now : ℕ) (request reply : Message) (after : Journal) → IsOrderly journal → NoneIsDue now journal
      → IsReplyAfter settings journal now request reply after → IsOrderly after

what_is_said : EveryEvent → (settings : Settings) (journal : Journal) (moment : ℕ) (datagram : List ℕ) (v : Parse) (reason : Option Reason) → IsParse true datagram v → reason_for settings v ≡ reason
    → (response : Response) × (after : Journal) × IsAnswered settings journal moment datagram response after
what_is_said every settings journal moment datagram v (Some reason) is why = (_, journal, dropped v reason is why refl refl)
what_is_said every settings journal moment datagram (message request) None is why =
    let (reply, after, replies) = every.reply settings journal moment datagram request is why in
    (_, after, replied request reply is why replies refl)
what_is_said every settings journal moment datagram too_long None is why = absurd cc
what_is_said every settings journal moment datagram (malformed at) None is why = absurd cc
what_is_said every settings journal moment datagram (other_version z) None is why = absurd cc
what_is_said every settings journal moment datagram (not_request tag) None is why = absurd cc

-- so something may be said of each
a_response : EveryEvent → (settings : Settings) (journal : Journal) (moment : ℕ) (datagram : List ℕ) → (response : Response) × (after : Journal) × IsAnswered settings journal moment datagram response after
a_response every settings journal moment datagram =
    let (v, is) = every.parse true datagram in
    what_is_said every settings journal moment datagram v (reason_for settings v) is refl

-- what is said leaves an orderly journal
answered_orderly : EveryEvent → (settings : Settings) (journal : Journal) (moment : ℕ) → IsOrderly journal → NoneIsDue moment journal
    → (datagram : List ℕ) (response : Response) (after : Journal) → IsAnswered settings journal moment datagram response after → IsOrderly after
answered_orderly every settings journal moment orderly none datagram response after (dropped v reason is why says stays) = subst IsOrderly (sym stays) orderly
answered_orderly every settings journal moment orderly none datagram response after (replied request reply is why replies says) =
    every.replied settings journal moment request reply after orderly none replies

-- the frames up to a moment, and those after it
pub all_frames : (moment : ℕ) (frames : List Frame) → take_while (is_by moment) frames ++ frames_after moment frames ≡ frames
all_frames moment frames = take-append-drop (prefix_len (is_by moment) frames) frames

pub more_comings : (some others : List Frame) → comings (some ++ others) ≡ comings some ++ comings others
more_comings some others = map-append Comes some others

-- from each orderly journal on something may be said
abbrev pub SomethingSaid : Type 0
SomethingSaid = (settings : Settings) (journal : Journal) → IsOrderly journal → (es : List Event) → (said : List Said) × AreSaid settings journal es said

module _ (settings : Settings) where
  -- one frame more
  pub passing_more : (journal : Journal) (frames : List Frame) (notes : List Note) (reached : Journal) (frame : Frame) (more : List Note) (ready : Journal) → ArePassing settings journal frames notes reached
      → IsAdvanced settings frame.moment reached more ready → ArePassing settings journal (frames ++ frame ∷ []) (notes ++ more) (passes frame ∷ ready)
  passing_more journal [] notes reached frame more ready are advanced =
      (more, [], ready, subst (λ (j : Journal). IsAdvanced settings frame.moment j more ready) are.1 advanced, ap (λ (n : List Note). n ++ more) are.0 ∙ sym (append-nil more), (refl, refl))
  passing_more journal (first ∷ frames) notes reached frame more ready (told, later, begun, is, notes_are, are) advanced =
      (told, later ++ more, begun, is, ap (λ (n : List Note). n ++ more) notes_are ∙ append_assoc told later more, passing_more (passes first ∷ begun) frames later reached frame more ready are advanced)

  -- of no event nothing is said
  pub nothing_said : (journal : Journal) → AreSaid settings journal [] []
  unfolding AreSaid
  nothing_said journal = refl

  -- frames that pass, and what may be said of what follows them
  pub said_after : (journal : Journal) (frames : List Frame) (notes : List Note) (reached : Journal) (es : List Event) (said : List Said) → ArePassing settings journal frames notes reached
      → AreSaid settings reached es said → AreSaid settings journal (comings frames ++ es) (map Notified notes ++ said)
  unfolding AreSaid
  said_after journal [] notes reached es said are is = rw are.0 (subst (λ (j : Journal). AreSaid settings j es said) are.1 is)
  said_after journal (frame ∷ frames) notes reached es said (told, later, ready, is, notes_are, are) more = (
    told,
    map Notified later ++ said,
    ready,
    is,
    ap (λ (n : List Note). map Notified n ++ said) notes_are ∙ ap (λ (t : List Said). t ++ said) (map-append Notified told later) ∙ append_assoc (map Notified told) (map Notified later) said,
    said_after (passes frame ∷ ready) frames later reached es said are more,
  )

  -- the samples that are due up to a moment, with their notes
  some_advance : EveryEvent → (to : ℕ) (journal : Journal) → IsOrderly journal → (notes : List Note) × (ready : Journal) × IsAdvanced settings to journal notes ready × IsOrderly ready × NoneIsDue to ready
  some_advance every to journal orderly =
      let (sent, ready, is) = every.samples settings to journal orderly in
      let (still, none) = every.sampled settings to journal sent ready orderly is in
      (map note_of sent, ready, record { sent = sent; advanced = is; noted = refl }, still, none)

  -- from an orderly journal on something may be said
  pub some_said : EveryEvent → (journal : Journal) → IsOrderly journal → (es : List Event) → (said : List Said) × AreSaid settings journal es said
  unfolding AreSaid
  some_said every journal orderly [] = ([], refl)
  some_said every journal orderly (Comes frame ∷ es) =
      let (notes, ready, is, still, none) = some_advance every frame.moment journal orderly in
      let r = some_said every (passes frame ∷ ready) (every.passed ready frame still none) es in
      (map Notified notes ++ r.0, (notes, r.0, ready, is, refl, r.1))
  some_said every journal orderly (Asks number request ∷ es) =
      let (notes, ready, is, still, none) = some_advance every request.moment journal orderly in
      let a = a_response every settings ready request.moment request.datagram in
      let r = some_said every a.1 (answered_orderly every settings ready request.moment still none request.datagram a.0 a.1 a.2) es in
      (map Notified notes ++ Responded number request.moment a.0 ∷ r.0, (notes, a.0, r.0, ready, a.1, is, a.2, refl, r.1))

  -- some frames up to a moment have passed, and something may be said of what is left
  pub begun_said : SomethingSaid → (moment : ℕ) (frames : List Frame) (journal : Journal) (notes : List Note) (es : List Event) → HasBegun settings moment frames journal notes
      → (said : List Said) × AreSaid settings journal (comings (take_while (is_by moment) frames) ++ es) (map Notified notes ++ said)
  begun_said every moment frames journal notes es begun =
      let left : List Frame = take_while (is_by moment) begun.left in
      let r = every settings begun.reached begun.orderly (comings left ++ es) in
      let all : comings begun.passed ++ (comings left ++ es) ≡ comings (take_while (is_by moment) frames) ++ es =
      sym (append_assoc (comings begun.passed) (comings left) es) ∙ ap (λ (c : List Event). c ++ es) (sym (more_comings begun.passed left) ∙ ap comings (sym begun.taken)) in
      (r.0, subst (λ (e : List Event). AreSaid settings journal e (map Notified notes ++ r.0)) all (said_after journal begun.passed notes begun.reached (comings left ++ es) r.0 begun.passing r.1))
