-- What a run writes: one line for each datagram and one for each notification, in the order of events, and a last line.
use Rattle.std.specs.Prelude.{◌≡◌, ◌⊎◌, ℕ, true, List, [], ◌∷◌, ◌++◌, length, map, drop, slice_get, Some, None}
use Rattle.rm_model.specs.Journal.{Frame, Journal, passes}
use Rattle.rm_pcap.specs.Records.{Stop}
use Rattle.rm_captures.specs.Left.{is_cut}
use Rattle.rm_pdu.specs.declared.kind.Kind.TheVariants.{Set}
use Rattle.rm_pdu.specs.Message.{Message, message_octets}
use Rattle.rm_pdu.specs.Parse.{Parse, message, IsParse}
use Rattle.rm_settings.specs.declared.settings.Settings.{Settings}
use Rattle.rm_agent.specs.declared.answer.Reason.{Reason}
use Rattle.rm_agent.specs.Answers.{reason_for, IsReplyAfter}
use Rattle.rm_reply.specs.Sets.{given_by}
use Rattle.rm_agent.specs.Groups.{Reserves}
use Rattle.rm_requests.specs.Lines.{TimedDatagram}
use Rattle.rm_probe.specs.Notes.{Note}
use Rattle.rm_probe.specs.Advance.{IsAdvanced}
use Rattle.rm_probe.specs.Events.{Event, Comes, Asks}
use Rattle.rm_probe.specs.InOrder.{AreInOrder}
use Rattle.rm_probe.specs.Said.{Response, Replied, Dropped, Said, Notified, Responded, Last, lines}

-- What may be answered to a datagram that comes after a journal, at a moment in milliseconds: that it is dropped, and why, or
-- a reply to it. A SetRequest that is accepted makes the journal longer, and with all else it stays.
pub data IsAnswered (settings : Settings) (journal : Journal) (moment : ℕ) (datagram : List ℕ) (response : Response) (after : Journal) : Type 0 where
  dropped : (v : Parse) (reason : Reason) → IsParse true datagram v → reason_for settings v ≡ Some reason
      → response ≡ Dropped reason → after ≡ journal → IsAnswered settings journal moment datagram response after
  replied : (request reply : Message) → IsParse true datagram (message request) → reason_for settings (message request) ≡ None
      → IsReplyAfter settings journal moment request reply after
      → response ≡ Replied (message_octets reply) → IsAnswered settings journal moment datagram response after

-- This may be said of the events, from a journal on. Before each event come the notifications of the samples that are
-- due up to its moment. What is due after the last event isn't taken.
unfoldable pub AreSaid : Settings → Journal → List Event → List Said → Type 0
AreSaid settings journal [] said = said ≡ []
AreSaid settings journal (Comes frame ∷ events) said =
    (notes : List Note) × (rest : List Said) × (ready : Journal) × IsAdvanced settings frame.moment journal notes ready
    × (said ≡ map Notified notes ++ rest) × AreSaid settings (passes frame ∷ ready) events rest
AreSaid settings journal (Asks number request ∷ events) said =
    (notes : List Note) × (response : Response) × (rest : List Said) × (ready after : Journal) × IsAdvanced settings request.moment journal notes ready
    × IsAnswered settings ready request.moment request.datagram response after
    × (said ≡ map Notified notes ++ Responded number request.moment response ∷ rest) × AreSaid settings after events rest

-- the datagram is no SetRequest that reserves storage after a journal
abbrev pub ReservesNothing : Journal → List ℕ → Type 0
ReservesNothing journal datagram =
    (request : Message) → IsParse true datagram (message request) → request.kind ≡ Set → (index : ℕ) → Reserves journal (given_by request.bindings) index → ⊥

-- None of the SetRequests among the events reserves storage, from a journal on, whatever was answered before. Then each has one
-- lawful response; one that reserves storage has a further one, by which there was no memory.
unfoldable pub AreWithoutChoice : Settings → Journal → List Event → Type 0
AreWithoutChoice settings journal [] = Unit {0}
AreWithoutChoice settings journal (Comes frame ∷ events) =
    (notes : List Note) (ready : Journal) → IsAdvanced settings frame.moment journal notes ready → AreWithoutChoice settings (passes frame ∷ ready) events
AreWithoutChoice settings journal (Asks number request ∷ events) =
    (notes : List Note) (ready : Journal) → IsAdvanced settings request.moment journal notes ready
    → ReservesNothing ready request.datagram
    × ((response : Response) (after : Journal) → IsAnswered settings ready request.moment request.datagram response after → AreWithoutChoice settings after events)

-- an answer to a datagram: its response, and the journal after it
pub record Choice : Type 0 where
  pub response : Response
  pub after : Journal

-- This may be said of the events, from a journal on, with these answers to the datagrams in their order. Where a datagram
-- is no SetRequest that reserves storage, its answer is left open here: there is one.
unfoldable pub AreSaidBy : Settings → Journal → List Event → List Choice → List Said → Type 0
AreSaidBy settings journal [] choices said = said ≡ []
AreSaidBy settings journal (Comes frame ∷ events) choices said =
    (notes : List Note) × (rest : List Said) × (ready : Journal) × IsAdvanced settings frame.moment journal notes ready
    × (said ≡ map Notified notes ++ rest) × AreSaidBy settings (passes frame ∷ ready) events choices rest
AreSaidBy settings journal (Asks number request ∷ events) choices said =
    (notes : List Note) × (response : Response) × (rest : List Said) × (ready after : Journal) × IsAdvanced settings request.moment journal notes ready
    × IsAnswered settings ready request.moment request.datagram response after
    × (ReservesNothing ready request.datagram ⊎ (slice_get choices 0 ≡ Some (record { response = response; after = after })))
    × (said ≡ map Notified notes ++ Responded number request.moment response ∷ rest) × AreSaidBy settings after events (drop 1 choices) rest

-- All that is said in a run of these frames and datagrams in order, of which nothing is left, where the captures' records stop so.
pub record IsRun (settings : Settings) (frames : List Frame) (stop : Stop) (requests : List TimedDatagram) (said : List Said) : Type 0 where
  pub events : List Event
  pub in_order : AreInOrder 1 frames requests events
  pub before : List Said
  pub are_said : AreSaid settings [] events before
  pub whole : said ≡ before ++ Last (is_cut stop) (length frames) (length requests) ∷ []

-- the text may be written for these frames and datagrams
pub record IsText (settings : Settings) (frames : List Frame) (stop : Stop) (requests : List TimedDatagram) (text : List ℕ) : Type 0 where
  pub said : List Said
  pub is_run : IsRun settings frames stop requests said
  pub whole : text ≡ lines said

-- the text may be written with these answers
pub record IsTextBy (settings : Settings) (frames : List Frame) (stop : Stop) (requests : List TimedDatagram) (choices : List Choice) (text : List ℕ) : Type 0 where
  pub events : List Event
  pub in_order : AreInOrder 1 frames requests events
  pub before : List Said
  pub are_said : AreSaidBy settings [] events choices before
  pub whole : text ≡ lines (before ++ Last (is_cut stop) (length frames) (length requests) ∷ [])
