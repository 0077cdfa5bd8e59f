-- What the laws of runs say.
use Rattle.std.specs.Prelude.{◌≡◌, ℕ, Bool, List, []}
use Rattle.rm_model.specs.Journal.{Journal}
use Rattle.rm_pdu.specs.declared.kind.Kind.TheVariants.{Set}
use Rattle.rm_pdu.specs.Message.{Message}
use Rattle.rm_pdu.specs.Parse.{Parse, IsParse}
use Rattle.rm_reply.specs.Sets.{given_by}
use Rattle.rm_settings.specs.declared.settings.Settings.{Settings}
use Rattle.rm_agent.specs.Advance.{Notification, IsAdvanced as AgentIsAdvanced}
use Rattle.rm_agent.specs.Answers.{IsReplyAfter}
use Rattle.rm_agent.specs.Groups.{Reserves}
use Rattle.rm_probe.specs.Events.{Event}
use Rattle.rm_probe.specs.Text.{AreWithoutChoice, Choice}

-- Octets are one thing, a request that is no SetRequest that reserves storage has one reply, and samples come in one way.
pub record OneOfEach (settings : Settings) : Type 0 where
  pub parse : (requests : Bool) (bytes : List ℕ) (v w : Parse) → IsParse requests bytes v → IsParse requests bytes w → v ≡ w
  pub reply : (journal : Journal) (now : ℕ) (request a b : Message) (after later : Journal) → (request.kind ≡ Set → (index : ℕ) → Reserves journal (given_by request.bindings) index → ⊥)
      → IsReplyAfter settings journal now request a after → IsReplyAfter settings journal now request b later → (a ≡ b) × (after ≡ later)
  pub advance : (to : ℕ) (journal : Journal) (sent others : List Notification) (after later : Journal) → AgentIsAdvanced settings to journal sent after → AgentIsAdvanced settings to journal others later
      → (sent ≡ others) × (after ≡ later)

-- One thing is told of the events with the same answers to the SetRequests that reserve storage, and one in all where none of them does. All
-- that is told of them is told with some answers.
pub record IsToldOnce {T : Type 0} (settings : Settings) (events : List Event) (IsTold : T → Type 0) (IsToldBy : List Choice → T → Type 0) : Type 0 where
  pub alone : AreWithoutChoice settings [] events → (told other : T) → IsTold told → IsTold other → told ≡ other
  pub by_answers : (choices : List Choice) (told other : T) → IsToldBy choices told → IsToldBy choices other → told ≡ other
  pub has_answers : (told : T) → IsTold told → (choices : List Choice) × IsToldBy choices told
