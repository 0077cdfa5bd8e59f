-- A reply leaves an orderly journal.
use Rattle.std.proofs.Common.{◌≡◌, ℕ, Bool, Option, Some, None, refl}
use Rattle.std.specs.Prelude.{List}
use Rattle.std.specs.Option.{option_or}
use Rattle.rm_model.specs.Journal.{Journal}
use Rattle.rm_model.specs.Judgement.{Bindings, name_at, value_at, second_pass, rows_after}
use Rattle.rm_model.specs.ControlRows.{Beginning, no_rows}
use Rattle.rm_acts.specs.Alarms.{alarm_table}
use Rattle.rm_pdu.specs.declared.kind.Kind.{Kind}
use Rattle.rm_pdu.specs.Message.{Message}
use Rattle.rm_settings.specs.declared.settings.Settings.{Settings}
use Rattle.rm_reply.specs.Responses.{IsReplyBy}
use Rattle.rm_agent.specs.Groups.{cells, objects, alone, together, Reserves}
use Rattle.rm_reply.specs.Sets.{alone_among}
use Rattle.rm_val.specs.declared.error.ErrorStatus.TheVariants.{NotWritable}
use Rattle.rm_val.specs.Val.{Val}
use Rattle.rm_model.specs.Judgement.{unless}
use Rattle.rm_event.specs.EventTable.{event_table}
use Rattle.rm_event.specs.Group.{event_alone}
use Rattle.rm_alarm.specs.Group.{alarm_alone, alarm_together, variable_fault}
use Rattle.rm_agent.specs.Known.{counting_by}
use Rattle.rm_agent.specs.Members.{sources, system}
use Rattle.rm_agent.specs.Orderly.{NoneIsDue, IsOrderly}
use Rattle.rm_agent.proofs.Leaving.{leaves}
use Rattle.rm_agent.proofs.OrderlyLemmas.{orderly_assigns}

no_first : {A : Type 0} (o p : Option A) → option_or o p ≡ None → o ≡ None
no_first None p h = refl
no_first (Some x) p h = cc

no_second : {A : Type 0} (o p : Option A) → option_or o p ≡ None → p ≡ None
no_second None p h = h
no_second (Some x) p h = absurd (cc)

module _ (settings : Settings) (journal : Journal) (now : ℕ) (orderly : IsOrderly journal) (none : NoneIsDue now journal) where
  -- where nothing is wrong, nothing is wrong with the alarms
  alone_fine : (numbers : List ℕ) (value : Val) → alone_among objects alone numbers value ≡ None → alarm_alone numbers value ≡ None
  alone_fine numbers value fine =
      let here : alone numbers value ≡ None = no_second (unless (objects numbers) NotWritable) (alone numbers value) fine in
      let others : option_or (event_alone numbers value) (option_or (sources.alone numbers value) (alarm_alone numbers value)) ≡ None =
      no_second (system.alone numbers value) _ here in
      no_second (sources.alone numbers value) (alarm_alone numbers value) (no_second (event_alone numbers value) _ others)

  together_fine : (bindings : Bindings) (k : ℕ) → together settings journal now bindings k ≡ None → second_pass alarm_table (rows_after alarm_table no_rows journal) bindings k ≡ None
  together_fine bindings k fine =
      let before : Beginning = rows_after alarm_table no_rows journal in
      let sampling : option_or (sources.together (counting_by settings) journal now bindings k) (alarm_together ((counting_by settings).readings journal now) before bindings k) ≡ None =
      no_second (second_pass event_table (rows_after event_table no_rows journal) bindings k) _
      (no_second (system.together (counting_by settings) journal now bindings k) _ fine) in
      no_first (second_pass alarm_table before bindings k) (variable_fault ((counting_by settings).readings journal now) before bindings k)
      (no_second (sources.together (counting_by settings) journal now bindings k) _ sampling)

  pub reply_orderly : (kind : Kind) (may_write : Bool) (request reply : Message) (after : Journal) → IsReplyBy (cells settings journal now) objects alone (together settings journal now) (Reserves journal) may_write now journal kind request reply after → IsOrderly after
  reply_orderly kind may_write =
      leaves (cells settings journal now) objects alone (together settings journal now) (Reserves journal) now journal IsOrderly orderly
      (λ bindings fine beside.
      orderly_assigns journal now bindings
      (λ k within. alone_fine (name_at bindings k) (value_at bindings k) (fine k within))
      (λ k within. together_fine bindings k (beside k within))
      orderly none)
      may_write kind
