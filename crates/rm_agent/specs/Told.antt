-- The notification of a sample, as it is made.
use Rattle.std.specs.Prelude.{◌≡◌, ℕ, pos, List, [], ◌∷◌, Some}
use Rattle.rm_val.specs.Val.{int, name}
use Rattle.rm_model.specs.Counting.{Counting}
use Rattle.rm_model.specs.Journal.{Journal, samples}
use Rattle.rm_acts.specs.Alarms.{due_of, number_of, name_of, sampled}
use Rattle.rm_alarm.specs.AlarmTable.{alarm_shown}
use Rattle.rm_alarm.specs.Watched.{number_read}
use Rattle.rm_acts.specs.Events.{event_asked}
use Rattle.rm_event.specs.EventTable.{event_state, type_of}
use Rattle.rm_event.specs.Standing.{fired_of}
use Rattle.rm_pdu.specs.Message.{Binding, Message}
use Rattle.rm_pdu.specs.declared.kind.Kind.TheVariants.{Trap}
use Rattle.rm_agent.specs.declared.sampling.Taken.{Taken}
use Rattle.rm_agent.specs.declared.told.Told.{Told}
use Rattle.rm_agent.specs.declared.trap.AlarmTrap.{AlarmTrap}
use Rattle.rm_agent.specs.Members.{Groups}
use Rattle.rm_agent.specs.Groups.{GroupsStand}
use Rattle.rm_agent.specs.Notifications.{trap_bindings}

-- what a trap tells of an alarm after a journal, by the column with the threshold that was crossed
abbrev pub told_of : Counting → Journal → (alarm threshold : ℕ) → Told
told_of settings journal alarm threshold = record {
  index = number_of (alarm_shown settings journal 1 (alarm ∷ []));
  variable = name_of (alarm_shown settings journal 3 (alarm ∷ []));
  sample_type = number_of (alarm_shown settings journal 4 (alarm ∷ []));
  value = number_of (alarm_shown settings journal 5 (alarm ∷ []));
  threshold = number_of (alarm_shown settings journal threshold (alarm ∷ []));
}

-- the bindings of a trap that tells this at a moment, in milliseconds
abbrev pub stated_bindings : (moment alarm : ℕ) → AlarmTrap → Told → List Binding
stated_bindings moment alarm trap told = trap_bindings moment alarm trap (int told.index) (name told.variable) (int told.sample_type) (int told.value) (int told.threshold)

-- the trap with a request-id, to a community
abbrev pub stated_trap : (community : List ℕ) → (id moment alarm : ℕ) → AlarmTrap → Told → Message
stated_trap community id moment alarm trap told =
    record { community = community; kind = Trap; id = pos id; first = pos 0; second = pos 0; bindings = stated_bindings moment alarm trap told }

-- What was taken is the sample of an alarm at a moment after a journal, with its firings: the groups stand for the journal with the
-- sample in front. It tells what the sample came to, the event that this asked for, and what became of that event.
pub record IsTaken (settings : Counting) (journal : Journal) (moment alarm : ℕ) (groups : Groups) (taken : Taken) : Type 0 where
  pub due : due_of journal alarm ≡ Some moment
  pub stands : GroupsStand groups settings (samples moment alarm (number_read settings journal moment alarm) ∷ journal)
  pub comes : taken.comes ≡ sampled settings journal moment alarm (number_read settings journal moment alarm)
  pub event : taken.event ≡ event_asked journal alarm taken.comes
  pub fired : taken.fired ≡ fired_of (event_state journal (taken.event ∷ [])) (type_of journal taken.event)
