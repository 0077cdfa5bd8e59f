-- Lemmas on the samples of alarms, and on the events that they fire.
use Rattle.std.proofs.Common.{◌≡◌, ℕ, ◌+◌, ◌%◌, ◌^◌, ◌≤◌, List, ◌∷◌, true, ◌&&◌, Option, Some, None, refl, sym, subst, arith}
use Rattle.std.specs.Prelude.{ℤ, is_some}
use Rattle.rm_model.specs.Counting.{Counting}
use Rattle.rm_model.specs.Journal.{Act, Journal, samples}
use Rattle.rm_acts.specs.Alarms.{alarm_state, sampled, due_of, IsNextDue}
use Rattle.rm_model.specs.ControlRows.{is_valid}
use Rattle.rm_model.specs.declared.row.State.{State}
use Rattle.rm_model.specs.declared.row.State.TheVariants.{Absent, UnderCreation, Valid}
use Rattle.rm_acts.specs.declared.sampled.Sampled.{Sampled}
use Rattle.rm_acts.specs.declared.sampled.Sampled.TheVariants.{Quiet, Rising, Falling, Gone}
use Rattle.rm_event.specs.declared.event_type.EventType.{EventType}
use Rattle.rm_event.specs.declared.event_type.EventType.TheVariants as type
use Rattle.rm_acts.specs.Events.{event_asked}
use Rattle.rm_event.specs.Standing.{fired_of}
use Rattle.rm_alarm.specs.Watched.{number_read}
use Rattle.rm_settings.specs.declared.settings.Settings.{Settings}
use Rattle.rm_agent.specs.declared.agent.Agent.{Agent}
use Rattle.rm_agent.specs.Known.{counting_by}
use Rattle.rm_agent.specs.Groups.{GroupsStand}
use Rattle.rm_agent.specs.Agent.{Stands, HasSampled, IsWritten, sample_of}
use Rattle.rm_agent.specs.Notifications.{trap_of, is_sent, is_trap, count_notifications, notification_of}
use Rattle.rm_agent.proofs.OrderlyLemmas.{orderly_samples}

-- a trap is sent by an event whose type sends it and whose row is valid
pub is_sending : (state : State) (kind : EventType) → is_trap (fired_of state kind) ≡ (is_valid state && is_sent kind)
is_sending Valid type.None = refl
is_sending Valid type.Log = refl
is_sending Valid type.SnmpTrap = refl
is_sending Valid type.LogAndTrap = refl
is_sending UnderCreation kind = refl
is_sending Absent kind = refl

-- a valid alarm stays so after a sample that crosses
pub valid_after : (settings : Counting) (journal : Journal) (moment alarm : ℕ) (reading : Option ℤ) → is_valid (alarm_state journal alarm) ≡ true
    → is_some (trap_of (sampled settings journal moment alarm reading)) ≡ true → is_valid (alarm_state (samples moment alarm reading ∷ journal) alarm) ≡ true
valid_after settings journal moment alarm None valid crossing = absurd (cc)
valid_after settings journal moment alarm (Some number) valid crossing = valid

-- a sample asks for an event by the columns that the alarm had before
pub same_event : (journal : Journal) (moment alarm : ℕ) (reading : Option ℤ) (comes : Sampled)
    → event_asked (samples moment alarm reading ∷ journal) alarm comes ≡ event_asked journal alarm comes
same_event journal moment alarm reading Rising = refl
same_event journal moment alarm reading Falling = refl
same_event journal moment alarm reading Quiet = refl
same_event journal moment alarm reading Gone = refl

-- one that crosses no threshold asks for none
pub none_asked : (journal : Journal) (alarm : ℕ) (comes : Sampled) → (is_some (trap_of comes) ≡ true → ⊥) → 0 ≡ event_asked journal alarm comes
none_asked journal alarm Rising none = absurd (none refl)
none_asked journal alarm Falling none = absurd (none refl)
none_asked journal alarm Quiet none = refl
none_asked journal alarm Gone none = refl

-- the agent after the sample that comes next
pub has_sampled : (before after : Agent) (journal : Journal) (moment alarm : ℕ) (count : Option ℕ) (note : List ℕ) → Stands before journal → IsNextDue (due_of journal) (Some (moment, alarm))
    → GroupsStand after.groups.value (counting_by before.settings) (sample_of before.settings journal moment alarm ∷ journal) → after.settings ≡ before.settings → moment ≤ after.last
    → after.notifications ≡ count_notifications (counting_by before.settings) (sample_of before.settings journal moment alarm ∷ journal) % 2 ^ 31
    → IsWritten (notification_of (counting_by before.settings) (sample_of before.settings journal moment alarm) journal) count note → HasSampled before.settings journal moment after count note
has_sampled before after journal moment alarm count note stands next groups same last notifications written =
    let act : Act = sample_of before.settings journal moment alarm in
    record {
      alarm = alarm;
      next = next;
      stands = record {
        groups = subst (λ (settings : Settings). GroupsStand after.groups.value (counting_by settings) (act ∷ journal)) (sym same) groups;
        last = last;
        orderly = orderly_samples journal (moment, alarm) next stands.orderly (number_read (counting_by before.settings) journal moment alarm);
        notifications = subst (λ (settings : Settings). after.notifications ≡ count_notifications (counting_by settings) (act ∷ journal) % 2 ^ 31) (sym same) notifications;
      };
      notification = written;
    }

-- the number of the next notification, where notifications are counted modulo 2 ^ 31
pub next_number : (count n : ℕ) → n ≡ count % 2 ^ 31 → (count + 1) % 2 ^ 31 ≡ (n + 1) % 2 ^ 31
next_number count n is = omega (arith, is)
