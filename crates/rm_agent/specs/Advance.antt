-- The samples that are due up to a moment, and their notifications.
use Rattle.std.specs.Prelude.{◌≤◌, ℕ, List, [], ◌∷◌, ◌++◌, Option, Some, None}
use Rattle.rm_model.specs.Journal.{Journal}
use Rattle.rm_acts.specs.Alarms.{due_of, IsNextDue}
use Rattle.rm_pdu.specs.Message.{Message}
use Rattle.rm_settings.specs.declared.settings.Settings.{Settings}
use Rattle.rm_agent.specs.Agent.{sample_of}
use Rattle.rm_agent.specs.Known.{counting_by}
use Rattle.rm_agent.specs.Notifications.{notification_of}
use Rattle.rm_agent.specs.Orderly.{NoneIsDue}

-- a notification, and the moment in milliseconds at which it is sent
pub record Notification : Type 0 where
  pub moment : ℕ
  pub message : Message

-- the notification at a moment, if there is one
abbrev pub sent_at : (moment : ℕ) → Option Message → List Notification
sent_at moment None = []
sent_at moment (Some message) = record { moment = moment; message = message } ∷ []

-- what the sample that is taken next after a journal notifies of
abbrev pub notifications_of : Settings → Journal → ℕ × ℕ → List Notification
notifications_of settings journal next = sent_at next.0 (notification_of (counting_by settings) (sample_of settings journal next.0 next.1) journal)

-- From a journal on, all samples that are due up to a moment are taken, in order of their moments and at one moment in order
-- of the alarms. Each sees the samples before it. These are their notifications, and that is the journal after. Either none is
-- due; or one is due and comes next, and the others follow it.
pub data IsAdvanced (settings : Settings) (to : ℕ) : Journal → List Notification → Journal → Type 0 where
  none_due : (journal : Journal) → NoneIsDue to journal → IsAdvanced settings to journal [] journal
  one_due : (journal : Journal) (next : ℕ × ℕ) (later : List Notification) (after : Journal) → IsNextDue (due_of journal) (Some next) → next.0 ≤ to
      → IsAdvanced settings to (sample_of settings journal next.0 next.1 ∷ journal) later after
      → IsAdvanced settings to journal (notifications_of settings journal next ++ later) after
