-- The samples that are due up to a moment, and the notes of their notifications.
use Rattle.std.specs.Prelude.{◌≡◌, ℕ, List, map}
use Rattle.rm_model.specs.Journal.{Journal}
use Rattle.rm_pdu.specs.Message.{message_octets}
use Rattle.rm_settings.specs.declared.settings.Settings.{Settings}
use Rattle.rm_agent.specs.Advance.{Notification, notifications_of, IsAdvanced as AgentIsAdvanced}
use Rattle.rm_probe.specs.Notes.{Note}

-- the note of a notification has the octets of its message
abbrev pub note_of : Notification → Note
note_of sent = record { moment = sent.moment; message = message_octets sent.message }

-- the notes of the sample that is taken next after a journal
abbrev pub notes_of : Settings → Journal → ℕ × ℕ → List Note
notes_of settings journal next = map note_of (notifications_of settings journal next)

-- From a journal on, all samples that are due up to a moment are taken. These are the notes of their notifications, and that is the
-- journal after.
pub record IsAdvanced (settings : Settings) (to : ℕ) (journal : Journal) (notes : List Note) (after : Journal) : Type 0 where
  pub sent : List Notification
  pub advanced : AgentIsAdvanced settings to journal sent after
  pub noted : notes ≡ map note_of sent
