-- The agent, as its callers see it.
use Rattle.std.specs.Prelude.{◌≡◌, ◌<◌, ◌≤◌, ℕ, ◌%◌, ◌^◌, List, ◌∷◌, length, take, Option, Some, None}
use Rattle.rm_model.specs.Journal.{Act, Journal, samples, last_moment}
use Rattle.rm_acts.specs.Alarms.{IsNextDue, due_of}
use Rattle.rm_alarm.specs.Watched.{number_read}
use Rattle.rm_group.specs.Due.{IsFirst}
use Rattle.rm_group.specs.declared.due.Due.{Due}
use Rattle.rm_group.specs.declared.due.TheConstants.{SAMPLES}
use Rattle.rm_topn.specs.declared.due.TheConstants.{REPORTS}
use Rattle.rm_pdu.specs.Message.{Message, message_octets}
use Rattle.rm_settings.specs.declared.settings.Settings.{Settings}
use Rattle.rm_agent.specs.declared.agent.Agent.{Agent}
use Rattle.rm_agent.specs.Known.{counting_by}
use Rattle.rm_agent.specs.Dues.{IsNext, moment_in}
use Rattle.rm_agent.specs.Groups.{FallDue, GroupsStand, left_of}
use Rattle.rm_agent.specs.Notifications.{count_notifications, notification_of}
use Rattle.rm_agent.specs.Orderly.{IsOrderly}

-- what the agent was set to
abbrev pub settings_of : Agent → Settings
settings_of agent = agent.settings

-- the last moment that it was given, 0 before the first
abbrev pub last_given : Agent → ℕ
last_given agent = agent.last

-- how many frames it was given
abbrev pub frames_given : Agent → ℕ
frames_given agent = agent.frames

-- The agent stands for a journal: its groups do, no act is later than the last moment, the journal's samples come in order, and the agent
-- counts the notifications.
pub record Stands (agent : Agent) (journal : Journal) : Type 0 where
  pub groups : GroupsStand agent.groups.value (counting_by agent.settings) journal
  pub last : last_moment journal ≤ agent.last
  pub orderly : IsOrderly journal
  pub notifications : agent.notifications ≡ count_notifications (counting_by agent.settings) journal % 2 ^ 31

-- what falls due: the end of a report of hosts that runs, or the next sample of an alarm
abbrev pub dues_of : Agent → Due → Type 0
dues_of agent = FallDue agent.groups.value

-- nothing falls due up to a moment
abbrev pub NothingIsDue : ℕ → Agent → Type 0
NothingIsDue to agent = (due : Due) → dues_of agent due → to < due.moment

-- the moment of what comes first of that, in milliseconds
abbrev pub IsNextMoment : (Due → Type 0) → Option ℕ → Type 0
IsNextMoment FallsDue moment = (next : Option Due) × IsFirst FallsDue next × (moment ≡ moment_in next)

-- no more than this falls due up to a moment
abbrev pub dues_left_of : Agent → ℕ → ℕ
dues_left_of agent latest = left_of agent.groups.value latest

-- the sample that an alarm takes at a moment after a journal
abbrev pub sample_of : Settings → Journal → (moment alarm : ℕ) → Act
sample_of settings journal moment alarm = samples moment alarm (number_read (counting_by settings) journal moment alarm)

-- the octets of a notification are at the front of `note`, and their number is told; nothing is where there is no notification
abbrev pub IsWritten : Option Message → Option ℕ → List ℕ → Type 0
IsWritten None count note = count ≡ None
IsWritten (Some message) count note =
    (count ≡ Some (length (message_octets message))) × (take (length (message_octets message)) note ≡ message_octets message)

-- The sample was taken that comes next after a journal, and is due at a moment: the agent stands for the journal with the sample in
-- front, and the sample's notification is written.
pub record HasSampled (settings : Settings) (journal : Journal) (moment : ℕ) (agent : Agent) (count : Option ℕ) (note : List ℕ) : Type 0 where
  pub alarm : ℕ
  pub next : IsNextDue (due_of journal) (Some (moment, alarm))
  pub stands : Stands agent (sample_of settings journal moment alarm ∷ journal)
  pub notification : IsWritten (notification_of (counting_by settings) (sample_of settings journal moment alarm) journal) count note

-- What comes next after a journal, and is due at a moment, was handled. Where it is the end of reports, no act tells of it, and nothing is
-- sent. Else the sample of an alarm was taken.
pub record HasHandled (settings : Settings) (journal : Journal) (last moment : ℕ) (agent : Agent) (count : Option ℕ) (note : List ℕ) : Type 0 where
  pub next : Due
  pub comes : IsNext journal last (Some next)
  pub at : next.moment ≡ moment
  pub ended : next.kind ≡ REPORTS → Stands agent journal × (count ≡ None)
  pub sampled : next.kind ≡ SAMPLES → HasSampled settings journal moment agent count note
