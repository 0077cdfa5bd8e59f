-- The probe, as its callers see it.
use Rattle.std.specs.Prelude.{◌≡◌, ℕ, List, [], ◌∷◌, Some}
use Rattle.rm_acts.specs.Alarms.{due_of, IsNextDue}
use Rattle.rm_model.specs.Journal.{Journal}
use Rattle.rm_settings.specs.declared.settings.Settings.{Settings}
use Rattle.rm_agent.specs.Agent.{settings_of as agent_settings, last_given as agent_last, frames_given as agent_frames, sample_of, NothingIsDue, Stands as AgentStands}
use Rattle.rm_probe.specs.Advance.{notes_of}
use Rattle.rm_probe.specs.Notes.{Note}
use Rattle.rm_probe.specs.declared.probe.Probe.{Probe}

-- what the probe was set to
abbrev pub settings_of : Probe → Settings
settings_of probe = agent_settings probe.agent

-- the last moment that it was given, 0 before the first
abbrev pub last_given : Probe → ℕ
last_given probe = agent_last probe.agent

-- how many frames it was given
abbrev pub frames_given : Probe → ℕ
frames_given probe = agent_frames probe.agent

-- the probe stands for the journals for which its agent does
abbrev pub Stands : Probe → Journal → Type 0
Stands probe journal = AgentStands probe.agent journal

-- all was handled that falls due up to a moment
abbrev pub HasHandledBy : ℕ → Probe → Type 0
HasHandledBy to probe = NothingIsDue to probe.agent

-- nothing came to the probe yet
pub record IsFresh (probe : Probe) : Type 0 where
  pub stands : Stands probe []
  pub last : last_given probe ≡ 0
  pub frames : frames_given probe ≡ 0

-- What falls due next after a journal, at a moment, was handled, with these notes. A report ended, of which there is none, and the journal is as
-- before; or the sample was taken that comes next.
pub data IsHandled (settings : Settings) (journal : Journal) (moment : ℕ) (notes : List Note) (probe : Probe) : Type 0 where
  ends : notes ≡ [] → Stands probe journal → IsHandled settings journal moment notes probe
  samples : (alarm : ℕ) → IsNextDue (due_of journal) (Some (moment, alarm)) → notes ≡ notes_of settings journal (moment, alarm) → Stands probe (sample_of settings journal moment alarm ∷ journal)
      → IsHandled settings journal moment notes probe
