-- What the steps of a load do to its probe.
use Rattle.std.specs.Prelude.{◌≡◌, ◌≤◌, ℕ, ◌+◌, List}
use Rattle.rm_model.specs.Journal.{Journal}
use Rattle.rm_pdu.specs.Message.{Message, message_octets}
use Rattle.rm_settings.specs.declared.settings.Settings.{Settings}
use Rattle.rm_probe.specs.Advance.{IsAdvanced}
use Rattle.rm_probe.specs.Notes.{Note}
use Rattle.rm_probe.specs.Probe.{settings_of, last_given, HasHandledBy, Stands}
use Rattle.rm_probe.specs.Said.{Response}
use Rattle.rm_probe.specs.Text.{IsAnswered}
use Rattle.rm_probe.specs.declared.probe.Probe.{Probe}
use Rattle.rm_load.specs.Acts.{acts_of}

-- a request was answered at a moment, after a journal
pub record HasAnswered (settings : Settings) (journal : Journal) (moment : ℕ) (request : Message) (probe : Probe) : Type 0 where
  pub notes : List Note
  pub ready : Journal
  pub response : Response
  pub after : Journal
  pub advanced : IsAdvanced settings moment journal notes ready
  pub answered : IsAnswered settings ready moment (message_octets request) response after
  pub stands : Stands probe after

-- a probe that is set so was loaded with so many frames, and may be asked a millisecond after the last of them
pub record IsLoaded (settings : Settings) (start count : ℕ) (probe : Probe) : Type 0 where
  pub set_to : settings_of probe ≡ settings
  pub stands : Stands probe (acts_of start count)
  pub last : last_given probe ≤ 1001 + count
  pub handled : HasHandledBy (1001 + count) probe
