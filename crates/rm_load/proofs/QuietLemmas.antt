-- A load has no alarm, and so no sample is taken in it.
use Rattle.std.proofs.Common.{◌≡◌, ℕ, zero, suc, List, [], false, Option, Some, None, refl}
use Rattle.rm_model.specs.ControlRows.{is_valid}
use Rattle.rm_model.specs.Journal.{Journal}
use Rattle.rm_acts.specs.Alarms.{alarm_state, due_of}
use Rattle.rm_acts.proofs.DueLaws.{not_due}
use Rattle.rm_settings.specs.declared.settings.Settings.{Settings}
use Rattle.rm_agent.specs.Advance.{Notification, IsAdvanced as AgentIsAdvanced, none_due, one_due}
use Rattle.rm_probe.specs.Advance.{IsAdvanced}
use Rattle.rm_probe.specs.Notes.{Note}
use Rattle.rm_load.specs.Acts.{acts_of}

-- no alarm is valid after a journal
abbrev pub HasNoAlarm : Journal → Type 0
HasNoAlarm journal = (alarm : ℕ) → is_valid (alarm_state journal alarm) ≡ false

-- so it is before the first act, and after the Sets and the frames of a load
pub none_at_first : HasNoAlarm []
none_at_first alarm = refl

pub none_in_load : (start count : ℕ) → HasNoAlarm (acts_of start count)
none_in_load start zero alarm = refl
none_in_load start (suc i) alarm = none_in_load start i alarm

none_some : {A : Type 0} (o : Option A) (x : A) → o ≡ None → o ≡ Some x → ⊥
none_some o x e f = cc

same_after : (settings : Settings) (to : ℕ) (journal : Journal) (sent : List Notification) (after : Journal) → HasNoAlarm journal → AgentIsAdvanced settings to journal sent after → after ≡ journal
same_after settings to _ _ _ none (none_due journal later) = refl
same_after settings to _ _ _ none (one_due journal next later after due early is) = absurd (none_some (due_of journal next.1) next.0 (not_due journal next.1 (none next.1)) due.0)

-- then the journal stays as it is up to a moment
pub quiet : (settings : Settings) (to : ℕ) (journal : Journal) (notes : List Note) (after : Journal) → HasNoAlarm journal → IsAdvanced settings to journal notes after → after ≡ journal
quiet settings to journal notes after none is = same_after settings to journal is.sent after none is.advanced
