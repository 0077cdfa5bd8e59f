-- A group, and the alarms that sample its variables.
use Rattle.std.specs.Prelude.{◌≡◌, ℕ, ◌≤◌, ℤ, List, Option}
use Rattle.std.specs.Option.{option_map}
use Rattle.rm_model.specs.Counting.{Counting}
use Rattle.rm_model.specs.Journal.{Journal, last_moment}
use Rattle.rm_model.specs.Judgement.{Bindings}
use Rattle.rm_acts.specs.Alarms.{variable_of}
use Rattle.rm_acts.specs.Recurring.{Sampleable, read}
use Rattle.rm_alarm.specs.declared.alarms.Alarms.{Alarms}
use Rattle.rm_alarm.specs.Standing.{AreRead}
use Rattle.rm_alarm.specs.Group.{AreFine}

-- what alarms may sample are the cells of a group
abbrev pub ReadsFrom : Sampleable → Counting → Type 0
ReadsFrom cells settings = (journal : Journal) (now : ℕ) (name : List ℕ) → settings.readings journal now name ≡ read (cells settings journal now) name

-- The alarms are ready for a Set at a moment, beside a group whose variables they sample: nothing is wrong with it, and where the
-- group may be asked they remember what their variables read after each journal that it stands for.
pub record AreReady (cells : Sampleable) (stands : Counting → Journal → Type 0) (askable : Type 0) (alarms : Alarms) (now : ℕ) (bindings : Bindings) : Type 0 where
  pub fine : AreFine alarms bindings
  pub read : (settings : Counting) (journal : Journal) → ReadsFrom cells settings → stands settings journal → last_moment journal ≤ now → askable → AreRead alarms settings journal now bindings

-- the number that the variable of an alarm reads at a moment after a journal, if there is a reading of it
abbrev pub number_read : Counting → Journal → (moment alarm : ℕ) → Option ℤ
number_read settings journal moment alarm =
    option_map (λ reading. reading.value) (settings.readings journal moment (variable_of journal alarm))
