-- The control table of events (RFC 1757, section 5), and the event that a sample asks for.
use Rattle.std.specs.Prelude.{ℕ, pos, List, [], ◌∷◌}
use Rattle.rm_val.specs.Val.{int}
use Rattle.rm_model.specs.Journal.{Journal}
use Rattle.rm_model.specs.ControlTable.{Column, ControlTable, number, up_from, plain_column, text_column, owner_column, entry_table}
use Rattle.rm_acts.specs.Alarms.{alarm_column}
use Rattle.rm_acts.specs.declared.sampled.Sampled.{Sampled}
use Rattle.rm_acts.specs.declared.sampled.Sampled.TheVariants.{Quiet, Rising, Falling, Gone}
use Rattle.rm_val.specs.Contents.{natural_in}

-- the identifier of eventEntry
abbrev pub event_entry : List ℕ
event_entry = 1 ∷ 3 ∷ 6 ∷ 1 ∷ 2 ∷ 1 ∷ 16 ∷ 9 ∷ 1 ∷ 1 ∷ []

-- eventType
abbrev pub type_column : Column
type_column = plain_column 3 (number (up_from 1 4)) (int (pos 1))

-- The control table: eventDescription, eventType, eventCommunity and eventOwner.
abbrev pub event_table : ControlTable
event_table = entry_table event_entry 7 (text_column 2 ∷ type_column ∷ text_column 4 ∷ owner_column 6 ∷ [])

-- the event that a sample of an alarm asks for, by what the sample comes to: its alarmRisingEventIndex, which is column 9, or
-- its alarmFallingEventIndex, which is column 10; 0 is none
abbrev pub event_asked : Journal → (alarm : ℕ) → Sampled → ℕ
event_asked journal alarm Rising = natural_in (alarm_column journal alarm 9)
event_asked journal alarm Falling = natural_in (alarm_column journal alarm 10)
event_asked journal alarm Quiet = 0
event_asked journal alarm Gone = 0
