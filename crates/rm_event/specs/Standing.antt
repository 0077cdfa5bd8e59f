-- When what is kept of events is what a journal gives.
use Rattle.std.specs.Prelude.{◌≡◌, ℕ, List, [], ◌∷◌, true, false, if◌then◌else◌, Option, Some, None}
use Rattle.rm_val.specs.Val.{Val}
use Rattle.rm_model.specs.Counting.{Counting}
use Rattle.rm_model.specs.Journal.{Act, Journal}
use Rattle.rm_model.specs.ControlRows.{no_rows, is_valid, is_absent}
use Rattle.rm_model.specs.declared.row.State.{State}
use Rattle.rm_model.specs.declared.row.State.TheVariants.{Absent, UnderCreation, Valid}
use Rattle.rm_status.specs.RowsAfter.{AreRowsAfter}
use Rattle.rm_acts.specs.declared.firing.Firing.{Firing}
use Rattle.rm_event.specs.declared.events.Events.{Events}
use Rattle.rm_event.specs.declared.event_type.EventType.{EventType}
use Rattle.rm_event.specs.declared.fired.Fired.{Fired}
use Rattle.rm_event.specs.declared.fired.Fired.TheVariants as fired
use Rattle.rm_event.specs.declared.log.Log.{Log}
use Rattle.rm_pool.specs.declared.slot.Slot.{Slot}
use Rattle.rm_event.specs.EventType.{fired_as}
use Rattle.rm_event.specs.EventTable.{event_table, event_state, event_set, type_of}
use Rattle.rm_event.specs.EventRows.{set_to}
use Rattle.rm_acts.specs.Fired.{firings, firings_with}
use Rattle.rm_event.specs.Log.{IsLog}
use Rattle.rm_pool.specs.Slots.{part_in}

-- the rows that are kept are those after a journal
abbrev pub HasRows : Events → Journal → Type 0
HasRows events journal = AreRowsAfter event_table no_rows set_to events.rows journal

-- what is kept of an event in that state and of that type, which fired at these moments: only one that isn't valid has no log
abbrev pub IsLogOf : State → EventType → List ℕ → Option Log → Type 0
IsLogOf state kind moments (Some log) = (is_valid state ≡ true) × IsLog log kind moments
IsLogOf state kind moments None = is_valid state ≡ false

-- the logs that are kept are those of the valid rows after a journal, where each event fired at these moments
abbrev pub AreLogs : List (Slot Log) → Journal → (ℕ → List ℕ) → Type 0
AreLogs logs journal moments =
    (event : ℕ)
    → IsLogOf (event_state journal (event ∷ [])) (type_of journal event) (moments event) (part_in logs event)

-- The group stands for a journal: its rows are those after the journal, and its logs have the firings that the journal gives.
pub record Stands (events : Events) (settings : Counting) (journal : Journal) : Type 0 where
  pub rows : HasRows events journal
  pub logs : AreLogs events.logs journal (firings settings journal)

-- The group is in an act, which is no Set, after a journal: these events were fired by it so far.
pub record IsUnderWay (events : Events) (settings : Counting) (act : Act) (earlier : Journal) (some : List Firing) : Type 0 where
  pub rows : HasRows events earlier
  pub logs : AreLogs events.logs earlier (λ event. firings_with act earlier event some (firings settings earlier event))

-- what becomes of an event that is to fire, by its state and its type
abbrev pub fired_of : State → EventType → Fired
fired_of Valid kind = fired_as kind
fired_of UnderCreation kind = fired.Absent
fired_of Absent kind = fired.Absent

-- the community of an event, if there is a row of it
abbrev pub community_of : Journal → ℕ → Option Val
community_of journal event =
    if is_absent (event_state journal (event ∷ [])) then None else Some (event_set journal (event ∷ []) 4)
