-- The control table of events (RFC 1757, section 5), by the journal.
use Rattle.std.specs.Prelude.{ℕ, List, [], ◌∷◌}
use Rattle.rm_val.specs.Val.{Val}
use Rattle.rm_model.specs.Journal.{Journal}
use Rattle.rm_model.specs.ControlRows.{no_rows, state_of, value_of}
use Rattle.rm_model.specs.declared.row.State.{State}
use Rattle.rm_event.specs.declared.event_type.EventType.{EventType}
use Rattle.rm_event.specs.EventType.{type_in}
pub use Rattle.rm_acts.specs.Events.{event_entry, event_table}

-- the state of a row
abbrev pub event_state : Journal → List ℕ → State
event_state journal index = state_of event_table no_rows journal index

-- the value of a column of a row that can be set: 2 is the description, 3 the type, 4 the community, 6 the owner
abbrev pub event_set : Journal → List ℕ → ℕ → Val
event_set journal index column = value_of event_table no_rows journal index column

-- the type of an event
abbrev pub type_of : Journal → ℕ → EventType
type_of journal event = type_in (event_set journal (event ∷ []) 3)
