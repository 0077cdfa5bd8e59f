-- What an event does where it fires (RFC 1757, eventType).
use Rattle.std.specs.Prelude.{ℕ, [], ◌∷◌, Bool, true, false}
use Rattle.rm_val.specs.Val.{Val}
use Rattle.rm_columns.specs.Numbering.{Numbering, variant}
use Rattle.rm_columns.specs.Values.{natural_in}
use Rattle.rm_event.specs.declared.event_type.EventType.{EventType}
use Rattle.rm_event.specs.declared.event_type.EventType.TheVariants.{None, Log, SnmpTrap, LogAndTrap}
use Rattle.rm_event.specs.declared.fired.Fired.{Fired}
use Rattle.rm_event.specs.declared.fired.Fired.TheVariants as fired

-- the number of a type
abbrev pub number_of : EventType → ℕ
number_of None = 1
number_of Log = 2
number_of SnmpTrap = 3
number_of LogAndTrap = 4

-- the types, none by default
abbrev pub numbering : Numbering EventType
numbering = record { number_of = number_of; first = None; others = Log ∷ SnmpTrap ∷ LogAndTrap ∷ [] }

-- the type that a value is
abbrev pub type_in : Val → EventType
type_in value = variant numbering (natural_in value)

-- whether an event of that type is logged where it fires
abbrev pub is_logged : EventType → Bool
is_logged None = false
is_logged Log = true
is_logged SnmpTrap = false
is_logged LogAndTrap = true

-- what an event of that type does where it fires
abbrev pub fired_as : EventType → Fired
fired_as None = fired.Silent
fired_as Log = fired.Logged
fired_as SnmpTrap = fired.Trap
fired_as LogAndTrap = fired.Both
