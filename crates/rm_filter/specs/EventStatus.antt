-- Whether a channel may fire its event (RFC 1757, channelEventStatus).
use Rattle.std.specs.Prelude.{ℕ, [], ◌∷◌, refl}
use Rattle.rm_columns.specs.Field.{FieldOf}
use Rattle.rm_columns.specs.Kinds.{variants}
use Rattle.rm_columns.specs.Numbering.{Numbering}
use Rattle.rm_filter.specs.declared.event_status.EventStatus.{EventStatus}
use Rattle.rm_filter.specs.declared.event_status.EventStatus.TheVariants.{Ready, Fired, AlwaysReady}

-- the number of a status
abbrev pub status_number : EventStatus → ℕ
status_number Ready = 1
status_number Fired = 2
status_number AlwaysReady = 3

-- the statuses, ready by default
abbrev pub numbering : Numbering EventStatus
numbering = record { number_of = status_number; first = Ready; others = Fired ∷ AlwaysReady ∷ [] }

-- the status as a column
abbrev pub event_statuses : FieldOf EventStatus
event_statuses = variants numbering 3 (refl, (refl, (refl, tt)))
