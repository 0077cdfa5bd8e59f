-- What eventTable and logTable show of firings (RFC 1757, section 5). Moments are in milliseconds, ticks in hundredths of a second.
use Rattle.std.specs.Prelude.{ℕ, ◌/◌, ◌-◌, List, [], ◌∷◌, length, drop, if◌then◌else◌}
use Rattle.rm_event.specs.declared.event_type.EventType.{EventType}
use Rattle.rm_event.specs.EventType.{is_logged}

-- the tick of a moment
abbrev pub tick_of : ℕ → ℕ
tick_of moment = moment / 10

-- eventLastTimeSent: the tick of the newest firing, 0 before the first
abbrev pub last_sent : List ℕ → ℕ
last_sent [] = 0
last_sent (newest ∷ earlier) = tick_of newest

-- the greatest number of an entry of a log, and how many entries are shown at most
abbrev pub most_entries : ℕ
most_entries = 2147483647

abbrev pub most_shown : ℕ
most_shown = 32

-- The moments of the firings that are logged, the newest first: those of an event of a type that is logged, the first
-- 2147483647 of them. Their numbers rise from 1 on.
abbrev pub logged : EventType → List ℕ → List ℕ
logged kind moments = if is_logged kind then drop (length moments - most_entries) moments else []
