-- What is kept of the firings of an event.
use Rattle.std.specs.Prelude.{◌≡◌, ℕ, ◌-◌, List, [], ◌∷◌, length, take, map, slice_get, unwrap_or}
use Rattle.rm_event.specs.declared.event_type.EventType.{EventType}
use Rattle.rm_event.specs.declared.log.Log.{Log}
use Rattle.rm_event.specs.Firings.{last_sent, logged, tick_of, most_shown}

-- a log has what these firings give of an event of that type, which fired at these moments, the newest first
pub record IsLog (log : Log) (kind : EventType) (moments : List ℕ) : Type 0 where
  pub sent : log.sent ≡ last_sent moments
  pub added : log.added ≡ length (logged kind moments)
  pub ring : log.ring.items ≡ map tick_of (take most_shown (logged kind moments))

-- one of an event that hasn't fired
abbrev pub IsNew : Log → Type 0
IsNew log = (kind : EventType) → IsLog log kind []

-- what a firing at a moment makes of the log of an event of that type
abbrev pub HasFired : EventType → ℕ → Log → Log → Type 0
HasFired kind moment log new = (moments : List ℕ) → IsLog log kind moments → IsLog new kind (moment ∷ moments)

-- the tick of the entry with a number, 0 where it isn't kept
abbrev pub kept_time : Log → ℕ → ℕ
kept_time log number = unwrap_or (slice_get log.ring.items (log.added - number)) 0
