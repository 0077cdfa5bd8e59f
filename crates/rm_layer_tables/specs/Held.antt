-- The rows of the network and application layer that a control row has after a journal.
use Rattle.std.specs.Prelude.{ℕ, ◌/◌, List, Bool, ◌&&◌, nat_le, nat_lt, if◌then◌else◌}
use Rattle.std.specs.List.{sum_by}
use Rattle.rm_model.specs.Counting.{Counting}
use Rattle.rm_model.specs.Journal.{Journal}
use Rattle.rm_evicting.specs.Held.{last_tick}
use Rattle.rm_layers.specs.Event.{Contribution, Event, span}
use Rattle.rm_layers.specs.Network.{is_held, exists, entry_tick, first_tick, newest_tick, contributions, application_contributions, network_inserts, network_deletes, application_inserts, application_deletes}
use Rattle.rm_layer_events.specs.Side.{events}
use Rattle.rm_layer_tables.specs.Control.{is_active, room_for}
use Rattle.rm_layer_tables.specs.Layer.{Layer, side_of}

-- the tables have rows once sysUpTime isn't 0 any more (RFC 2021, TimeFilter)
abbrev pub is_up : (now : ℕ) → Bool
is_up now = nat_lt 0 (now / 10)

-- A row whose last contribution came at a tick stands then at each mark up to it.
abbrev pub stands_at : (now mark last : ℕ) → Bool
stands_at now mark last = is_up now && nat_le mark last

-- what contributions add up to
abbrev pub sum_of : {G : Type 0} → (G → ℕ) → List (Contribution G) → ℕ
sum_of count contributions = sum_by (λ brings. count brings.gain) contributions

-- the rows of a table by their names: which there are, what has come to each, and when it was made and when the last of that came, in
-- hundredths of a second
pub record MarkedRows (X G : Type 0) : Type 0 where
  pub is_there : X → Bool
  pub contributions : X → List (Contribution G)
  pub created : X → ℕ
  pub last : X → ℕ

-- whether a row stands at a mark at a moment in milliseconds
abbrev pub has_row : {X G : Type 0} → MarkedRows X G → (now mark : ℕ) → X → Bool
has_row rows now mark x = rows.is_there x && stands_at now mark (rows.last x)

module _ {K G : Type 0} (layer : Layer K G) (eq : K → K → Bool) (settings : Counting) (journal : Journal) (row : ℕ) where
  -- whether the control row is active after the journal
  abbrev pub is_active_now : Bool
  is_active_now = is_active layer.control journal row

  abbrev pub seen_events : List (Event K G)
  seen_events = events (side_of layer settings row) journal

  abbrev pub room : ℕ
  room = room_for layer.control journal row settings

  -- the network rows, by their keys
  abbrev pub network_rows : MarkedRows K G
  network_rows = record {
    is_there = λ key. is_active_now && is_held eq room key seen_events;
    contributions = λ key. contributions eq room key seen_events;
    created = λ key. entry_tick eq room key seen_events;
    last = λ key. last_tick eq key (span seen_events);
  }

  -- the application rows, by their keys and the local indexes of their protocols
  abbrev pub application_rows : MarkedRows (K × ℕ) G
  application_rows = record {
    is_there = λ x. is_active_now && exists eq room x.0 x.1 seen_events;
    contributions = λ x. application_contributions eq room x.0 x.1 seen_events;
    created = λ x. first_tick (application_contributions eq room x.0 x.1 seen_events);
    last = λ x. newest_tick (application_contributions eq room x.0 x.1 seen_events);
  }

  -- how many rows were entered since the control row became active, and how many of these are gone; 0 where it isn't active
  abbrev pub if_active : ℕ → ℕ
  if_active number = if is_active_now then number else 0

  abbrev pub networks_entered : ℕ
  networks_entered = if_active (network_inserts eq room seen_events)

  abbrev pub networks_gone : ℕ
  networks_gone = if_active (network_deletes eq room seen_events)

  abbrev pub applications_entered : ℕ
  applications_entered = if_active (application_inserts eq room seen_events)

  abbrev pub applications_gone : ℕ
  applications_gone = if_active (application_deletes eq room seen_events)
