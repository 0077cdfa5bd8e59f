-- What rows show, by the events.
use Rattle.std.specs.Prelude.{ℕ, Bool, cond, List, Option, Some, None}
use Rattle.rm_evicting.specs.declared.Row.{Row}
use Rattle.rm_evicting.specs.Stands.{total}
use Rattle.rm_evicting.specs.Held.{last_tick}
use Rattle.rm_layers.specs.Event.{Event, span}
use Rattle.rm_layers.specs.Network.{is_held, entry_tick, contributions, application_contributions}
use Rattle.rm_layers.specs.Applications.{Application, application_of, application_at}
use Rattle.rm_upper.specs.declared.counts.Counted.{Counted}
use Rattle.rm_upper.specs.declared.slots.Slot.{Slot}
use Rattle.rm_upper.specs.Kept.{NetworkRow}
use Rattle.rm_upper.specs.Tally.{Tally}
use Rattle.rm_upper.specs.Shown.{shown_all, protocols}

abbrev pub counted : {A : Type 0} → Option (Application A) → Option (Counted A)
counted None = None
counted (Some application) = Some (record { created = application.created; tick = application.tick; sums = application.sums })

module _ {K N A : Type 0} (tally : Tally N A) (eq : K → K → Bool) (capacity : ℕ) where
  -- the network row of a key, while it exists: the ticks of its entry and of its last reference, and its sums since its entry
  abbrev pub network_row : K → List (Event K N) → Option (Counted N)
  network_row key events = cond (is_held eq capacity key events)
      (Some (record {
        created = entry_tick eq capacity key events;
        tick = last_tick eq key (span events);
        sums = total tally.blank (λ sums brings. tally.add sums brings.gain) (contributions eq capacity key events);
      }))
      None

  -- the application row of a key and a protocol, while it exists: the ticks of its first and of its last contribution, and its sums
  abbrev pub application_row : K → ℕ → List (Event K N) → Option (Counted A)
  application_row key protocol events = cond (is_held eq capacity key events)
      (counted (application_of tally.none tally.more (application_contributions eq capacity key protocol events)))
      None

-- what is kept of a network row, and of the application row of a protocol in it
abbrev pub counted_by : {N : Type 0} → ℕ → Option ℕ → N → Option (Counted N)
counted_by tick None sums = None
counted_by tick (Some created) sums = Some (record { created = created; tick = tick; sums = sums })

abbrev pub network_in : {K N A : Type 0} → Option (Row K (NetworkRow N A)) → Option (Counted N)
network_in None = None
network_in (Some row) = counted_by row.tick row.value.created row.value.sums

abbrev pub application_in_row : {K N A : Type 0} → List (Option Slot) → ℕ → Option (Row K (NetworkRow N A)) → Option (Counted A)
application_in_row slots protocol None = None
application_in_row slots protocol (Some row) = counted (application_at protocol (protocols slots) (shown_all slots row.value.applications))
