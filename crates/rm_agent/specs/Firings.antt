-- The firings of an act, as they are taken.
use Rattle.std.specs.Prelude.{List, [], ◌∷◌, filter, filter_map}
use Rattle.rm_model.specs.Journal.{Journal}
use Rattle.rm_acts.specs.Events.{event_table}
use Rattle.rm_acts.specs.Rows.{has_valid}
use Rattle.rm_acts.specs.declared.firing.Firing.{Firing}
use Rattle.rm_event.specs.declared.fired.Fired.{Fired}
use Rattle.rm_event.specs.declared.fired.Fired.TheVariants as became
use Rattle.rm_filter.specs.Judging.{firing_asked}
use Rattle.rm_filter.specs.declared.accepted.Accepted.{Accepted}

-- a firing, by what becomes of its event: one without a valid row doesn't fire
abbrev pub firings_by : Firing → Fired → List Firing
firings_by firing became.Absent = []
firings_by firing other = firing ∷ []

-- the firings that channels ask for which accept a frame, those by events with a valid row
abbrev pub firings_asked : Journal → List Accepted → List Firing
firings_asked journal accepting = filter (λ firing. has_valid event_table journal firing.event) (filter_map firing_asked accepting)
