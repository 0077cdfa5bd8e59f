-- When what is kept of filters and channels is what a journal gives.
use Rattle.std.specs.Prelude.{◌≡◌, List, ◌∷◌, false}
use Rattle.rm_model.specs.Counting.{Counting}
use Rattle.rm_model.specs.Journal.{Act, Journal}
use Rattle.rm_model.specs.ControlRows.{no_rows}
use Rattle.rm_model.specs.Judgement.{Bindings}
use Rattle.rm_status.specs.RowsAfter.{AreRowsAfter}
use Rattle.rm_group.specs.Both.{StandAsOne}
use Rattle.rm_acts.specs.declared.firing.Firing.{Firing}
use Rattle.rm_acts.specs.Channels.{channel_table}
use Rattle.rm_acts.specs.Fired.{fired, is_set}
use Rattle.rm_filter.specs.declared.filters.Filters.{Filters}
use Rattle.rm_filter.specs.ChannelForm.{set_to}
use Rattle.rm_filter.specs.Judging.{AreAcceptingIn}
use Rattle.rm_filter.specs.Tables.{HasFilters, HasChannels, ArePresent, AreFiltersFine, AreChannelsFine}

-- The group stands for a journal: its rows are those after the journal, with the present state of each channel.
abbrev pub Stands : Filters → Counting → Journal → Type 0
Stands filters settings journal = StandAsOne (HasFilters filters.tables.first journal) (HasChannels filters.tables.second settings journal) (Unit {0})

-- The group is in an act, which is no Set, after a journal: each channel was turned and spent by the firings that were taken so
-- far, and a frame was counted by the channels that accept it.
pub record IsUnderWay (filters : Filters) (settings : Counting) (act : Act) (earlier : Journal) (some : List Firing) : Type 0 where
  pub unset : is_set act ≡ false
  pub filter_rows : HasFilters filters.tables.first earlier
  pub channel_rows : AreRowsAfter channel_table no_rows set_to filters.tables.second.rows earlier
  pub present : ArePresent filters.tables.second.rows settings (act ∷ earlier) (some ∷ fired settings earlier)
  pub accepting : AreAcceptingIn settings act earlier filters.accepting.items

-- both passes find nothing wrong with a Set, by the rows that are kept
abbrev pub AreFine : Filters → Bindings → Type 0
AreFine filters bindings = AreFiltersFine filters.tables.first bindings × AreChannelsFine filters.tables.second bindings
