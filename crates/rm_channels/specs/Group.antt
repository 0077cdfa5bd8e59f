-- Filters and channels, and buffers, as one group. Where more than one had a variable of a name, or found something wrong with a binding,
-- the first one's would count.
use Rattle.std.specs.Prelude.{ℕ, List, ◌∷◌, Bool, ◌||◌, ◌⊎◌, max, Option}
use Rattle.std.specs.Option.{option_or}
use Rattle.rm_val.specs.Val.{Val}
use Rattle.rm_val.specs.declared.error.ErrorStatus.{ErrorStatus}
use Rattle.rm_model.specs.Counting.{Counting}
use Rattle.rm_model.specs.Journal.{Act, Journal}
use Rattle.rm_model.specs.Cells.{Cells, cells_of}
use Rattle.rm_model.specs.ControlRows.{no_rows}
use Rattle.rm_model.specs.Judgement.{Bindings, second_pass, rows_after}
use Rattle.rm_model.specs.Reserves.{Reserves}
use Rattle.rm_group.specs.Both.{StandAsOne}
use Rattle.rm_group.specs.Listed.{is_listed, is_settable}
use Rattle.rm_acts.specs.declared.firing.Firing.{Firing}
use Rattle.rm_acts.specs.Shown.{channels_shown}
use Rattle.rm_collect.specs.Collection.{alone, sampled}
use Rattle.rm_collect.specs.Group.{Stands as HeldStands, IsStocked as IsHeldStocked, IsReleased, AreFine as AreHeldFine, IsPrepared, frames_given as frames_of, last_given as last_of}
use Rattle.rm_filter.specs.Group.{filter_cells, filters_alone, filters_together, group_tables, are_settable}
use Rattle.rm_filter.specs.Shown.{channels_kept}
use Rattle.rm_filter.specs.Standing.{Stands as FiltersStand, IsUnderWay as AreFiltersUnderWay, AreFine as AreFiltersFine}
use Rattle.rm_capture.specs.BufferRows.{buffer_rows}
use Rattle.rm_capture.specs.Collection.{buffer_collection}
use Rattle.rm_channels.specs.declared.channels.Channels.{Channels}

-- It stands for a journal where both do.
abbrev pub Stands : Channels → Counting → Journal → Type 0
Stands held settings journal =
    StandAsOne (FiltersStand held.groups.first settings journal) (HeldStands buffer_rows buffer_collection held.groups.second settings journal) (Unit {0})

-- The group is in an act, which is no Set, after a journal, of which the channels have taken these firings. Buffers have taken the act:
-- what they keep goes by the channels as they were before it.
pub record IsUnderWay (held : Channels) (settings : Counting) (act : Act) (earlier : Journal) (some : List Firing) : Type 0 where
  pub channels : AreFiltersUnderWay held.groups.first settings act earlier some
  pub buffers : HeldStands buffer_rows buffer_collection held.groups.second settings (act ∷ earlier)

-- how many frames it was given, and the moment of the frame or the Set that it was given last, 0 before the first
abbrev pub frames_given : Channels → ℕ
frames_given held = max 0 (frames_of held.groups.second)

abbrev pub last_given : Channels → ℕ
last_given held = max 0 (last_of held.groups.second)

-- there is the storage of one buffer, whether it is spare or not
abbrev pub IsStocked : Channels → Type 0
IsStocked held = Unit {0} × IsHeldStocked held.groups.second

-- the cells of all tables
abbrev pub channel_cells : Counting → Journal → (now : ℕ) → Cells
channel_cells settings journal now name = option_or (filter_cells settings journal name) (buffer_collection.cells settings journal now name)

-- those that alarms may sample, after a journal and by what is held
abbrev pub channel_sampleable : Counting → Journal → (now : ℕ) → Cells
channel_sampleable settings journal now name = option_or (cells_of (channels_shown settings journal) name) (buffer_collection.sampleable settings journal now name)

abbrev pub shown : Channels → (now : ℕ) → Cells
shown held now name =
    option_or (cells_of (channels_kept held.groups.first.tables.second.rows) name) (sampled buffer_rows buffer_collection held.groups.second.rows held.groups.second.parts now name)

-- whether a name begins with the identifier of an object of one of the tables, and whether that can be set
abbrev pub channel_objects : List ℕ → Bool
channel_objects name = is_listed group_tables name || is_listed buffer_collection.tables name

abbrev pub channel_settable : List ℕ → Bool
channel_settable name = are_settable name || is_settable buffer_rows.table name

-- what is wrong with a binding alone, and together with the others of its row
abbrev pub channel_alone : List ℕ → Val → Option ErrorStatus
channel_alone name value = option_or (filters_alone name value) (alone buffer_rows buffer_collection name value)

abbrev pub channel_together : Journal → Bindings → (place : ℕ) → Option ErrorStatus
channel_together journal bindings place =
    option_or (filters_together journal bindings place) (second_pass buffer_rows.table (rows_after buffer_rows.table no_rows journal) bindings place)

-- there may be no memory for a buffer that the binding with that number, from 1, makes valid beside another
abbrev pub ChannelReserves : Journal → Bindings → (index : ℕ) → Type 0
ChannelReserves journal bindings index = ⊥ ⊎ Reserves buffer_rows.table (rows_after buffer_rows.table no_rows journal) bindings index

-- both passes find nothing wrong with a Set, by the rows that are held; there is storage for each buffer that is valid after it, too; there
-- is storage for the valid ones only, or for one where none is valid
abbrev pub AreFine : Channels → Bindings → Type 0
AreFine held bindings = AreFiltersFine held.groups.first bindings × AreHeldFine buffer_rows buffer_collection held.groups.second bindings

abbrev pub ArePrepared : Channels → Bindings → Type 0
ArePrepared held bindings = AreFiltersFine held.groups.first bindings × IsPrepared buffer_rows buffer_collection held.groups.second bindings

abbrev pub AreReleased : Channels → Type 0
AreReleased held = Unit {0} × IsReleased buffer_rows held.groups.second
