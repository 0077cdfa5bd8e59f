-- The groups whose variables alarms may sample, as one group: etherStats and the tables that collect what frames bring, the directory of protocols
-- with what counts by it, and the filters, channels and buffers. Where more than one had a variable of a name, or found something wrong with a
-- binding, the first one's would count.
use Rattle.std.specs.Prelude.{◌≡◌, ℕ, List, ◌∷◌, Bool, ◌||◌, ◌⊎◌, max, Option}
use Rattle.std.specs.Option.{option_or}
use Rattle.rm_val.specs.Val.{Val}
use Rattle.rm_val.specs.declared.error.ErrorStatus.{ErrorStatus}
use Rattle.rm_model.specs.Counting.{Counting}
use Rattle.rm_model.specs.Journal.{Act, Journal}
use Rattle.rm_model.specs.Cells.{Cells, cells_of}
use Rattle.rm_model.specs.Judgement.{Bindings, second_pass, rows_after}
use Rattle.rm_acts.specs.declared.firing.Firing.{Firing}
use Rattle.rm_group.specs.Both.{StandAsOne}
use Rattle.rm_group.specs.declared.due.Due.{Due}
use Rattle.rm_group.specs.Listed.{is_listed, is_settable}
use Rattle.rm_ether.specs.EtherStats.{ether_stats, ether_beginning, ether_table}
use Rattle.rm_ether.specs.Group.{Stands as EtherStands, AreFine as IsEtherFine, frames_given as ether_frames, last_given as ether_last, ether_tables, ether_alone}
use Rattle.rm_ether.specs.Shown.{rows_table}
use Rattle.rm_settings.specs.declared.settings.Settings.{Settings}
use Rattle.rm_collectors.specs.Group.{Stands as CollectorsStand, IsSetTo as AreCollectorsSetTo, IsAskable as AreCollectorsAskable, IsStocked as AreCollectorsStocked, AreFine as AreCollectorsFine, ArePrepared as AreCollectorsPrepared, AreReleased as AreCollectorsReleased, FallsDue as ReportsFallDue, left_of as reports_left, frames_given as collectors_frames, last_given as collectors_last, shown as collectors_shown, collected_cells, collected_objects, collected_settable, collected_alone, collected_together, CollectedReserves}
use Rattle.rm_collectors.specs.declared.collectors.Collectors.{Collectors}
use Rattle.rm_protocols.specs.Group.{Stands as ProtocolsStand, AreFine as AreProtocolsFine, ArePrepared as AreProtocolsPrepared, IsStocked as AreProtocolsStocked, AreReleased as AreProtocolsReleased, frames_given as protocols_frames, last_given as protocols_last, shown as protocols_shown, protocol_cells, distributed_cells, protocol_objects, protocol_settable, protocol_alone, protocol_together, ProtocolReserves}
use Rattle.rm_channels.specs.Group.{Stands as ChannelsStand, IsUnderWay as ChannelsUnderWay, IsStocked as AreChannelsStocked, AreFine as AreChannelsFine, ArePrepared as AreChannelsPrepared, AreReleased as AreChannelsReleased, frames_given as channels_frames, last_given as channels_last, shown as channels_shown, channel_cells, channel_sampleable, channel_objects, channel_settable, channel_alone, channel_together, ChannelReserves}
use Rattle.rm_sources.specs.declared.sources.Sources.{Sources}

-- the probe was set so, as the model's settings have it
pub record IsSetTo (settings : Settings) (counting : Counting) : Type 0 where
  pub interfaces : counting.interfaces ≡ settings.interfaces
  pub collectors : AreCollectorsSetTo settings counting
  pub upper : counting.upper ≡ settings.upper

-- the history, the hosts with their reports, and the matrix
abbrev pub collectors_of : Sources → Collectors
collectors_of held = held.groups.first.second

-- It stands for a journal where each of the four does.
unfoldable pub Stands : Sources → Counting → Journal → Type 0
Stands held settings journal =
    StandAsOne (StandAsOne (EtherStands held.groups.first.first settings journal) (CollectorsStand (collectors_of held) settings journal) (Unit {0}))
    (StandAsOne (ProtocolsStand held.groups.second.first settings journal) (ChannelsStand held.groups.second.second settings journal) (Unit {0}))
    (Unit {0})

-- The group is in an act, which is no Set, after a journal, of which the channels have taken these firings. The others have taken the act: no
-- firing makes a difference to them.
pub record IsUnderWay (held : Sources) (settings : Counting) (act : Act) (earlier : Journal) (some : List Firing) : Type 0 where
  pub ether : EtherStands held.groups.first.first settings (act ∷ earlier)
  pub collectors : CollectorsStand (collectors_of held) settings (act ∷ earlier)
  pub protocols : ProtocolsStand held.groups.second.first settings (act ∷ earlier)
  pub channels : ChannelsUnderWay held.groups.second.second settings act earlier some

-- it may be asked at a moment where the reports of hosts that are due have ended, and the others may always be asked
abbrev pub IsAskable : Sources → (moment : ℕ) → Type 0
IsAskable held moment = (Unit {0} × AreCollectorsAskable (collectors_of held) moment) × (Unit {0} × (Unit {0} × Unit {0}))

-- What falls due is the end of a report of hosts that runs, and so many are left that end up to a moment.
abbrev pub FallsDue : Sources → Due → Type 0
FallsDue held = ReportsFallDue (collectors_of held)

abbrev pub left_of : Sources → (latest : ℕ) → ℕ
left_of held = reports_left (collectors_of held)

-- how many frames it was given, and the moment of the frame, the Set or the end of a report that it was given last, 0 before the first
abbrev pub frames_given : Sources → ℕ
frames_given held =
    max (max (ether_frames held.groups.first.first) (collectors_frames (collectors_of held))) (max (protocols_frames held.groups.second.first) (channels_frames held.groups.second.second))

abbrev pub last_given : Sources → ℕ
last_given held =
    max (max (ether_last held.groups.first.first) (collectors_last (collectors_of held))) (max (protocols_last held.groups.second.first) (channels_last held.groups.second.second))

-- there is the storage of one row of each table whose rows take storage, whether it is spare or not
abbrev pub IsStocked : Sources → Type 0
IsStocked held = (Unit {0} × AreCollectorsStocked (collectors_of held)) × (AreProtocolsStocked held.groups.second.first × AreChannelsStocked held.groups.second.second)

-- the cells of all tables
unfoldable pub source_cells : Counting → Journal → (now : ℕ) → Cells
source_cells settings journal now name =
    option_or (option_or (cells_of (ether_table settings journal) name) (collected_cells settings journal now name))
    (option_or (protocol_cells settings journal now name) (channel_cells settings journal now name))

-- Those that alarms may sample, after a journal and by what is held: of the directory none, and of filters, channels and buffers those of
-- channelTable and bufferControlTable.
unfoldable pub sampled_cells : Counting → Journal → (now : ℕ) → Cells
sampled_cells settings journal now name =
    option_or (option_or (cells_of (ether_table settings journal) name) (collected_cells settings journal now name))
    (option_or (distributed_cells settings journal name) (channel_sampleable settings journal now name))

abbrev pub shown : Sources → (now : ℕ) → Cells
shown held now name =
    option_or (option_or (cells_of (rows_table held.groups.first.first.rows) name) (collectors_shown (collectors_of held) now name))
    (option_or (protocols_shown held.groups.second.first name) (channels_shown held.groups.second.second now name))

-- whether a name begins with the identifier of an object of one of the tables, and whether that can be set
unfoldable pub source_objects : List ℕ → Bool
source_objects name = (is_listed ether_tables name || collected_objects name) || (protocol_objects name || channel_objects name)

unfoldable pub source_settable : List ℕ → Bool
source_settable name = (is_settable ether_stats name || collected_settable name) || (protocol_settable name || channel_settable name)

-- what is wrong with a binding alone, and together with the others of its row
unfoldable pub source_alone : List ℕ → Val → Option ErrorStatus
source_alone name value =
    option_or (option_or (ether_alone name value) (collected_alone name value)) (option_or (protocol_alone name value) (channel_alone name value))

unfoldable pub source_together : Counting → Journal → Bindings → (place : ℕ) → Option ErrorStatus
source_together settings journal bindings place =
    option_or (option_or (second_pass ether_stats (rows_after ether_stats (ether_beginning settings) journal) bindings place) (collected_together journal bindings place))
    (option_or (protocol_together journal bindings place) (channel_together journal bindings place))

-- After a journal there may be no memory for the row that the binding with that number, from 1, makes valid.
unfoldable pub SourceReserves : Journal → Bindings → (index : ℕ) → Type 0
SourceReserves journal bindings index = (⊥ ⊎ CollectedReserves journal bindings index) ⊎ (ProtocolReserves journal bindings index ⊎ ChannelReserves journal bindings index)

-- both passes find nothing wrong with a Set, by the rows that are held; there is storage for each row that is valid after it, too; there is
-- storage for the valid rows only, or for one row of each table where none is valid
abbrev pub AreFine : Sources → Bindings → Type 0
AreFine held bindings =
    (IsEtherFine held.groups.first.first bindings × AreCollectorsFine (collectors_of held) bindings)
    × (AreProtocolsFine held.groups.second.first bindings × AreChannelsFine held.groups.second.second bindings)

abbrev pub ArePrepared : Sources → Bindings → Type 0
ArePrepared held bindings =
    (IsEtherFine held.groups.first.first bindings × AreCollectorsPrepared (collectors_of held) bindings)
    × (AreProtocolsPrepared held.groups.second.first bindings × AreChannelsPrepared held.groups.second.second bindings)

abbrev pub AreReleased : Sources → Type 0
AreReleased held = (Unit {0} × AreCollectorsReleased (collectors_of held)) × (AreProtocolsReleased held.groups.second.first × AreChannelsReleased held.groups.second.second)
