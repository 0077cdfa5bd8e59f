-- The groups of filterTable and of channelTable, as a caller sees them.
use Rattle.std.specs.Prelude.{◌≡◌, ℕ, ◌%◌, ◌^◌, List, [], ◌∷◌, Option, Some}
use Rattle.rm_val.specs.Val.{Val, null}
use Rattle.rm_val.specs.declared.error.ErrorStatus.{ErrorStatus}
use Rattle.rm_model.specs.Counting.{Counting}
use Rattle.rm_model.specs.Journal.{Journal}
use Rattle.rm_model.specs.Cells.{Table}
use Rattle.rm_model.specs.ControlRows.{no_rows}
use Rattle.rm_model.specs.ControlCells.{control_cells}
use Rattle.rm_model.specs.Judgement.{Bindings, place_of, alone_fault}
use Rattle.rm_status.specs.declared.row.Row.{Row}
use Rattle.rm_status.specs.Fine.{AreFine}
use Rattle.rm_status.specs.Rows.{row_in}
use Rattle.rm_status.specs.RowsShown.{with_index}
use Rattle.rm_status.specs.RowsAfter.{AreRowsAfter}
use Rattle.rm_group.specs.Listed.{ListedTable}
use Rattle.rm_acts.specs.Filters.{filter_table}
use Rattle.rm_acts.specs.Channels.{channel_entry, channel_table, match_count}
use Rattle.rm_acts.specs.Fired.{Fired, fired, present, data_control, event_status}
use Rattle.rm_filter.specs.declared.channel.Channel.{Channel}
use Rattle.rm_filter.specs.declared.channel_table.ChannelTable.{ChannelTable}
use Rattle.rm_filter.specs.declared.filter_table.FilterTable.{FilterTable}
use Rattle.rm_filter.specs.FilterRows as filter
use Rattle.rm_filter.specs.ChannelRows as row
use Rattle.rm_filter.specs.ChannelForm as channel
use Rattle.rm_filter.specs.DataControl.{control_number}
use Rattle.rm_filter.specs.EventStatus.{status_number}

-- the rows of filterTable are those after a journal
abbrev pub HasFilters : FilterTable → Journal → Type 0
HasFilters filters journal = AreRowsAfter filter_table no_rows filter.set_to filters.rows journal

-- every column of filterTable but the index can be set
abbrev pub nothing_else : ℕ → List ℕ → Val
nothing_else column index = null

-- filterTable after a journal
abbrev pub filters_shown : Journal → Table
filters_shown journal = control_cells filter_table no_rows filter.filter_columns (with_index nothing_else) journal

-- The present state of a channel is what a journal and its firings give: whether it is on, whether it may fire, and how many
-- packets it accepted since it became valid.
pub record IsPresent (settings : Counting) (journal : Journal) (before : Fired) (index : ℕ) (channel : Channel) : Type 0 where
  pub control : control_number channel.control ≡ present data_control journal before index
  pub status : status_number channel.status ≡ present event_status journal before index
  pub matches : channel.matches ≡ match_count settings journal index % 2 ^ 32

-- so is that of each row
abbrev pub ArePresent : List (Row Channel) → Counting → Journal → Fired → Type 0
ArePresent rows settings journal before =
    (index : ℕ) (row : Row Channel) → row_in rows index ≡ Some row → IsPresent settings journal before index row.columns

-- the rows of channelTable are those after a journal, with the present state of each channel
pub record HasChannels (channels : ChannelTable) (settings : Counting) (journal : Journal) : Type 0 where
  pub rows : AreRowsAfter channel_table no_rows channel.set_to channels.rows journal
  pub present : ArePresent channels.rows settings journal (fired settings journal)

-- channelTable as a list of tables
abbrev pub channel_tables : List ListedTable
channel_tables = record { entry = channel_entry; columns = row.channel_columns } ∷ []

-- what is wrong with a binding alone
abbrev pub filter_alone : List ℕ → Val → Option ErrorStatus
filter_alone name value = alone_fault filter_table (place_of filter_table name) value

abbrev pub channel_alone : List ℕ → Val → Option ErrorStatus
channel_alone name value = alone_fault channel_table (place_of channel_table name) value

-- both passes find nothing wrong with a Set, by the rows that are kept
abbrev pub AreFiltersFine : FilterTable → Bindings → Type 0
AreFiltersFine filters = AreFine filter.filter_rows filters.rows

abbrev pub AreChannelsFine : ChannelTable → Bindings → Type 0
AreChannelsFine channels = AreFine channel.channel_form channels.rows
