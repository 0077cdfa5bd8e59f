-- What channelTable shows, by the rows that are kept.
use Rattle.std.specs.Prelude.{ℕ, pos, List, nat_eq, if◌then◌else◌, Option, Some, None}
use Rattle.std.specs.Option.{option_map_or}
use Rattle.rm_val.specs.Val.{Val, int, counter}
use Rattle.rm_model.specs.Cells.{Table, instance_of}
use Rattle.rm_model.specs.declared.instance.Instance.{Instance}
use Rattle.rm_status.specs.declared.row.Row.{Row}
use Rattle.rm_status.specs.Rows.{row_in, columns_in, row_number}
use Rattle.rm_status.specs.RowsShown.{rows_shown}
use Rattle.rm_acts.specs.Channels.{channel_entry}
use Rattle.rm_filter.specs.declared.channel.Channel.{Channel}
use Rattle.rm_filter.specs.ChannelForm.{channel_form}
use Rattle.rm_filter.specs.ChannelRows.{channel_columns}
use Rattle.rm_filter.specs.DataControl.{control_number}
use Rattle.rm_filter.specs.EventStatus.{status_number}

-- what the column shows beside the index that can't be set: channelMatches
abbrev pub kept_other : List (Row Channel) → ℕ → List ℕ → Val
kept_other rows column index = counter (option_map_or (λ row. row.columns.matches) (row_in rows (row_number index)) 0)

-- the numbers of the present DataControl and EventStatus of a channel
abbrev pub control_in : List (Row Channel) → (index : ℕ) → ℕ
control_in rows index = option_map_or (λ channel. control_number channel.control) (columns_in rows index) 0

abbrev pub status_in : List (Row Channel) → (index : ℕ) → ℕ
status_in rows index = option_map_or (λ channel. status_number channel.status) (columns_in rows index) 0

-- what a column shows, by what was set
abbrev pub present_value : List (Row Channel) → (column index : ℕ) → Val → Val
present_value rows column index value =
    if nat_eq column 4 then int (pos (control_in rows index))
    else if nat_eq column 8 then int (pos (status_in rows index))
    else value

-- channelTable with DataControl and EventStatus as they were set last, and as they are at present
abbrev pub set_kept : List (Row Channel) → Table
set_kept rows = rows_shown channel_form (kept_other rows) rows

abbrev pub channels_kept : List (Row Channel) → Table
channels_kept rows = record (set_kept rows) {
  value = λ column index. present_value rows column (row_number index) ((set_kept rows).value column index);
}

-- what it shows at an instance, and under a name, by what was set
abbrev pub present_at : List (Row Channel) → Instance → Val → Val
present_at rows at value = present_value rows at.column (row_number at.index) value

abbrev pub present_where : List (Row Channel) → Option Instance → Val → Val
present_where rows None value = value
present_where rows (Some at) value = present_at rows at value

abbrev pub with_present : List (Row Channel) → (name : List ℕ) → Val → Val
with_present rows name value = present_where rows (instance_of channel_entry channel_columns name) value
