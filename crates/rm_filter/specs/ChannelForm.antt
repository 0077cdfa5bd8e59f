-- A row of channelTable as it is kept: what it was set to, and the present state of the channel.
use Rattle.std.specs.Prelude.{ℕ, nat_eq, if◌then◌else◌, Option}
use Rattle.rm_val.specs.Val.{Val}
use Rattle.rm_acts.specs.Channels.{channel_table}
use Rattle.rm_columns.specs.RowForm.{RowForm}
use Rattle.rm_filter.specs.declared.channel.Channel.{Channel}
use Rattle.rm_filter.specs.declared.channel_row.ChannelRow.{ChannelRow}
use Rattle.rm_filter.specs.declared.data_control.DataControl.TheVariants.{Off}
use Rattle.rm_filter.specs.declared.event_status.EventStatus.TheVariants.{Ready}
use Rattle.rm_filter.specs.DataControl.{data_controls}
use Rattle.rm_filter.specs.EventStatus.{event_statuses}
use Rattle.rm_filter.specs.ChannelRows as row

-- what each column was set to
abbrev pub set_to : Channel → ℕ → Option Val
set_to channel n = row.set_to channel.set n

-- a new channel is off and ready, and has accepted nothing
abbrev pub blank_channel : Channel
blank_channel = record { set = row.blank_row; control = Off; status = Ready; matches = 0 }

abbrev pub new_channel : ℕ → Channel
new_channel index = blank_channel

-- a column that is set is so at present
abbrev pub with_column : Channel → ℕ → Val → Channel
with_column channel n value = record {
  set = row.with_column channel.set n value;
  control = if nat_eq 4 n then data_controls.taken value else channel.control;
  status = if nat_eq 8 n then event_statuses.taken value else channel.status;
  matches = channel.matches;
}

-- the form of the rows
abbrev pub channel_form : RowForm Channel
channel_form = record {
  table = channel_table;
  shown = row.channel_columns;
  set_to = set_to;
  blank = new_channel;
  with_column = with_column;
  blank_alike = row.channel_rows.blank_alike;
  set_with = λ channel n other value fine. row.channel_rows.set_with channel.set n other value fine;
  sound = row.channel_rows.sound;
  apart = row.channel_rows.apart;
  rising = row.channel_rows.rising;
  named = row.channel_rows.named;
}

-- the columns with the present state in place of what was set
abbrev pub present_row : Channel → ChannelRow
present_row channel = record channel.set { data_control = channel.control; event_status = channel.status }
