-- The columns of a row of channelTable, as they are kept.
use Rattle.std.specs.Prelude.{ℕ, pos, List, [], ◌∷◌, nat_eq, if◌then◌else◌, Option, None, refl}
use Rattle.rm_val.specs.Val.{Val, int}
use Rattle.rm_model.specs.ControlTable.{number, up_from, plain_column, always_column, text_column, owner_column}
use Rattle.rm_model.specs.declared.interface.TheConstants.{INTERFACES}
use Rattle.rm_acts.specs.Channels.{channel_table, event_column}
use Rattle.rm_columns.specs.Kinds.{texts, naturals}
use Rattle.rm_columns.specs.RowForm.{RowForm}
use Rattle.rm_columns.proofs.ColumnLaws.{no_columns, one_more}
use Rattle.rm_columns.proofs.RowForms.{row_form}
use Rattle.rm_filter.specs.declared.channel_row.ChannelRow.{ChannelRow}
use Rattle.rm_filter.specs.declared.accept_type.AcceptType.TheVariants.{Matched}
use Rattle.rm_filter.specs.declared.data_control.DataControl.TheVariants.{Off}
use Rattle.rm_filter.specs.declared.event_status.EventStatus.TheVariants.{Ready}
use Rattle.rm_filter.specs.AcceptType.{accept_types}
use Rattle.rm_filter.specs.DataControl.{data_controls}
use Rattle.rm_filter.specs.EventStatus.{event_statuses}

-- the numbers of the columns
abbrev pub channel_columns : List ℕ
channel_columns = 1 ∷ 2 ∷ 3 ∷ 4 ∷ 5 ∷ 6 ∷ 7 ∷ 8 ∷ 9 ∷ 10 ∷ 11 ∷ 12 ∷ []

-- what each column was set to; those that weren't set count as set to their default
abbrev pub set_to : ChannelRow → ℕ → Option Val
set_to row n =
    if nat_eq 2 n then (naturals 1 65535).shown row.interface
    else if nat_eq 3 n then accept_types.shown row.accept_type
    else if nat_eq 4 n then data_controls.shown row.data_control
    else if nat_eq 5 n then (naturals 0 65535).shown row.turn_on_event
    else if nat_eq 6 n then (naturals 0 65535).shown row.turn_off_event
    else if nat_eq 7 n then (naturals 0 65535).shown row.event
    else if nat_eq 8 n then event_statuses.shown row.event_status
    else if nat_eq 10 n then (texts 127).shown row.description
    else if nat_eq 11 n then (texts 127).shown row.owner
    else None

-- a new row, whatever its index
abbrev pub blank_row : ChannelRow
blank_row = record {
  interface = 1;
  accept_type = Matched;
  data_control = Off;
  turn_on_event = 0;
  turn_off_event = 0;
  event = 0;
  event_status = Ready;
  description = record { items = [] };
  owner = record { items = [] };
}

-- a row with one of its columns set
abbrev pub with_column : ChannelRow → ℕ → Val → ChannelRow
with_column row n value = record {
  interface = if nat_eq 2 n then (naturals 1 65535).taken value else row.interface;
  accept_type = if nat_eq 3 n then accept_types.taken value else row.accept_type;
  data_control = if nat_eq 4 n then data_controls.taken value else row.data_control;
  turn_on_event = if nat_eq 5 n then (naturals 0 65535).taken value else row.turn_on_event;
  turn_off_event = if nat_eq 6 n then (naturals 0 65535).taken value else row.turn_off_event;
  event = if nat_eq 7 n then (naturals 0 65535).taken value else row.event;
  event_status = if nat_eq 8 n then event_statuses.taken value else row.event_status;
  description = if nat_eq 10 n then (texts 127).taken value else row.description;
  owner = if nat_eq 11 n then (texts 127).taken value else row.owner;
}

-- the form of the rows
abbrev pub channel_rows : RowForm ChannelRow
channel_rows =
    row_form channel_table channel_columns set_to blank_row with_column (λ n. refl)
    (λ row n value.
    one_more (naturals 1 65535) (plain_column 2 (number (up_from 1 INTERFACES)) (int (pos 1))) refl _ n value row.interface _ _
    (one_more accept_types (plain_column 3 (number (up_from 1 2)) (int (pos 1))) refl _ n value row.accept_type _ _
    (one_more data_controls (always_column 4 (number (up_from 1 2)) (int (pos 2))) refl _ n value row.data_control _ _
    (one_more (naturals 0 65535) (event_column 5) refl _ n value row.turn_on_event _ _
    (one_more (naturals 0 65535) (event_column 6) refl _ n value row.turn_off_event _ _
    (one_more (naturals 0 65535) (event_column 7) refl _ n value row.event _ _
    (one_more event_statuses (always_column 8 (number (up_from 1 3)) (int (pos 1))) refl _ n value row.event_status _ _
    (one_more (texts 127) (text_column 10) refl _ n value row.description _ _
    (one_more (texts 127) (owner_column 11) refl [] n value row.owner _ _ (no_columns n value))))))))))
    refl refl refl refl refl
