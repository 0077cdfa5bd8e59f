-- What is kept of the columns of a row of eventTable.
use Rattle.std.specs.Prelude.{ℕ, [], nat_eq, if◌then◌else◌, Option, None, refl}
use Rattle.rm_val.specs.Val.{Val}
use Rattle.rm_model.specs.ControlTable.{text_column, owner_column}
use Rattle.rm_acts.specs.Events.{type_column}
use Rattle.rm_columns.specs.Kinds.{texts}
use Rattle.rm_columns.specs.RowForm.{RowForm}
use Rattle.rm_columns.proofs.ColumnLaws.{no_columns, one_more}
use Rattle.rm_columns.proofs.RowForms.{row_form}
use Rattle.rm_event.specs.Columns.{event_columns}
use Rattle.rm_event.specs.declared.event_row.EventRow.{EventRow}
use Rattle.rm_event.specs.declared.event_type.EventType.TheVariants as kind
use Rattle.rm_event.specs.EventTable.{event_table}
use Rattle.rm_event.specs.EventTypes.{types}

-- what each column was set to; those that weren't set count as set to their default
abbrev pub set_to : EventRow → ℕ → Option Val
set_to row n =
    if nat_eq 2 n then (texts 127).shown row.description
    else if nat_eq 3 n then types.shown row.event_type
    else if nat_eq 4 n then (texts 127).shown row.community
    else if nat_eq 6 n then (texts 127).shown row.owner
    else None

-- a new row
abbrev pub blank_row : EventRow
blank_row = record {
  description = record { items = [] };
  event_type = kind.None;
  community = record { items = [] };
  owner = record { items = [] };
}

-- a row with one of its columns set
abbrev pub with_column : EventRow → ℕ → Val → EventRow
with_column row n value = record {
  description = if nat_eq 2 n then (texts 127).taken value else row.description;
  event_type = if nat_eq 3 n then types.taken value else row.event_type;
  community = if nat_eq 4 n then (texts 127).taken value else row.community;
  owner = if nat_eq 6 n then (texts 127).taken value else row.owner;
}

-- the form of the rows
abbrev pub event_rows : RowForm EventRow
event_rows =
    row_form event_table event_columns set_to blank_row with_column (λ n. refl)
    (λ row n value.
    one_more (texts 127) (text_column 2) refl _ n value row.description _ _
    (one_more types type_column refl _ n value row.event_type _ _
    (one_more (texts 127) (text_column 4) refl _ n value row.community _ _
    (one_more (texts 127) (owner_column 6) refl [] n value row.owner _ _ (no_columns n value)))))
    refl refl refl refl refl
