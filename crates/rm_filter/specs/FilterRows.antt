-- The columns of a row of filterTable, as they are kept.
use Rattle.std.specs.Prelude.{ℕ, pos, List, [], ◌∷◌, nat_eq, if◌then◌else◌, Option, None, refl}
use Rattle.rm_val.specs.Val.{Val, int}
use Rattle.rm_model.specs.ControlTable.{number, up_from, needed_column, owner_column}
use Rattle.rm_acts.specs.Filters.{filter_table, packet_column, natural_column}
use Rattle.rm_columns.specs.Kinds.{texts, numbers, needed_numbers}
use Rattle.rm_columns.specs.RowForm.{RowForm}
use Rattle.rm_columns.proofs.ColumnLaws.{no_columns, one_more}
use Rattle.rm_columns.proofs.RowForms.{row_form}
use Rattle.rm_filter.specs.declared.filter_row.FilterRow.{FilterRow}

-- the numbers of the columns
abbrev pub filter_columns : List ℕ
filter_columns = 1 ∷ 2 ∷ 3 ∷ 4 ∷ 5 ∷ 6 ∷ 7 ∷ 8 ∷ 9 ∷ 10 ∷ 11 ∷ []

-- what each column was set to; those that weren't set count as set to their default, but for the channel
abbrev pub set_to : FilterRow → ℕ → Option Val
set_to row n =
    if nat_eq 2 n then needed_numbers.shown row.channel
    else if nat_eq 3 n then numbers.shown row.offset
    else if nat_eq 4 n then (texts 128).shown row.pkt_data
    else if nat_eq 5 n then (texts 128).shown row.mask
    else if nat_eq 6 n then (texts 128).shown row.not_mask
    else if nat_eq 7 n then numbers.shown row.status
    else if nat_eq 8 n then numbers.shown row.status_mask
    else if nat_eq 9 n then numbers.shown row.status_not_mask
    else if nat_eq 10 n then (texts 127).shown row.owner
    else None

-- a new row, whatever its index
abbrev pub blank_row : FilterRow
blank_row = record {
  channel = None;
  offset = pos 0;
  pkt_data = record { items = [] };
  mask = record { items = [] };
  not_mask = record { items = [] };
  status = pos 0;
  status_mask = pos 0;
  status_not_mask = pos 0;
  owner = record { items = [] };
}

-- a row with one of its columns set
abbrev pub with_column : FilterRow → ℕ → Val → FilterRow
with_column row n value = record {
  channel = if nat_eq 2 n then needed_numbers.taken value else row.channel;
  offset = if nat_eq 3 n then numbers.taken value else row.offset;
  pkt_data = if nat_eq 4 n then (texts 128).taken value else row.pkt_data;
  mask = if nat_eq 5 n then (texts 128).taken value else row.mask;
  not_mask = if nat_eq 6 n then (texts 128).taken value else row.not_mask;
  status = if nat_eq 7 n then numbers.taken value else row.status;
  status_mask = if nat_eq 8 n then numbers.taken value else row.status_mask;
  status_not_mask = if nat_eq 9 n then numbers.taken value else row.status_not_mask;
  owner = if nat_eq 10 n then (texts 127).taken value else row.owner;
}

-- the form of the rows
abbrev pub filter_rows : RowForm FilterRow
filter_rows =
    row_form filter_table filter_columns set_to blank_row with_column (λ n. refl)
    (λ row n value.
    one_more needed_numbers (needed_column 2 (number (up_from 1 65535)) (int (pos 0))) refl _ n value row.channel _ _
    (one_more numbers (natural_column 3) refl _ n value row.offset _ _
    (one_more (texts 128) (packet_column 4) refl _ n value row.pkt_data _ _
    (one_more (texts 128) (packet_column 5) refl _ n value row.mask _ _
    (one_more (texts 128) (packet_column 6) refl _ n value row.not_mask _ _
    (one_more numbers (natural_column 7) refl _ n value row.status _ _
    (one_more numbers (natural_column 8) refl _ n value row.status_mask _ _
    (one_more numbers (natural_column 9) refl _ n value row.status_not_mask _ _
    (one_more (texts 127) (owner_column 10) refl [] n value row.owner _ _ (no_columns n value))))))))))
    refl refl refl refl refl
