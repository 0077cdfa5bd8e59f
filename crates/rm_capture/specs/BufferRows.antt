-- The columns of a row of bufferControlTable, as they are kept.
use Rattle.std.specs.Prelude.{ℕ, pos, negsuc, List, [], ◌∷◌, nat_eq, if◌then◌else◌, Option, None, refl}
use Rattle.rm_val.specs.Val.{Val, int}
use Rattle.rm_model.specs.ControlTable.{number, up_from, needed_column, plain_column, always_column, owner_column}
use Rattle.rm_acts.specs.Buffers.{buffer_table}
use Rattle.rm_columns.specs.Kinds.{texts, numbers, needed_numbers}
use Rattle.rm_columns.specs.RowForm.{RowForm}
use Rattle.rm_columns.proofs.ColumnLaws.{no_columns, one_more}
use Rattle.rm_columns.proofs.RowForms.{row_form}
use Rattle.rm_capture.specs.declared.buffer_row.BufferRow.{BufferRow}
use Rattle.rm_capture.specs.declared.full_action.FullAction.TheVariants.{Lock}
use Rattle.rm_capture.specs.FullAction.{full_actions}

-- the numbers of the columns
abbrev pub buffer_columns : List ℕ
buffer_columns = 1 ∷ 2 ∷ 3 ∷ 4 ∷ 5 ∷ 6 ∷ 7 ∷ 8 ∷ 9 ∷ 10 ∷ 11 ∷ 12 ∷ 13 ∷ []

-- what each column was set to; those that weren't set count as set to their default, but for the channel
abbrev pub set_to : BufferRow → ℕ → Option Val
set_to row n =
    if nat_eq 2 n then needed_numbers.shown row.channel
    else if nat_eq 4 n then full_actions.shown row.full_action
    else if nat_eq 5 n then numbers.shown row.slice_size
    else if nat_eq 6 n then numbers.shown row.download_slice_size
    else if nat_eq 7 n then numbers.shown row.download_offset
    else if nat_eq 8 n then numbers.shown row.requested
    else if nat_eq 12 n then (texts 127).shown row.owner
    else None

-- a new row, whatever its index
abbrev pub blank_row : BufferRow
blank_row = record {
  channel = None;
  full_action = Lock;
  slice_size = pos 100;
  download_slice_size = pos 100;
  download_offset = pos 0;
  requested = negsuc 0;
  owner = record { items = [] };
}

-- a row with one of its columns set
abbrev pub with_column : BufferRow → ℕ → Val → BufferRow
with_column row n value = record {
  channel = if nat_eq 2 n then needed_numbers.taken value else row.channel;
  full_action = if nat_eq 4 n then full_actions.taken value else row.full_action;
  slice_size = if nat_eq 5 n then numbers.taken value else row.slice_size;
  download_slice_size = if nat_eq 6 n then numbers.taken value else row.download_slice_size;
  download_offset = if nat_eq 7 n then numbers.taken value else row.download_offset;
  requested = if nat_eq 8 n then numbers.taken value else row.requested;
  owner = if nat_eq 12 n then (texts 127).taken value else row.owner;
}

-- the form of the rows
abbrev pub buffer_rows : RowForm BufferRow
buffer_rows =
    row_form buffer_table buffer_columns set_to blank_row with_column (λ n. refl)
    (λ row n value.
    one_more needed_numbers (needed_column 2 (number (up_from 1 65535)) (int (pos 0))) refl _ n value row.channel _ _
    (one_more full_actions (plain_column 4 (number (up_from 1 2)) (int (pos 1))) refl _ n value row.full_action _ _
    (one_more numbers (plain_column 5 (number (up_from 0 262144)) (int (pos 100))) refl _ n value row.slice_size _ _
    (one_more numbers (always_column 6 (number (up_from 0 262144)) (int (pos 100))) refl _ n value row.download_slice_size _ _
    (one_more numbers (always_column 7 (number (up_from 0 2147483647)) (int (pos 0))) refl _ n value row.download_offset _ _
    (one_more numbers (plain_column 8 (number (record { least = negsuc 0; greatest = pos 2147483647 } ∷ [])) (int (negsuc 0))) refl _ n value row.requested _ _
    (one_more (texts 127) (owner_column 12) refl [] n value row.owner _ _ (no_columns n value))))))))
    refl refl refl refl refl
