-- The variables of channelTable and of bufferControlTable, which alarms may sample.
use Rattle.std.specs.Prelude.{ℕ, ◌/◌, ◌%◌, ◌^◌, pos, List, [], ◌∷◌, length, Bool, nat_eq, not, if◌then◌else◌}
use Rattle.rm_val.specs.Val.{Val, int, counter, ticks}
use Rattle.rm_model.specs.Counting.{Counting}
use Rattle.rm_model.specs.Journal.{Journal}
use Rattle.rm_model.specs.Cells.{Table}
use Rattle.rm_model.specs.ControlRows.{no_rows, is_absent, is_valid, state_of, value_of, activated, index_value, entry_status}
use Rattle.rm_acts.specs.Channels.{channel_entry, channel_table, match_count}
use Rattle.rm_acts.specs.Fired.{fired, present, data_control, event_status}
use Rattle.rm_acts.specs.Buffers.{buffer_entry, buffer_table, kept_by, full_status, granted_of}

-- the row that an index of one number is
abbrev pub row_of : List ℕ → ℕ
row_of [] = 0
row_of (row ∷ more) = row

abbrev pub natural : ℕ → Val
natural n = int (pos n)

-- what a column of a channel shows
abbrev pub channel_shown : Counting → Journal → (column : ℕ) → List ℕ → Val
channel_shown settings journal column index =
    if nat_eq column 1 then index_value index
    else if nat_eq column 4 then natural (present data_control journal (fired settings journal) (row_of index))
    else if nat_eq column 8 then natural (present event_status journal (fired settings journal) (row_of index))
    else if nat_eq column 9 then counter (match_count settings journal (row_of index) % 2 ^ 32)
    else if nat_eq column 12 then int (entry_status (state_of channel_table no_rows journal index))
    else value_of channel_table no_rows journal index column

abbrev pub channels_shown : Counting → Journal → Table
channels_shown settings journal = record {
  entry = channel_entry;
  columns = 1 ∷ 2 ∷ 3 ∷ 4 ∷ 5 ∷ 6 ∷ 7 ∷ 8 ∷ 9 ∷ 10 ∷ 11 ∷ 12 ∷ [];
  is_row = λ index. not (is_absent (state_of channel_table no_rows journal index));
  value = channel_shown settings journal;
}

-- what a number is in a row that is valid, and else 0
abbrev pub while_valid : Bool → ℕ → ℕ
while_valid is n = if is then n else 0

-- what a column of a buffer shows
abbrev pub buffer_shown : Counting → Journal → (column : ℕ) → List ℕ → Val
buffer_shown settings journal column index =
    let valid = is_valid (state_of buffer_table no_rows journal index) in
    if nat_eq column 1 then index_value index
    else if nat_eq column 3 then natural (full_status settings journal (row_of index))
    else if nat_eq column 9 then natural (while_valid valid (granted_of journal (row_of index)))
    else if nat_eq column 10 then natural (length (kept_by settings journal (row_of index)))
    else if nat_eq column 11 then ticks (activated buffer_table no_rows journal index / 10)
    else if nat_eq column 13 then int (entry_status (state_of buffer_table no_rows journal index))
    else value_of buffer_table no_rows journal index column

abbrev pub buffers_shown : Counting → Journal → Table
buffers_shown settings journal = record {
  entry = buffer_entry;
  columns = 1 ∷ 2 ∷ 3 ∷ 4 ∷ 5 ∷ 6 ∷ 7 ∷ 8 ∷ 9 ∷ 10 ∷ 11 ∷ 12 ∷ 13 ∷ [];
  is_row = λ index. not (is_absent (state_of buffer_table no_rows journal index));
  value = buffer_shown settings journal;
}
