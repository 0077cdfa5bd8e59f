-- The table etherHistory (RFC 1757, section 5): the last complete buckets of each row of historyControl.
use Rattle.std.specs.Prelude.{ℕ, pos, ◌/◌, ◌%◌, ◌^◌, List, [], ◌∷◌, Bool, ◌&&◌, nat_eq, if◌then◌else◌}
use Rattle.rm_val.specs.Val.{Val, int, counter, ticks}
use Rattle.rm_model.specs.Counting.{Counting}
use Rattle.rm_model.specs.Journal.{Journal}
use Rattle.rm_model.specs.Cells.{Table}
use Rattle.rm_model.specs.ControlRows.{is_valid}
use Rattle.rm_group.specs.Listed.{ListedTable}
use Rattle.rm_nested.specs.InnerTable.{numbered_table}
use Rattle.rm_ether.specs.declared.counter.Counter.{Counter}
use Rattle.rm_ether.specs.declared.counter.Counter.TheVariants.{Octets, Pkts}
use Rattle.rm_history.specs.Columns.{sample_columns, counter_in}
use Rattle.rm_history.specs.Buckets.{begin_of, bucket_sum, is_shown, utilization}
use Rattle.rm_history.specs.HistoryControl.{control_state, plan_of, counted_frames}

-- the identifier of etherHistoryEntry
abbrev pub sample_entry : List ℕ
sample_entry = 1 ∷ 3 ∷ 6 ∷ 1 ∷ 2 ∷ 1 ∷ 16 ∷ 2 ∷ 2 ∷ 1 ∷ []

-- etherHistory, as the group lists it
abbrev pub sample_listed : ListedTable
sample_listed = record { entry = sample_entry; columns = sample_columns }

-- whether these numbers are those of a valid control row and of a bucket of it that is shown at a moment
abbrev pub is_sample : Journal → (now row bucket : ℕ) → Bool
is_sample journal now row bucket = is_valid (control_state journal (row ∷ [])) && is_shown (plan_of journal (row ∷ [])) now bucket

-- a counter of a bucket of a control row
abbrev pub sample_sum : Counting → Journal → ℕ → ℕ → Counter → ℕ
sample_sum settings journal row bucket each =
    bucket_sum settings (plan_of journal (row ∷ [])) (counted_frames journal (row ∷ [])) bucket each

-- What a column of a bucket of a control row shows. It began at a moment in hundredths of a second, and a Counter32 is shown
-- modulo 2 ^ 32; the utilization is that of the exact sums.
abbrev pub sample_value : Counting → Journal → (row bucket column : ℕ) → Val
sample_value settings journal row bucket column =
    if nat_eq column 1 then int (pos row)
    else if nat_eq column 2 then int (pos bucket)
    else if nat_eq column 3 then ticks (begin_of (plan_of journal (row ∷ [])) bucket / 10)
    else if nat_eq column 15 then int (pos (utilization (sample_sum settings journal row bucket Pkts) (sample_sum settings journal row bucket Octets) (plan_of journal (row ∷ [])).seconds))
    else counter (sample_sum settings journal row bucket (counter_in column) % 2 ^ 32)

-- the table after a journal, at a moment
abbrev pub sample_table : Counting → Journal → (now : ℕ) → Table
sample_table settings journal now = numbered_table sample_entry sample_columns (is_sample journal now) (sample_value settings journal)
