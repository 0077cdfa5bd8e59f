-- What the tables matrixSD and matrixDS show of a pair (RFC 1757, section 5).
use Rattle.std.specs.Prelude.{ℕ, pos, ◌%◌, ◌^◌, nat_eq, if◌then◌else◌}
use Rattle.rm_val.specs.Val.{Val, int, counter, octets}
use Rattle.rm_model.specs.Counting.{Counting}
use Rattle.rm_model.specs.Journal.{Journal}
use Rattle.rm_keyed.specs.declared.address_pair.AddressPair.{AddressPair}
use Rattle.rm_matrix.specs.Columns.{counter_in}
use Rattle.rm_matrix.specs.Held.{sum_of}

-- its source and its destination, the control row, and its counts; a Counter32 is shown modulo 2 ^ 32
abbrev pub pair_value : Counting → Journal → (row : ℕ) → AddressPair → (column : ℕ) → Val
pair_value settings journal row pair column =
    if nat_eq column 1 then octets pair.first
    else if nat_eq column 2 then octets pair.second
    else if nat_eq column 3 then int (pos row)
    else counter (sum_of settings journal row (counter_in column) pair % 2 ^ 32)
