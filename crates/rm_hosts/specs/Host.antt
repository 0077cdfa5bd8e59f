-- The table host (RFC 1757, section 5): the hosts that the rows of hostControl hold, by their addresses.
use Rattle.std.specs.Prelude.{ℕ, pos, ◌%◌, ◌^◌, List, [], ◌∷◌, nat_eq, if◌then◌else◌}
use Rattle.rm_val.specs.Val.{Val, int, counter, octets}
use Rattle.rm_model.specs.Counting.{Counting}
use Rattle.rm_model.specs.Journal.{Journal}
use Rattle.rm_hosts.specs.Columns.{counter_in}
use Rattle.rm_hosts.specs.Held.{rank_of, sum_of}

-- the identifier of hostEntry
abbrev pub host_entry : List ℕ
host_entry = 1 ∷ 3 ∷ 6 ∷ 1 ∷ 2 ∷ 1 ∷ 16 ∷ 4 ∷ 2 ∷ 1 ∷ []

-- the index of a host: its address as a text, the number of its octets, 6, and then these (RFC 1902, section 7.7)
abbrev pub host_index : Counting → Journal → (row : ℕ) → (address : List ℕ) → List ℕ
host_index settings journal row address = 6 ∷ address

-- What a column shows of a host: its address, its rank in the order of entry, the control row, and its counts. A Counter32 is shown
-- modulo 2 ^ 32.
abbrev pub host_value : Counting → Journal → (row : ℕ) (address : List ℕ) (column : ℕ) → Val
host_value settings journal row address column =
    if nat_eq column 1 then octets address
    else if nat_eq column 2 then int (pos (rank_of settings journal row address))
    else if nat_eq column 3 then int (pos row)
    else counter (sum_of settings journal row (counter_in column) address % 2 ^ 32)
