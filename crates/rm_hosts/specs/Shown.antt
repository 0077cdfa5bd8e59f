-- What the rows and the hosts that are kept show.
use Rattle.std.specs.Prelude.{◌≡◌, ℕ, pos, ◌%◌, ◌^◌, List, [], ◌∷◌, true, nat_eq, if◌then◌else◌, Option, None, unwrap_or, refl}
use Rattle.std.specs.Str.{bytes_eq}
use Rattle.rm_val.specs.Val.{Val, int, counter, octets}
use Rattle.rm_evicting.specs.declared.Row.{Row as Entry}
use Rattle.rm_rows.specs.Table.{keys_of, order_of}
use Rattle.rm_keyed.specs.Indexes.{key_with, key_ranked}
use Rattle.rm_sourced.specs.Counters.{kept_count}
use Rattle.rm_sourced.specs.Shown.{ShownTable, shown_by}
use Rattle.rm_hosts.specs.declared.host_counts.HostCounts.{HostCounts}
use Rattle.rm_hosts.specs.declared.host_rows.HostRows.{HostRows}
use Rattle.rm_hosts.specs.Columns.{host_columns, counter_in}
use Rattle.rm_hosts.specs.Host.{host_entry, host_index, host_value}
use Rattle.rm_hosts.specs.HostTime.{time_entry, time_index}

-- the hosts of a row, as they are kept
abbrev pub Entries : Type 0
Entries = List (Entry (List ℕ) HostCounts)

abbrev pub entries_of : HostRows → Entries
entries_of rows = rows.keyed.rows.rows

-- what a column shows of a host, by the hosts of its row
abbrev pub kept_value : (row : ℕ) → HostRows → (address : List ℕ) (column : ℕ) → Val
kept_value row rows address column =
    if nat_eq column 1 then octets address
    else if nat_eq column 2 then int (pos (unwrap_or (order_of bytes_eq address (entries_of rows)) 0))
    else if nat_eq column 3 then int (pos row)
    else counter (kept_count bytes_eq (counter_in column) (entries_of rows) address % 2 ^ 32)

-- the address of the host with an index: that of its address, or its rank
abbrev pub with_address : HostRows → List ℕ → Option (List ℕ)
with_address rows = key_with (λ address. 6 ∷ address) (keys_of (entries_of rows))

abbrev pub with_rank : HostRows → List ℕ → Option (List ℕ)
with_rank rows = key_ranked (entries_of rows)

-- host and hostTime
abbrev pub by_address : ShownTable (List ℕ) HostRows
by_address = shown_by with_address (λ now. true) kept_value host_entry host_columns host_index host_value

abbrev pub by_rank : ShownTable (List ℕ) HostRows
by_rank = shown_by with_rank (λ now. true) kept_value time_entry host_columns time_index host_value

-- the index of no address is empty
none_alike : (entries : Entries) → key_with (λ address. 6 ∷ address) (keys_of entries) [] ≡ None
none_alike [] = refl
none_alike (entry ∷ more) = none_alike more

pub no_empty_address : (rows : HostRows) → with_address rows [] ≡ None
no_empty_address rows = none_alike (entries_of rows)
