-- What the rows and the pairs that are kept show.
use Rattle.std.specs.Prelude.{◌≡◌, ℕ, pos, ◌%◌, ◌^◌, List, [], ◌∷◌, true, nat_eq, if◌then◌else◌, Option, None, option_map, refl}
use Rattle.std.proofs.Common.{ap}
use Rattle.rm_val.specs.Val.{Val, int, counter, octets}
use Rattle.rm_evicting.specs.declared.Row.{Row as Entry}
use Rattle.rm_rows.specs.Table.{keys_of}
use Rattle.rm_keyed.specs.declared.address_pair.AddressPair.{AddressPair}
use Rattle.rm_keyed.specs.Addresses.{pair_eq, pair_index, reversed}
use Rattle.rm_keyed.specs.Indexes.{key_with}
use Rattle.rm_sourced.specs.Counters.{kept_count}
use Rattle.rm_sourced.specs.Shown.{ShownTable, shown_by}
use Rattle.rm_matrix.specs.declared.pair_counts.PairCounts.{PairCounts}
use Rattle.rm_matrix.specs.declared.matrix_rows.MatrixRows.{MatrixRows}
use Rattle.rm_matrix.specs.Columns.{pair_columns, counter_in}
use Rattle.rm_matrix.specs.Pairs.{pair_value}
use Rattle.rm_matrix.specs.SourceDestination.{source_entry, source_index}
use Rattle.rm_matrix.specs.DestinationSource.{destination_entry, destination_index}

-- the pairs of a row, as they are kept
abbrev pub Entries : Type 0
Entries = List (Entry AddressPair PairCounts)

abbrev pub entries_of : MatrixRows → Entries
entries_of rows = rows.pairs.rows.rows

-- what a column shows of a pair, by the pairs of its row
abbrev pub kept_value : (row : ℕ) → MatrixRows → AddressPair → (column : ℕ) → Val
kept_value row rows pair column =
    if nat_eq column 1 then octets pair.first
    else if nat_eq column 2 then octets pair.second
    else if nat_eq column 3 then int (pos row)
    else counter (kept_count pair_eq (counter_in column) (entries_of rows) pair % 2 ^ 32)

-- the pair with an index: its source first, or its destination
abbrev pub by_source : MatrixRows → List ℕ → Option AddressPair
by_source rows = key_with pair_index (keys_of (entries_of rows))

abbrev pub by_destination : MatrixRows → List ℕ → Option AddressPair
by_destination rows numbers = option_map reversed (key_with pair_index rows.reverse.keys numbers)

-- matrixSD and matrixDS
abbrev pub sources : ShownTable AddressPair MatrixRows
sources = shown_by by_source (λ now. true) kept_value source_entry pair_columns source_index pair_value

abbrev pub destinations : ShownTable AddressPair MatrixRows
destinations = shown_by by_destination (λ now. true) kept_value destination_entry pair_columns destination_index pair_value

-- no index is empty
none_alike : (pairs : List AddressPair) → key_with pair_index pairs [] ≡ None
none_alike [] = refl
none_alike (pair ∷ more) = none_alike more

pub no_empty_source : (rows : MatrixRows) → by_source rows [] ≡ None
no_empty_source rows = none_alike (keys_of (entries_of rows))

pub no_empty_destination : (rows : MatrixRows) → by_destination rows [] ≡ None
no_empty_destination rows = ap (option_map reversed) (none_alike rows.reverse.keys)
