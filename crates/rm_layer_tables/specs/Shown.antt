-- What is kept of a row of the network or application layer shows.
use Rattle.std.specs.Prelude.{◌≡◌, ℕ, ◌+◌, ◌%◌, ◌^◌, nat_eq, nat_le, if◌then◌else◌, Option, Some, None}
use Rattle.rm_val.specs.Val.{Val, gauge, ticks}
use Rattle.rm_upper.specs.declared.counts.Counted.{Counted}
use Rattle.rm_layer_tables.specs.Held.{MarkedRows, stands_at, has_row}
use Rattle.rm_layer_tables.specs.Tables.{MarkedTable, row_value}

-- what a column shows of what a row has counted, by what it counts in that column
abbrev pub column_of : {S G : Type 0} → MarkedTable G → (counted_in : (column : ℕ) → S → ℕ) → Counted S → (column : ℕ) → Val
column_of table counted_in counted column =
    if nat_eq column table.created then ticks counted.created else gauge (counted_in column counted.sums % 2 ^ 32)

-- it is what gains come to in that column, modulo 2 ^ 64
pub record AddsUp {S G : Type 0} (blank : S) (add : S → G → S) (counted_in : (column : ℕ) → S → ℕ) (count : (column : ℕ) → G → ℕ) : Type 0 where
  pub none : (column : ℕ) → counted_in column blank ≡ 0
  pub adds : (column : ℕ) (sums : S) (gain : G) → counted_in column (add sums gain) ≡ (counted_in column sums + count column gain) % 2 ^ 64

-- the column where there is such a row, and its last contribution didn't come before a mark
abbrev pub up_to_tick : {S : Type 0} → (Counted S → (column : ℕ) → Val) → (mark : ℕ) → Option (Counted S) → (column : ℕ) → Option Val
up_to_tick shown mark None column = None
up_to_tick shown mark (Some counted) column = if nat_le mark counted.tick then Some (shown counted column) else None

-- and where it stands at a mark at a moment in milliseconds
abbrev pub at_mark : {S : Type 0} → (Counted S → (column : ℕ) → Val) → (now mark : ℕ) → Option (Counted S) → (column : ℕ) → Option Val
at_mark shown now mark None column = None
at_mark shown now mark (Some counted) column = if stands_at now mark counted.tick then Some (shown counted column) else None

-- what a table shows of a row at a mark
abbrev pub row_shown : {X G : Type 0} → MarkedTable G → MarkedRows X G → (now mark : ℕ) → X → (column : ℕ) → Option Val
row_shown table rows now mark x column = if has_row rows now mark x then Some (row_value table rows x column) else None
