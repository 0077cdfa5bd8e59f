-- The group statistics, as a caller sees it.
use Rattle.std.specs.Prelude.{◌≡◌, ℕ, ◌%◌, ◌^◌, List, [], ◌∷◌, Option, Some}
use Rattle.rm_val.specs.Val.{Val}
use Rattle.rm_val.specs.declared.error.ErrorStatus.{ErrorStatus}
use Rattle.rm_model.specs.Counting.{Counting}
use Rattle.rm_model.specs.Journal.{Journal}
use Rattle.rm_model.specs.Judgement.{Bindings, place_of, alone_fault}
use Rattle.rm_status.specs.declared.row.Row.{Row}
use Rattle.rm_status.specs.Fine as rows
use Rattle.rm_status.specs.Rows.{row_in}
use Rattle.rm_group.specs.Listed.{ListedTable}
use Rattle.rm_ether.specs.Columns.{ether_columns}
use Rattle.rm_status.specs.RowsAfter.{AreRowsAfter}
use Rattle.rm_ether.specs.declared.counter.Counter.{Counter}
use Rattle.rm_ether.specs.declared.row.StatisticsRow.{StatisticsRow}
use Rattle.rm_ether.specs.declared.ether.Ether.{Ether}
use Rattle.rm_ether.specs.EtherStats.{ether_entry, ether_stats, ether_beginning, counter_sum}
use Rattle.rm_ether.specs.Standing.{counter_of}
use Rattle.rm_ether.specs.StatisticsRows.{set_to, statistics_rows}

-- how many frames the group was given
abbrev pub frames_given : Ether → ℕ
frames_given ether = ether.frames

-- the moment of the frame or the Set that it was given last, 0 before the first
abbrev pub last_given : Ether → ℕ
last_given ether = ether.last

-- each counter of each row is the sum that the journal gives, modulo 2 ^ 64
abbrev pub AreCounted : List (Row StatisticsRow) → Counting → Journal → Type 0
AreCounted rows settings journal =
    (index : ℕ) (row : Row StatisticsRow) → row_in rows index ≡ Some row
    → (each : Counter) → counter_of row.columns.statistics each ≡ counter_sum settings journal (index ∷ []) each % 2 ^ 64

-- The group stands for a journal: its rows are those after the journal, with the counters that the journal gives.
pub record Stands (ether : Ether) (settings : Counting) (journal : Journal) : Type 0 where
  pub rows : AreRowsAfter ether_stats (ether_beginning settings) set_to ether.rows journal
  pub counters : AreCounted ether.rows settings journal

-- the one table of the group
abbrev pub ether_tables : List ListedTable
ether_tables = record { entry = ether_entry; columns = ether_columns } ∷ []

-- what is wrong with a binding alone
abbrev pub ether_alone : List ℕ → Val → Option ErrorStatus
ether_alone name value = alone_fault ether_stats (place_of ether_stats name) value

-- both passes find nothing wrong with a Set, by the rows that are kept
abbrev pub AreFine : Ether → Bindings → Type 0
AreFine ether = rows.AreFine statistics_rows ether.rows
