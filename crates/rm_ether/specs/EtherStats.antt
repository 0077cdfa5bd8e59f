-- The table etherStats (RFC 1757, section 5), and what it shows after a journal.
use Rattle.std.specs.Prelude.{ℕ, ◌%◌, ◌^◌, List, [], ◌∷◌, Bool, false, ◌&&◌, nat_eq, nat_le, if◌then◌else◌, Option, Some, None, codes}
use Rattle.std.specs.List.{sum_by}
use Rattle.rm_val.specs.Val.{Val, name, octets, counter}
use Rattle.rm_model.specs.Counting.{Counting}
use Rattle.rm_model.specs.Journal.{Frame, Journal, frames_in}
use Rattle.rm_model.specs.Interfaces.{interface_name, frames_of}
use Rattle.rm_model.specs.Cells.{Table}
use Rattle.rm_model.specs.ControlTable.{ControlTable, source_column, owner_column, entry_table}
use Rattle.rm_model.specs.ControlCells.{control_cells}
use Rattle.rm_model.specs.ControlRows.{Beginning, state_of, value_of, since}
use Rattle.rm_model.specs.declared.row.State.{State}
use Rattle.rm_model.specs.declared.row.State.TheVariants.{Absent, Valid}
use Rattle.rm_ether.specs.declared.counter.Counter.{Counter}
use Rattle.rm_model.specs.FrameFacts.{frame_facts}
use Rattle.rm_status.specs.RowsShown.{with_index}
use Rattle.rm_ether.specs.Counted.{counted}
use Rattle.rm_ether.specs.Columns.{ether_columns, counter_numbered}

-- the identifier of etherStatsEntry
abbrev pub ether_entry : List ℕ
ether_entry = 1 ∷ 3 ∷ 6 ∷ 1 ∷ 2 ∷ 1 ∷ 16 ∷ 1 ∷ 1 ∷ 1 ∷ []

-- the control table: a row counts the frames of its data source; its owner may be set at any time
abbrev pub ether_stats : ControlTable
ether_stats = entry_table ether_entry 21 (source_column 2 ∷ owner_column 20 ∷ [])

-- whether these numbers are the index of a row of the monitor: there is one for each interface, with its number
abbrev pub is_of_monitor : Counting → List ℕ → Bool
is_of_monitor settings (number ∷ []) = nat_le 1 number && nat_le number settings.interfaces
is_of_monitor settings others = false

-- what the columns of such a row were set to: it counts the frames of that interface, and belongs to the monitor
abbrev pub monitor_set : List ℕ → ℕ → Option Val
monitor_set (number ∷ []) column =
    if nat_eq column 2 then Some (name (interface_name number))
    else if nat_eq column 20 then Some (octets (codes "monitor"))
    else None
monitor_set others column = None

-- the rows of the monitor are valid from before the first act
abbrev pub ether_beginning : Counting → Beginning
ether_beginning settings = record {
  state = λ index. if is_of_monitor settings index then Valid else Absent;
  set = λ index column. if is_of_monitor settings index then monitor_set index column else None;
}

-- the state of a row
abbrev pub ether_state : Counting → Journal → List ℕ → State
ether_state settings journal index = state_of ether_stats (ether_beginning settings) journal index

-- the value of a column of a row that can be set: 2 is the data source, 20 the owner
abbrev pub ether_column : Counting → Journal → List ℕ → ℕ → Val
ether_column settings journal index column = value_of ether_stats (ether_beginning settings) journal index column

-- the frames that a row counts: those of its data source, since it became valid
abbrev pub counted_frames : Counting → Journal → List ℕ → List Frame
counted_frames settings journal index =
    frames_of (ether_column settings journal index 2) (frames_in (since ether_stats (ether_beginning settings) journal index))

-- a counter of a row: the sum of what each of these frames adds to it
abbrev pub counter_sum : Counting → Journal → List ℕ → Counter → ℕ
counter_sum settings journal index each =
    sum_by (λ frame. counted each (frame_facts settings frame)) (counted_frames settings journal index)

-- what the columns show beside the index that can't be set, which are counters; a Counter32 is shown modulo 2 ^ 32
abbrev pub ether_other : Counting → Journal → ℕ → List ℕ → Val
ether_other settings journal column index = counter (counter_sum settings journal index (counter_numbered column) % 2 ^ 32)

-- the table after a journal
abbrev pub ether_table : Counting → Journal → Table
ether_table settings journal = control_cells ether_stats (ether_beginning settings) ether_columns (with_index (ether_other settings journal)) journal
