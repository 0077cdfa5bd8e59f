-- What protocolDistControl and protocolDistStats show after a journal (RFC 2021, section 6).
use Rattle.std.specs.Prelude.{ℕ, ◌%◌, ◌/◌, ◌^◌, List, [], ◌∷◌, length, Bool, false, not, nat_eq, if◌then◌else◌}
use Rattle.std.specs.List.{sum_by}
use Rattle.std.specs.Option.{option_or}
use Rattle.rm_val.specs.Val.{Val, counter, gauge, ticks}
use Rattle.rm_model.specs.Cells.{Cells, Table, cells_of}
use Rattle.rm_model.specs.Counting.{Counting}
use Rattle.rm_model.specs.Journal.{Journal}
use Rattle.rm_model.specs.ControlCells.{control_cells}
use Rattle.rm_model.specs.ControlRows.{no_rows, activated}
use Rattle.rm_status.specs.RowsShown.{with_index}
use Rattle.rm_nested.specs.InnerTable.{numbered_table}
use Rattle.rm_dist.specs.Columns.{control_columns, stats_columns}
use Rattle.rm_dist.specs.Control.{dist_control}
use Rattle.rm_dist.specs.Marks.{Mark, marks, with_local}

-- what the columns of protocolDistControl show that can't be set: no frame is dropped, and when the row became active, in hundredths of a second
abbrev pub control_other : Journal → ℕ → List ℕ → Val
control_other journal column index =
    if nat_eq column 3 then counter 0 else ticks (activated dist_control no_rows journal index / 10)

-- protocolDistControl
abbrev pub control_table : Journal → Table
control_table journal = control_cells dist_control no_rows control_columns (with_index (control_other journal)) journal

-- the identifier of protocolDistStatsEntry
abbrev pub stats_entry : List ℕ
stats_entry = 1 ∷ 3 ∷ 6 ∷ 1 ∷ 2 ∷ 1 ∷ 16 ∷ 12 ∷ 2 ∷ 1 ∷ []

-- whether there are some marks
abbrev pub are_some : List Mark → Bool
are_some [] = false
are_some (mark ∷ marks) = not false

-- how many packets some marks count, and how many octets, both modulo 2 ^ 32
abbrev pub packets_of : List Mark → ℕ
packets_of marks = length marks % 2 ^ 32

abbrev pub octets_of : List Mark → ℕ
octets_of marks = sum_by (λ mark. mark.octets) marks % 2 ^ 32

-- whether these numbers are those of a control row and of the local index of a protocol that it has counted
abbrev pub is_distributed : Counting → Journal → (row local : ℕ) → Bool
is_distributed settings journal row local = are_some (with_local local (marks settings row journal))

-- what a column shows of some marks
abbrev pub marks_value : List Mark → (column : ℕ) → Val
marks_value some column = gauge (if nat_eq column 1 then packets_of some else octets_of some)

-- the same of those that a control row has of the protocol with a local index
abbrev pub stats_value : Counting → Journal → (row local column : ℕ) → Val
stats_value settings journal row local column = marks_value (with_local local (marks settings row journal)) column

-- protocolDistStats
abbrev pub stats_table : Counting → Journal → Table
stats_table settings journal = numbered_table stats_entry stats_columns (is_distributed settings journal) (stats_value settings journal)

-- the cells of both
abbrev pub dist_cells : Counting → Journal → Cells
dist_cells settings journal name = option_or (cells_of (control_table journal) name) (cells_of (stats_table settings journal) name)
