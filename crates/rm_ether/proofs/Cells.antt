-- What the rows show is what the table shows after the journal.
use Rattle.std.proofs.Common.{◌≡◌, ℕ, ◌%◌, ◌^◌, List, [], ◌∷◌, ◌∙◌, ap, cond, Option, Some, nat_eq}
use Rattle.std.specs.Prelude.{pos}
use Rattle.std.specs.Option.{option_map_or}
use Rattle.std.proofs.Math.Pow.{mod-mod-pow}
use Rattle.rm_val.specs.Val.{Val, int, counter}
use Rattle.rm_model.specs.Counting.{Counting}
use Rattle.rm_model.specs.Journal.{Journal}
use Rattle.rm_model.specs.Cells.{cells_of, IsNext}
use Rattle.rm_status.specs.declared.row.Row.{Row}
use Rattle.rm_status.specs.Rows.{row_in, AreControlRows}
use Rattle.rm_status.specs.RowsShown.{with_index}
use Rattle.rm_status.specs.RowsAfter.{AreRowsAfter}
use Rattle.rm_status.proofs.Judged.{same_next}
use Rattle.rm_status.proofs.KeptCellsLaws.{same_control_cells}
use Rattle.rm_status.proofs.RowFacts.{row_there}
use Rattle.rm_ether.specs.declared.row.StatisticsRow.{StatisticsRow}
use Rattle.rm_ether.specs.Columns.{ether_columns, counter_numbered}
use Rattle.rm_ether.specs.EtherStats.{ether_stats, ether_beginning, counter_sum, ether_other, ether_table}
use Rattle.rm_ether.specs.Standing.{counter_of}
use Rattle.rm_ether.specs.StatisticsRows.{set_to}
use Rattle.rm_ether.specs.Shown.{kept_other, rows_table}
use Rattle.rm_ether.specs.Group.{AreCounted}

module _ (rows : List (Row StatisticsRow)) (held : AreControlRows ether_stats rows) (settings : Counting) (journal : Journal)
    (is : AreRowsAfter ether_stats (ether_beginning settings) set_to rows journal) (sums : AreCounted rows settings journal) where
  same_other : (column i : ℕ) (row : Row StatisticsRow) → row_in rows i ≡ Some row → with_index (kept_other rows) column (i ∷ []) ≡ with_index (ether_other settings journal) column (i ∷ [])
  same_other column i row here =
      ap (λ n. cond (nat_eq column 1) (int (pos i)) (counter (n % 2 ^ 32)))
      (ap (λ o. option_map_or (λ (r : Row StatisticsRow). counter_of r.columns.statistics (counter_numbered column)) o 0) here ∙ sums i row here (counter_numbered column))
      ∙ ap (λ n. cond (nat_eq column 1) (int (pos i)) (counter n)) (mod-mod-pow (counter_sum settings journal (i ∷ []) (counter_numbered column)) 32 32)

  pub same_cells : (name : List ℕ) → cells_of (rows_table rows) name ≡ cells_of (ether_table settings journal) name
  same_cells = same_control_cells ether_stats (ether_beginning settings) set_to rows held journal is ether_columns (with_index (kept_other rows)) (with_index (ether_other settings journal)) (λ i row here. row_there ether_stats rows i row held here) same_other

  -- what is next among the cells that are shown is next among those of the journal
  pub next_cell : (asked found : List ℕ) (value : Option Val) → IsNext (cells_of (rows_table rows)) asked value found → IsNext (cells_of (ether_table settings journal)) asked value found
  next_cell = same_next (cells_of (rows_table rows)) (cells_of (ether_table settings journal)) same_cells
