-- What the filters that are kept show is what filterTable shows after the journal.
use Rattle.std.proofs.Common.{◌≡◌, ℕ, List, refl, Option}
use Rattle.rm_val.specs.Val.{Val}
use Rattle.rm_model.specs.Journal.{Journal}
use Rattle.rm_model.specs.Cells.{Cells, cells_of, IsNext}
use Rattle.rm_model.specs.ControlRows.{no_rows}
use Rattle.rm_status.specs.declared.row.Row.{Row}
use Rattle.rm_status.specs.Rows.{AreControlRows}
use Rattle.rm_status.specs.RowsShown.{with_index, rows_shown}
use Rattle.rm_status.specs.RowsAfter.{AreRowsAfter}
use Rattle.rm_status.proofs.Judged.{same_next}
use Rattle.rm_status.proofs.KeptCellsLaws.{same_control_cells}
use Rattle.rm_status.proofs.RowFacts.{row_there}
use Rattle.rm_acts.specs.Filters.{filter_table}
use Rattle.rm_filter.specs.declared.filter_row.FilterRow.{FilterRow}
use Rattle.rm_filter.specs.FilterRows.{filter_rows, filter_columns, set_to}
use Rattle.rm_filter.specs.Tables.{nothing_else, filters_shown}

module _ (rows : List (Row FilterRow)) (held : AreControlRows filter_table rows) (journal : Journal) (is : AreRowsAfter filter_table no_rows set_to rows journal) where
  abbrev kept : Cells
  kept = cells_of (rows_shown filter_rows nothing_else rows)

  pub same_cells : (name : List ℕ) → kept name ≡ cells_of (filters_shown journal) name
  same_cells =
      same_control_cells filter_table no_rows set_to rows held journal is filter_columns (with_index nothing_else) (with_index nothing_else)
      (λ i row here. row_there filter_table rows i row held here) (λ column i row here. refl)

  pub next_cell : (asked found : List ℕ) (value : Option Val) → IsNext kept asked value found → IsNext (cells_of (filters_shown journal)) asked value found
  next_cell = same_next kept (cells_of (filters_shown journal)) same_cells
