-- What the rows show is what the table shows after the journal.
use Rattle.std.proofs.Common.{◌≡◌, ℕ, ◌≤◌, List, [], ◌∷◌, cond, nat_eq, Some, ap, ◌∙◌, arith}
use Rattle.std.specs.Prelude.{min, pos}
use Rattle.std.specs.Option.{option_map_or}
use Rattle.rm_val.specs.Val.{int, octets}
use Rattle.rm_model.specs.Journal.{Journal}
use Rattle.rm_model.specs.Cells.{cells_of}
use Rattle.rm_status.specs.declared.row.Row.{Row}
use Rattle.rm_status.specs.Rows.{row_in, AreControlRows}
use Rattle.rm_status.specs.RowsShown.{with_index, rows_shown}
use Rattle.rm_status.specs.RowsAfter.{AreRowsAfter}
use Rattle.rm_status.proofs.KeptCellsLaws.{same_control_cells}
use Rattle.rm_status.proofs.RowFacts.{row_there}
use Rattle.rm_status.proofs.RowsBefore.{number_at}
use Rattle.rm_dir.specs.declared.row.DirectoryRow.{DirectoryRow}
use Rattle.rm_dir.specs.DirectoryIndex.{directory_index, protocol_of}
use Rattle.rm_dir.specs.DirectoryRows.{set_to, directory_rows}
use Rattle.rm_dir.specs.ProtocolDir.{protocol_dir, directory_beginning}
use Rattle.rm_dir.specs.LocalIndexes.{local_index}
use Rattle.rm_dir.specs.Shown.{kept_other, kept_local, type_at}
use Rattle.rm_dir.specs.Tables.{directory_columns, directory_other, directory_table}
use Rattle.rm_dir.specs.Kept.{AreNumbered}
use Rattle.rm_dir.specs.Group.{AreLocal}

lesser : (n : ℕ) → n ≤ 2147483647 → min n 2147483647 ≡ n
lesser n few = omega (arith, few)

module _ (rows : List (Row DirectoryRow)) (held : AreControlRows protocol_dir rows) (numbered : AreNumbered rows) (journal : Journal)
    (is : AreRowsAfter protocol_dir directory_beginning set_to rows journal) (locals : AreLocal rows journal) where
  same_local : (i : ℕ) (row : Row DirectoryRow) → row_in rows i ≡ Some row → kept_local rows (directory_index i) ≡ local_index journal (directory_index i)
  same_local i row here =
      ap (λ k. option_map_or (λ (r : Row DirectoryRow). min r.columns.local 2147483647) (row_in rows k) 0) (number_at protocol_dir i)
      ∙ ap (λ o. option_map_or (λ (r : Row DirectoryRow). min r.columns.local 2147483647) o 0) here
      ∙ lesser row.columns.local (numbered i row here).1 ∙ locals i row here

  same_other : (column i : ℕ) (row : Row DirectoryRow) → row_in rows i ≡ Some row → with_index (kept_other rows) column (directory_index i) ≡ with_index (directory_other journal) column (directory_index i)
  same_other column i row here =
      ap (λ n. with_index (λ column index. cond (nat_eq column 3) (int (pos n)) (cond (nat_eq column 5) (octets (type_at (protocol_of index) ∷ [])) (int (pos 1)))) column (directory_index i)) (same_local i row here)

  pub same_cells : (name : List ℕ) → cells_of (rows_shown directory_rows (kept_other rows) rows) name ≡ cells_of (directory_table journal) name
  same_cells = same_control_cells protocol_dir directory_beginning set_to rows held journal is directory_columns (with_index (kept_other rows)) (with_index (directory_other journal)) (λ i row here. row_there protocol_dir rows i row held here) same_other
