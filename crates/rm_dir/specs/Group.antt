-- The directory, as a caller sees it.
use Rattle.std.specs.Prelude.{◌≡◌, ℕ, ◌+◌, ◌≤◌, ◌^◌, List, Some}
use Rattle.rm_model.specs.Journal.{Journal}
use Rattle.rm_model.specs.ControlRows.{set_ask}
use Rattle.rm_model.specs.Judgement.{Bindings, is_made, count_below}
use Rattle.rm_status.specs.declared.row.Row.{Row}
use Rattle.rm_status.specs.Fine as rows
use Rattle.rm_status.specs.Rows.{row_in, state_in}
use Rattle.rm_status.specs.RowsAfter.{AreRowsAfter}
use Rattle.rm_dir.specs.declared.row.DirectoryRow.{DirectoryRow}
use Rattle.rm_dir.specs.declared.directory.Directory.{Directory}
use Rattle.rm_dir.specs.DirectoryIndex.{directory_index}
use Rattle.rm_dir.specs.DirectoryRows.{set_to, directory_rows}
use Rattle.rm_dir.specs.ProtocolDir.{protocol_dir, directory_beginning}
use Rattle.rm_dir.specs.LocalIndexes.{greatest_given, local_index}
use Rattle.rm_dir.specs.LastChange.{last_change}

-- each row has the local index that the journal gives it
abbrev pub AreLocal : List (Row DirectoryRow) → Journal → Type 0
AreLocal rows journal = (i : ℕ) (row : Row DirectoryRow) → row_in rows i ≡ Some row → row.columns.local ≡ local_index journal (directory_index i)

-- The directory stands for a journal: its rows are those after the journal, with their local indexes, it has given as many of these, and it
-- last changed when the journal says.
pub record Stands (directory : Directory) (journal : Journal) : Type 0 where
  pub rows : AreRowsAfter protocol_dir directory_beginning set_to directory.rows journal
  pub locals : AreLocal directory.rows journal
  pub given : directory.given ≡ greatest_given journal
  pub changed : directory.changed ≡ last_change journal

-- there is a local index for each row that a Set makes
abbrev pub HasIndexes : Directory → Bindings → Type 0
HasIndexes directory bindings =
    directory.given + count_below (λ row. is_made (state_in directory.rows row) (set_ask protocol_dir bindings (directory_index row))) (2 ^ 32) ≤ 2147483647

-- both passes find nothing wrong with a Set, by what is held, and there is a local index for each row that it makes
pub record AreFine (directory : Directory) (bindings : Bindings) : Type 0 where
  pub fine : rows.AreFine directory_rows directory.rows bindings
  pub indexes : HasIndexes directory bindings
