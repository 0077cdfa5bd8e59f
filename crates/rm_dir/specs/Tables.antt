-- What protocolDirTable and protocolDirLastChange show (RFC 2021, section 6).
use Rattle.std.specs.Prelude.{ℕ, ◌/◌, pos, List, [], ◌∷◌, nat_eq, if◌then◌else◌}
use Rattle.std.specs.Option.{option_map_or, option_or}
use Rattle.std.specs.Str.{bytes_eq}
use Rattle.rm_val.specs.Val.{Val, int, octets, ticks}
use Rattle.rm_model.specs.Journal.{Journal}
use Rattle.rm_model.specs.Cells.{Table, Cells, cells_of}
use Rattle.rm_model.specs.ControlCells.{control_cells}
use Rattle.rm_group.specs.Listed.{ListedTable}
use Rattle.rm_status.specs.RowsShown.{with_index}
use Rattle.rm_dir.specs.BuiltIn.{type_bits}
use Rattle.rm_dir.specs.ProtocolDir.{directory_entry, change_entry, protocol_dir, directory_beginning}
use Rattle.rm_dir.specs.DirectoryIndex.{protocol_of}
use Rattle.rm_dir.specs.LocalIndexes.{local_index}
use Rattle.rm_dir.specs.LastChange.{last_change}

-- the columns of protocolDirTable that are answered: the local index, the description, the type, the three configurations, the owner and the status
abbrev pub directory_columns : List ℕ
directory_columns = 3 ∷ 4 ∷ 5 ∷ 6 ∷ 7 ∷ 8 ∷ 9 ∷ 10 ∷ []

-- what the columns show that can't be set: the local index, the octet of the type, and that addresses aren't mapped (notSupported)
abbrev pub directory_other : Journal → ℕ → List ℕ → Val
directory_other journal column index =
    if nat_eq column 3 then int (pos (local_index journal index))
    else if nat_eq column 5 then octets (option_map_or type_bits (protocol_of index) 0 ∷ [])
    else int (pos 1)

-- protocolDirTable after a journal
abbrev pub directory_table : Journal → Table
directory_table journal = control_cells protocol_dir directory_beginning directory_columns (with_index (directory_other journal)) journal

-- the scalar protocolDirLastChange, in hundredths of a second
abbrev pub change_table : Journal → Table
change_table journal = record {
  entry = change_entry;
  columns = 1 ∷ [];
  is_row = λ index. bytes_eq index (0 ∷ []);
  value = λ column index. ticks (last_change journal / 10);
}

-- both together
abbrev pub directory_cells : Journal → Cells
directory_cells journal name = option_or (cells_of (directory_table journal) name) (cells_of (change_table journal) name)

-- the tables, as they are listed
abbrev pub change_listed : ListedTable
change_listed = record { entry = change_entry; columns = 1 ∷ [] }

abbrev pub directory_tables : List ListedTable
directory_tables = record { entry = directory_entry; columns = directory_columns } ∷ change_listed ∷ []
