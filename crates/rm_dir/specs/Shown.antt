-- What the rows of the directory that are held show.
use Rattle.std.specs.Prelude.{ℕ, ◌/◌, min, pos, List, [], ◌∷◌, nat_eq, if◌then◌else◌, Option}
use Rattle.std.specs.Option.{option_map_or}
use Rattle.rm_val.specs.Val.{Val, int, octets, ticks}
use Rattle.std.specs.Str.{bytes_eq}
use Rattle.rm_model.specs.Cells.{Table}
use Rattle.rm_status.specs.declared.row.Row.{Row}
use Rattle.rm_status.specs.Rows.{row_in, number_in}
use Rattle.rm_path.specs.declared.identifier.ProtocolIdentifier.{ProtocolIdentifier}
use Rattle.rm_dir.specs.declared.row.DirectoryRow.{DirectoryRow}
use Rattle.rm_dir.specs.BuiltIn.{type_bits}
use Rattle.rm_dir.specs.DirectoryIndex.{protocol_of}
use Rattle.rm_dir.specs.ProtocolDir.{protocol_dir, change_entry}

-- the type of the protocol of a row
abbrev pub type_at : Option ProtocolIdentifier → ℕ
type_at protocol = option_map_or type_bits protocol 0

-- the local index that is kept of a row, which is an INTEGER
abbrev pub kept_local : List (Row DirectoryRow) → List ℕ → ℕ
kept_local rows index = option_map_or (λ row. min row.columns.local 2147483647) (row_in rows (number_in protocol_dir index)) 0

-- what the columns show that can't be set
abbrev pub kept_other : List (Row DirectoryRow) → ℕ → List ℕ → Val
kept_other rows column index =
    if nat_eq column 3 then int (pos (kept_local rows index))
    else if nat_eq column 5 then octets (type_at (protocol_of index) ∷ [])
    else int (pos 1)

-- what both tables show by what is held: the rows, and the moment of the last change
abbrev pub kept_change : ℕ → Table
kept_change changed = record {
  entry = change_entry;
  columns = 1 ∷ [];
  is_row = λ index. bytes_eq index (0 ∷ []);
  value = λ column index. ticks (changed / 10);
}
