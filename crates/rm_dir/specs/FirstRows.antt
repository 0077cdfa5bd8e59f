-- The rows that are held from the beginning.
use Rattle.std.specs.Prelude.{ℕ, List, [], ◌∷◌, length, Bool, true, ◌&&◌, not, nat_eq, nat_le, nat_lt, is_some, Option, Some, None, if◌then◌else◌, codes}
use Rattle.rm_model.specs.declared.row.State.TheVariants.{Valid}
use Rattle.rm_status.specs.declared.row.Row.{Row}
use Rattle.rm_path.specs.Identifier.{number_of}
use Rattle.rm_dir.specs.declared.row.DirectoryRow.{DirectoryRow}
use Rattle.rm_dir.specs.BuiltIn.{BuiltIn, built_in_local}
use Rattle.rm_dir.specs.DirectoryIndex.{may_have_row}
use Rattle.rm_dir.specs.DirectoryRows.{support_at_first}

-- what is kept of such a row
abbrev pub columns_of : BuiltIn → DirectoryRow
columns_of row = record {
  descr = record { items = row.descr };
  host = support_at_first (Some row.protocol);
  matrix = support_at_first (Some row.protocol);
  owner = record { items = codes "monitor" };
  local = built_in_local row.protocol;
  host_before = support_at_first (Some row.protocol);
  matrix_before = support_at_first (Some row.protocol);
}

abbrev pub held_row : BuiltIn → Row DirectoryRow
held_row row = record { index = number_of row.protocol; state = Valid; columns = columns_of row }

-- the row with a number
abbrev pub first_in : List BuiltIn → ℕ → Option (Row DirectoryRow)
first_in [] number = None
first_in (row ∷ rows) number = if nat_eq (number_of row.protocol) number then Some (held_row row) else first_in rows number

-- Each is the row of a protocol that can have one, with a local index and a description that fits, and no two are of one protocol.
abbrev pub are_sound : List BuiltIn → Bool
are_sound [] = true
are_sound (row ∷ rows) =
    (may_have_row row.protocol && ((nat_lt 0 (built_in_local row.protocol) && nat_le (built_in_local row.protocol) 2147483647) && nat_le (length row.descr) 64))
    && (not (is_some (first_in rows (number_of row.protocol))) && are_sound rows)
