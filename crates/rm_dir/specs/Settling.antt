-- What becomes of the rows of the directory after a Set was done to their columns: rows that it made are given local indexes, and what it
-- changed is noted.
use Rattle.std.specs.Prelude.{ℕ, List, Bool, false, ◌||◌, not, nat_eq, if◌then◌else◌, Option, Some, None}
use Rattle.rm_status.specs.declared.row.Row.{Row}
use Rattle.rm_status.specs.Rows.{row_in}
use Rattle.rm_dir.specs.declared.row.DirectoryRow.{DirectoryRow}
use Rattle.rm_dir.specs.declared.support.Support.{Support}
use Rattle.rm_dir.specs.Support.{support_number}

-- whether two configurations are the same
abbrev pub is_same_support : Support → Support → Bool
is_same_support one other = nat_eq (support_number one) (support_number other)

-- whether a row was made by the Set, so that it has no local index yet
abbrev pub is_fresh : Option (Row DirectoryRow) → Bool
is_fresh None = false
is_fresh (Some row) = nat_eq row.columns.local 0

-- whether a row was made by the Set, or one of its configurations is another than before it
abbrev pub is_changed_row : DirectoryRow → Bool
is_changed_row row = nat_eq row.local 0 || (not (is_same_support row.host row.host_before) || not (is_same_support row.matrix row.matrix_before))

abbrev pub is_changed : Option (Row DirectoryRow) → Bool
is_changed None = false
is_changed (Some row) = is_changed_row row.columns

abbrev pub is_fresh_in : List (Row DirectoryRow) → ℕ → Bool
is_fresh_in rows i = is_fresh (row_in rows i)

abbrev pub is_changed_in : List (Row DirectoryRow) → ℕ → Bool
is_changed_in rows i = is_changed (row_in rows i)

-- a row with a local index, if it has none, and with its configurations noted
abbrev pub settled : (local : ℕ) → DirectoryRow → DirectoryRow
settled local row = record row {
  local = if nat_eq row.local 0 then local else row.local;
  host_before = row.host;
  matrix_before = row.matrix;
}
