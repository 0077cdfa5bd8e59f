-- What is known of the rows of the directory that are held, beside what they were set to.
use Rattle.std.specs.Prelude.{◌≡◌, ℕ, ◌<◌, ◌≤◌, List, Some}
use Rattle.rm_status.specs.declared.row.Row.{Row}
use Rattle.rm_status.specs.Rows.{row_in}
use Rattle.rm_dir.specs.declared.row.DirectoryRow.{DirectoryRow}
use Rattle.rm_dir.specs.Support.{support_number}

-- each has a local index, which is an INTEGER
abbrev pub AreNumbered : List (Row DirectoryRow) → Type 0
AreNumbered rows = (i : ℕ) (row : Row DirectoryRow) → row_in rows i ≡ Some row → (0 < row.columns.local) × (row.columns.local ≤ 2147483647)

-- the configurations of each are noted
abbrev pub AreNoted : List (Row DirectoryRow) → Type 0
AreNoted rows =
    (i : ℕ) (row : Row DirectoryRow) → row_in rows i ≡ Some row
    → (support_number row.columns.host_before ≡ support_number row.columns.host) × (support_number row.columns.matrix_before ≡ support_number row.columns.matrix)
