-- The system group (RFC 1213), as far as it is answered.
use Rattle.std.specs.Prelude.{ℕ, ◌/◌, List, [], ◌∷◌, nat_eq, if◌then◌else◌, codes}
use Rattle.std.specs.Str.{bytes_eq}
use Rattle.rm_val.specs.Val.{Val, octets, ticks}
use Rattle.rm_model.specs.Cells.{Table}
use Rattle.rm_group.specs.Listed.{ListedTable}

-- the identifier of the group, and the numbers of sysDescr and sysUpTime
abbrev pub system_entry : List ℕ
system_entry = 1 ∷ 3 ∷ 6 ∷ 1 ∷ 2 ∷ 1 ∷ 1 ∷ []

abbrev pub system_columns : List ℕ
system_columns = 1 ∷ 3 ∷ []

-- the one table of the group
abbrev pub system_tables : List ListedTable
system_tables = record { entry = system_entry; columns = system_columns } ∷ []

-- their values: a text, and the moment in hundredths of a second
abbrev pub system_value : ℕ → ℕ → Val
system_value now column = if nat_eq column 1 then octets (codes "RMON probe") else ticks (now / 10)

-- the scalars sysDescr.0 and sysUpTime.0
abbrev pub system_table : ℕ → Table
system_table now = record {
  entry = system_entry;
  columns = system_columns;
  is_row = λ index. bytes_eq index (0 ∷ []);
  value = λ column index. system_value now column;
}
