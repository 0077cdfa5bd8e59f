-- The indexes of the rows of a control table.
use Rattle.std.specs.Prelude.{ℕ, List, Bool, false, Option, Some, None, is_some}
use Rattle.rm_model.specs.ControlTable.{ControlTable}
use Rattle.rm_status.specs.declared.row.Row.{Row}
use Rattle.rm_status.specs.Rows.{row_in}

-- whether one of some rows has a number
abbrev pub has_number : {C : Type 0} → List (Row C) → Option ℕ → Bool
has_number rows (Some number) = is_some (row_in rows number)
has_number rows None = false

-- whether a list of numbers is the index of one of some rows
abbrev pub is_index_in : {C : Type 0} → ControlTable → List (Row C) → List ℕ → Bool
is_index_in table rows index = has_number rows (table.indexing.number_of index)
