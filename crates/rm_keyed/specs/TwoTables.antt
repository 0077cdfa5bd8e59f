-- Two tables of inner rows under one control table, of which no column can be set.
use Rattle.std.specs.Prelude.{ℕ, List, Option}
use Rattle.std.specs.Option.{option_or}
use Rattle.rm_val.specs.Val.{Val}
use Rattle.rm_val.specs.declared.error.ErrorStatus.{ErrorStatus}
use Rattle.rm_model.specs.Cells.{Cells, Table, cells_of, is_of_column}
use Rattle.rm_group.specs.Alone.{read_only}
use Rattle.rm_group.specs.Listed.{ListedTable}

-- the cells of both
abbrev pub cells_of_two : (first second : Table) → Cells
cells_of_two first second name = option_or (cells_of first name) (cells_of second name)

-- what is wrong with a binding alone
abbrev pub alone_of_two : (first second : ListedTable) → List ℕ → Val → Option ErrorStatus
alone_of_two first second name value =
    option_or (read_only (is_of_column first.entry first.columns) name value) (read_only (is_of_column second.entry second.columns) name value)
