-- The rows of protocolDistControl (RFC 2021, section 6): each counts the protocols of the frames of its data source.
use Rattle.std.specs.Prelude.{ℕ, List, [], ◌∷◌}
use Rattle.rm_val.specs.Val.{Val}
use Rattle.rm_model.specs.Journal.{Journal}
use Rattle.rm_model.specs.ControlTable.{ControlTable, source_column, owner_column, entry_table}
use Rattle.rm_model.specs.ControlRows.{no_rows, state_of, value_of}
use Rattle.rm_model.specs.declared.row.State.{State}
use Rattle.rm_model.specs.declared.row.StatusKind.TheVariants.{RowStatus}

-- the identifier of protocolDistControlEntry
abbrev pub control_entry : List ℕ
control_entry = 1 ∷ 3 ∷ 6 ∷ 1 ∷ 2 ∷ 1 ∷ 16 ∷ 12 ∷ 1 ∷ 1 ∷ []

-- the control table; its status is a RowStatus (RFC 1903)
abbrev pub dist_control : ControlTable
dist_control = record (entry_table control_entry 6 (source_column 2 ∷ owner_column 5 ∷ [])) { status_kind = RowStatus }

-- the state of a row, and the data source of it
abbrev pub control_state : Journal → (row : ℕ) → State
control_state journal row = state_of dist_control no_rows journal (row ∷ [])

abbrev pub source_of : Journal → (row : ℕ) → Val
source_of journal row = value_of dist_control no_rows journal (row ∷ []) 2
