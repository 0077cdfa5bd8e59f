-- The rows of hostControl (RFC 1757, section 5): each asks for the hosts of a data source.
use Rattle.std.specs.Prelude.{ℕ, List, [], ◌∷◌, refl}
use Rattle.rm_val.specs.Val.{Val}
use Rattle.rm_model.specs.Journal.{Journal}
use Rattle.rm_model.specs.ControlTable.{ControlTable}
use Rattle.rm_model.specs.ControlRows.{no_rows, state_of, value_of}
use Rattle.rm_model.specs.declared.row.State.{State}
use Rattle.rm_keyed.specs.SourceControl.{TableEntry, source_control}

-- the identifier of hostControlEntry
abbrev pub control_entry : List ℕ
control_entry = 1 ∷ 3 ∷ 6 ∷ 1 ∷ 2 ∷ 1 ∷ 16 ∷ 4 ∷ 1 ∷ 1 ∷ []

-- by which cells can be named
abbrev pub named_entry : TableEntry
named_entry = record { numbers = control_entry; named = refl }

-- the control table
abbrev pub host_control : ControlTable
host_control = source_control named_entry

-- the state of a row
abbrev pub control_state : Journal → List ℕ → State
control_state journal index = state_of host_control no_rows journal index

-- the value of a column of a row that can be set: 2 is the data source, 5 the owner
abbrev pub control_set : Journal → List ℕ → ℕ → Val
control_set journal index column = value_of host_control no_rows journal index column
