-- The rows of matrixControl (RFC 1757, section 5): each asks for the pairs of hosts of a data source.
use Rattle.std.specs.Prelude.{ℕ, List, [], ◌∷◌, refl}
use Rattle.rm_model.specs.ControlTable.{ControlTable}
use Rattle.rm_keyed.specs.SourceControl.{TableEntry, source_control}

-- the identifier of matrixControlEntry
abbrev pub control_entry : List ℕ
control_entry = 1 ∷ 3 ∷ 6 ∷ 1 ∷ 2 ∷ 1 ∷ 16 ∷ 6 ∷ 1 ∷ 1 ∷ []

-- by which cells can be named
abbrev pub named_entry : TableEntry
named_entry = record { numbers = control_entry; named = refl }

-- the control table
abbrev pub matrix_control : ControlTable
matrix_control = source_control named_entry
