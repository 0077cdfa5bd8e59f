-- The indexes that the rows of a control table can have after a journal.
use Rattle.std.specs.Prelude.{ℕ, List, [], ◌∷◌, ◌++◌, Option, filter_map}
use Rattle.std.specs.Option.{option_map}
use Rattle.rm_model.specs.Journal.{Journal, Assignment, Assignments, passes, assigns, samples}
use Rattle.rm_model.specs.Cells.{instance_of}
use Rattle.rm_model.specs.ControlTable.{ControlTable}

-- the index of the row whose status has a name, if it is the name of one
abbrev pub index_named : ControlTable → Assignment → Option (List ℕ)
index_named table assignment = option_map (λ at. at.index) (instance_of table.entry (table.status ∷ []) assignment.name)

-- the indexes of the rows whose status a Set names
abbrev pub indexes_named : ControlTable → Assignments → List (List ℕ)
indexes_named table values = filter_map (index_named table) values

-- the indexes that rows can have after a journal: those of the beginning, and those whose status a Set named
abbrev pub indexes_of : ControlTable → List (List ℕ) → Journal → List (List ℕ)
indexes_of table first [] = first
indexes_of table first (assigns moment values ∷ earlier) = indexes_named table values ++ indexes_of table first earlier
indexes_of table first (passes frame ∷ earlier) = indexes_of table first earlier
indexes_of table first (samples moment alarm reading ∷ earlier) = indexes_of table first earlier
