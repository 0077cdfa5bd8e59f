-- The rows of a control table whose indexes are one number, in order, and what their columns hold.
use Rattle.std.specs.Prelude.{ℕ, List, [], ◌∷◌, Bool, nat_eq, nat_lt, if◌then◌else◌, filter, filter_map}
use Rattle.rm_val.specs.Contents.{natural_in, octets_in}
use Rattle.rm_model.specs.Journal.{Journal}
use Rattle.rm_model.specs.ControlTable.{ControlTable}
use Rattle.rm_model.specs.ControlRows.{no_rows, is_valid, state_of, value_of}
use Rattle.rm_model.specs.Indexes.{indexes_of}
use Rattle.rm_model.specs.Indexing.{one_of}
use Rattle.rm_model.specs.declared.row.State.{State}

-- the state of a row, whether it is valid, and what a column of it holds
abbrev pub row_state : ControlTable → Journal → ℕ → State
row_state table journal row = state_of table no_rows journal (row ∷ [])

abbrev pub has_valid : ControlTable → Journal → ℕ → Bool
has_valid table journal row = is_valid (row_state table journal row)

abbrev pub number_in : ControlTable → Journal → ℕ → (column : ℕ) → ℕ
number_in table journal row column = natural_in (value_of table no_rows journal (row ∷ []) column)

abbrev pub text_in : ControlTable → Journal → ℕ → (column : ℕ) → List ℕ
text_in table journal row column = octets_in (value_of table no_rows journal (row ∷ []) column)

-- numbers in rising order, each once, with one more
abbrev pub with_number : ℕ → List ℕ → List ℕ
with_number number [] = number ∷ []
with_number number (first ∷ more) =
    if nat_lt number first then number ∷ first ∷ more
    else if nat_eq number first then first ∷ more
    else first ∷ with_number number more

abbrev pub with_numbers : List ℕ → List ℕ → List ℕ
with_numbers [] others = others
with_numbers (number ∷ more) others = with_number number (with_numbers more others)

-- the rows whose status was set so far, in rising order
abbrev pub named_rows : ControlTable → Journal → List ℕ
named_rows table journal = with_numbers (filter_map one_of (indexes_of table [] journal)) []

-- the valid rows, in rising order
abbrev pub valid_rows : ControlTable → Journal → List ℕ
valid_rows table journal = filter (has_valid table journal) (named_rows table journal)
