-- The rows of hlHostControl and of hlMatrixControl (RFC 2021, section 6): each asks for what the frames of a data source name, in the network and
-- application layer. Both tables have the same columns.
use Rattle.std.specs.Prelude.{ℕ, pos, negsuc, List, [], ◌∷◌, Bool, Option, Some, None}
use Rattle.rm_val.specs.Val.{Val, int}
use Rattle.rm_model.specs.Counting.{Counting}
use Rattle.rm_model.specs.Journal.{Journal}
use Rattle.rm_model.specs.ControlTable.{ControlTable, Column, Range, number, plain_column, source_column, owner_column, entry_table}
use Rattle.rm_model.specs.ControlRows.{no_rows, state_of, value_of, is_valid}
use Rattle.rm_model.specs.declared.row.State.{State}
use Rattle.rm_model.specs.declared.row.StatusKind.TheVariants.{RowStatus}
use Rattle.rm_layers.specs.Capacity.{capacity}

-- -1, or a number that isn't below a least one
abbrev pub none_or_from : ℕ → List Range
none_or_from least = record { least = negsuc 0; greatest = negsuc 0 } ∷ record { least = pos least; greatest = pos 2147483647 } ∷ []

-- how many rows are desired at most, -1 for as many as there can be
abbrev pub desired_column : (column least : ℕ) → Column
desired_column column least = plain_column column (number (none_or_from least)) (int (negsuc 0))

-- The control table with an entry; its status is a RowStatus (RFC 1903). Fewer than 32 application rows aren't asked for: a network row has room
-- for as many.
abbrev pub layer_control : (entry : List ℕ) → ControlTable
layer_control entry =
    record (entry_table entry 12 (source_column 2 ∷ desired_column 6 1 ∷ desired_column 10 32 ∷ owner_column 11 ∷ [])) { status_kind = RowStatus }

-- the most rows that a value asks for, if it sets a bound
abbrev pub bound_of : Val → Option ℕ
bound_of (int (pos most)) = Some most
bound_of other = None

module _ (entry : List ℕ) (journal : Journal) (row : ℕ) where
  -- the state of a row, whether it is active, and what a column of it was set to
  abbrev pub control_state : State
  control_state = state_of (layer_control entry) no_rows journal (row ∷ [])

  abbrev pub is_active : Bool
  is_active = is_valid control_state

  abbrev pub control_set : (column : ℕ) → Val
  control_set column = value_of (layer_control entry) no_rows journal (row ∷ []) column

  -- How many network rows a row has room for. It can't change while the row is active, since none of these columns can be set then.
  abbrev pub room_for : Counting → ℕ
  room_for settings = capacity settings.upper (bound_of (control_set 6)) (bound_of (control_set 10))
