-- The rows that a control table holds, in order of their numbers.
use Rattle.std.specs.Prelude.{◌≡◌, ℕ, zero, suc, List, [], ◌∷◌, ◌<◌, true, false, Option, Some, None, unwrap_or, find, nat_eq, if◌then◌else◌}
use Rattle.std.specs.Option.{option_and_then}
use Rattle.std.specs.List.{position_or_len}
use Rattle.rm_val.specs.Val.{Val}
use Rattle.rm_model.specs.ControlTable.{ControlTable}
use Rattle.rm_model.specs.ControlRows.{Beginning, is_absent}
use Rattle.rm_model.specs.Judgement.{is_row_number}
use Rattle.rm_model.specs.declared.row.State.{State}
use Rattle.rm_model.specs.declared.row.State.TheVariants.{Absent}
use Rattle.rm_status.specs.declared.row.Row.{Row}

-- the one number of an index, and 0, which is no row's, for any other index
abbrev pub row_number : List ℕ → ℕ
row_number (number ∷ []) = number
row_number index = 0

-- the number of the row whose index some numbers can be, and 0, which is no row's, where they can be none
abbrev pub number_in : ControlTable → List ℕ → ℕ
number_in table index = unwrap_or (table.indexing.number_of index) 0

module _ {C : Type 0} where
  -- the row with a number
  abbrev pub row_in : List (Row C) → ℕ → Option (Row C)
  row_in rows i = find (λ row. nat_eq row.index i) rows

  -- its place, and else the number of rows
  abbrev pub place_in : List (Row C) → ℕ → ℕ
  place_in rows i = position_or_len (λ row. nat_eq row.index i) rows

  abbrev pub state_seen : Option (Row C) → State
  state_seen None = Absent
  state_seen (Some row) = row.state

  abbrev pub columns_seen : Option (Row C) → Option C
  columns_seen None = None
  columns_seen (Some row) = Some row.columns

  abbrev pub state_in : List (Row C) → ℕ → State
  state_in rows i = state_seen (row_in rows i)

  abbrev pub columns_in : List (Row C) → ℕ → Option C
  columns_in rows i = columns_seen (row_in rows i)

  -- the rows as a Set finds them
  abbrev pub rows_before : ControlTable → (C → ℕ → Option Val) → List (Row C) → Beginning
  rows_before table set_to rows = record {
    state = λ index. state_in rows (number_in table index);
    set = λ index column. option_and_then (λ columns. set_to columns column) (columns_in rows (number_in table index));
  }

  abbrev pub AllAbove : ℕ → List (Row C) → Type 0
  AllAbove i [] = Unit {0}
  AllAbove i (row ∷ rows) = (i < row.index) × AllAbove i rows

  -- the numbers rise
  abbrev pub Rising : List (Row C) → Type 0
  Rising [] = Unit {0}
  Rising (row ∷ rows) = AllAbove row.index rows × Rising rows

  -- a row has a number that a row can have, and isn't absent
  abbrev pub IsThere : ControlTable → Row C → Type 0
  IsThere table row = (is_row_number table row.index ≡ true) × (is_absent row.state ≡ false)

  abbrev pub AllThere : ControlTable → List (Row C) → Type 0
  AllThere table [] = Unit {0}
  AllThere table (row ∷ rows) = IsThere table row × AllThere table rows

  -- the rows of a control table: their numbers rise, are such as rows can have, and none is absent
  abbrev pub AreControlRows : ControlTable → List (Row C) → Type 0
  AreControlRows table rows = Rising rows × AllThere table rows

  -- the rows with the columns of one of them set
  abbrev pub with_columns : List (Row C) → ℕ → C → List (Row C)
  with_columns [] i w = []
  with_columns (row ∷ rows) i w = if nat_eq row.index i then record row { columns = w } ∷ rows else row ∷ with_columns rows i w

  abbrev pub with_columns_at : List (Row C) → ℕ → C → List (Row C)
  with_columns_at [] k w = []
  with_columns_at (row ∷ rows) zero w = record row { columns = w } ∷ rows
  with_columns_at (row ∷ rows) (suc k) w = row ∷ with_columns_at rows k w

  abbrev pub with_state_at : List (Row C) → ℕ → State → List (Row C)
  with_state_at [] k s = []
  with_state_at (row ∷ rows) zero s = record row { state = s } ∷ rows
  with_state_at (row ∷ rows) (suc k) s = row ∷ with_state_at rows k s

  -- the least number of a row above one, if there is one
  abbrev pub IsIndexAfter : List (Row C) → ℕ → Option ℕ → Type 0
  IsIndexAfter rows at None = (i : ℕ) → at < i → row_in rows i ≡ None
  IsIndexAfter rows at (Some k) = (at < k) × ((row : Row C) × (row_in rows k ≡ Some row)) × ((i : ℕ) → at < i → i < k → row_in rows i ≡ None)
