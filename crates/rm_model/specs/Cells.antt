-- The variables that have a value, and the next of them.
use Rattle.std.specs.Prelude.{◌≡◌, ℕ, List, [], ◌∷◌, ◌++◌, Bool, false, nat_eq, if◌then◌else◌, Option, Some, None, is_some}
use Rattle.std.specs.List.{list_any, starts_with}
use Rattle.rm_val.specs.Val.{Val}
use Rattle.rm_model.specs.Names.{IsLeastAbove}
use Rattle.rm_model.specs.declared.instance.Instance.{Instance}

-- the value of each variable that there is, by its name
abbrev pub Cells : Type 0
Cells = List ℕ → Option Val

-- whether a variable with that name has a value
abbrev pub has_cell : Cells → List ℕ → Bool
has_cell cells name = is_some (cells name)

-- What GetNext finds above a name (RFC 1905, section 4.2.2): the value of the variable with the least greater
-- name, and that name; or nothing where no variable has a greater one.
abbrev pub IsNext : Cells → List ℕ → Option Val → List ℕ → Type 0
IsNext cells asked (Some value) found = IsLeastAbove (has_cell cells) asked (Some found) × (cells found ≡ Some value)
IsNext cells asked None found = IsLeastAbove (has_cell cells) asked None

-- what is left of a name behind a front with which it begins
abbrev pub behind : List ℕ → List ℕ → Option (List ℕ)
behind [] name = Some name
behind (x ∷ front) [] = None
behind (x ∷ front) (y ∷ name) = if nat_eq x y then behind front name else None

-- whether a number is one of these
abbrev pub is_one_of : List ℕ → ℕ → Bool
is_one_of numbers number = list_any (λ other. nat_eq other number) numbers

-- the instance that is left behind an entry: a column that is answered, and the numbers after it
abbrev pub instance_left : List ℕ → Option (List ℕ) → Option Instance
instance_left columns (Some (column ∷ index)) =
    if is_one_of columns column then Some (record { column = column; index = index }) else None
instance_left columns (Some []) = None
instance_left columns None = None

-- The instance that a name is under the entry of a table with these columns, whether or not it has that row. It is
-- one exactly where the name begins with the identifier of one of these columns.
abbrev pub instance_of : List ℕ → List ℕ → List ℕ → Option Instance
instance_of entry columns name = instance_left columns (behind entry name)

-- whether a name begins with the identifier of one of the columns under an entry
abbrev pub is_of_column : List ℕ → List ℕ → List ℕ → Bool
is_of_column entry columns name = list_any (λ column. starts_with nat_eq name (entry ++ column ∷ [])) columns

-- whether an instance is that of a row
abbrev pub is_of_row : (List ℕ → Bool) → Option Instance → Bool
is_of_row is_row (Some at) = is_row at.index
is_of_row is_row None = false

-- whether a name is that of a cell of the table with this entry, these columns and these rows
abbrev pub is_cell_name : List ℕ → List ℕ → (List ℕ → Bool) → List ℕ → Bool
is_cell_name entry columns is_row name = is_of_row is_row (instance_of entry columns name)

-- A conceptual table at one moment (RFC 1902, section 7.1.12): the identifier of its entry, the columns that are
-- answered, in rising order, which lists of numbers are the index of a row, and the value of a column in a row. The
-- scalars of a group are a table with one row, whose index is the number 0.
pub record Table : Type 0 where
  pub entry : List ℕ
  pub columns : List ℕ
  pub is_row : List ℕ → Bool
  pub value : ℕ → List ℕ → Val

-- the cell at an instance, if there is one
abbrev pub cell_at : Table → Option Instance → Option Val
cell_at table (Some at) = if table.is_row at.index then Some (table.value at.column at.index) else None
cell_at table None = None

-- the cells of a table: a name has one where it is the entry, an answered column, and the index of a row
abbrev pub cells_of : Table → Cells
cells_of table name = cell_at table (instance_of table.entry table.columns name)
