-- What a column of a control row is kept in, and the values with which columns begin.
use Rattle.std.specs.Prelude.{◌≡◌, ℕ, List, [], ◌∷◌, Bool, true, nat_eq, if◌then◌else◌, Option, Some, None, unwrap_or, find}
use Rattle.std.specs.Option.{option_map}
use Rattle.rm_val.specs.Val.{Val}
use Rattle.rm_model.specs.ControlTable.{Kind, Column, ControlTable, default_of}
use Rattle.rm_model.specs.Judgement.{value_fault, of_columns}

-- what one of some columns takes, if it is one
abbrev pub kind_in : List Column → ℕ → Option Kind
kind_in columns n = option_map (λ c. c.kind) (find (λ c. nat_eq c.number n) columns)

-- the value with which a column begins, if its row doesn't need it to be set
abbrev pub first_value : Column → Option Val
first_value column = if column.needed then None else Some column.default

abbrev pub first_in : List Column → ℕ → Option Val
first_in [] n = None
first_in (column ∷ more) n = if nat_eq column.number n then first_value column else first_in more n

-- what each column shows, by what was set
abbrev pub shown_with : ControlTable → (ℕ → Option Val) → ℕ → Val
shown_with table set n = unwrap_or (of_columns table set n) (default_of table n)

-- A type of what a column was set to: which kinds of columns it can be kept for, what it shows if it was set, and what it is after it
-- was set to a value.
pub record FieldOf (F : Type 0) : Type 0 where
  pub holds : Kind → Bool
  pub shown : F → Option Val
  pub taken : Val → F
  -- a field shows the value that it was set to
  pub shows : (kind : Kind) (value : Val) → holds kind ≡ true → value_fault (Some kind) value ≡ None → shown (taken value) ≡ Some value

-- what a column that can be set shows, by what each column of the row was set to
abbrev pub shows : {C : Type 0} → ControlTable → (C → ℕ → Option Val) → C → ℕ → Val
shows table set_to columns column = unwrap_or (set_to columns column) (default_of table column)
