-- When there may be no memory for a Set, on a control table whose rows take storage while they are valid.
use Rattle.std.specs.Prelude.{◌≡◌, ℕ, ◌+◌, ◌<◌, ◌^◌, List, length, Bool, false, ◌&&◌, not, nat_eq, IsTrue}
use Rattle.rm_model.specs.ControlTable.{ControlTable, row_index}
use Rattle.rm_model.specs.ControlRows.{Beginning, set_ask, next_state, is_valid}
use Rattle.rm_model.specs.Judgement.{Bindings, name_at, place_of, count_below}
use Rattle.rm_model.specs.declared.row.State.{State}
use Rattle.rm_model.specs.declared.place.Place.{Place}
use Rattle.rm_model.specs.declared.place.Place.TheVariants.{Cell}

-- the state of a row after a Set
abbrev pub state_after : ControlTable → Beginning → Bindings → List ℕ → State
state_after table before bindings index = next_state (set_ask table bindings index) (before.state index)

-- whether a Set makes a row valid that wasn't
abbrev pub makes_valid : ControlTable → Beginning → Bindings → List ℕ → Bool
makes_valid table before bindings index =
    is_valid (state_after table before bindings index) && not (is_valid (before.state index))

-- how many rows are valid before a Set, and after it
abbrev pub count_valid : ControlTable → Beginning → ℕ
count_valid table before = count_below (λ row. is_valid (before.state (row_index table row))) (2 ^ 32)

abbrev pub count_valid_after : ControlTable → Beginning → Bindings → ℕ
count_valid_after table before bindings = count_below (λ row. is_valid (state_after table before bindings (row_index table row))) (2 ^ 32)

-- whether the status of a row that a Set makes valid stands at a place
abbrev pub activates_at : ControlTable → Beginning → Bindings → Place → Bool
activates_at table before bindings (Cell column row) = nat_eq column table.status && makes_valid table before bindings (row_index table row)
activates_at table before bindings elsewhere = false

-- whether the binding at a place, from 0, is of the status of a row that the Set makes valid
abbrev pub activates : ControlTable → Beginning → Bindings → ℕ → Bool
activates table before bindings place = activates_at table before bindings (place_of table (name_at bindings place))

-- A Set reserves storage for the row that the binding with that number, from 1, makes valid. The storage of one row of the
-- table is there from the beginning, so that a Set after which one row alone is valid reserves nothing.
pub record Reserves (table : ControlTable) (before : Beginning) (bindings : Bindings) (index : ℕ) : Type 0 where
  pub place : ℕ
  pub within : place < length bindings
  pub numbered : index ≡ place + 1
  pub activates_row : IsTrue (activates table before bindings place)
  pub several : 1 < count_valid_after table before bindings
