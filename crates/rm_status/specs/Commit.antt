-- What a Set makes of the rows of a control table.
use Rattle.std.specs.Prelude.{ℕ, zero, suc, List, [], ◌∷◌, ◌+◌, Bool, false, Option, Some, None, nat_eq, ◌&&◌, not, is_none, unwrap_or, if◌then◌else◌}
use Rattle.rm_val.specs.Val.{Val}
use Rattle.rm_model.specs.ControlTable.{ControlTable, row_index}
use Rattle.std.specs.Str.{bytes_eq}
use Rattle.rm_model.specs.Journal.{Assignment}
use Rattle.rm_model.specs.ControlRows.{cell_name, set_ask, next_state, is_absent}
use Rattle.rm_model.specs.Judgement.{Bindings, name_at, place_of, is_made, is_again}
use Rattle.rm_model.specs.declared.row.State.{State}
use Rattle.rm_model.specs.declared.row.State.TheVariants.{Absent}
use Rattle.rm_model.specs.declared.place.Place.{Place}
use Rattle.rm_model.specs.declared.place.Place.TheVariants.{Cell}
use Rattle.rm_status.specs.declared.row.Row.{Row}
use Rattle.rm_status.specs.Rows.{row_in, state_seen, columns_seen}

-- whether a place is that of a column of a row
abbrev pub is_cell : ℕ → ℕ → Place → Bool
is_cell column row (Cell other number) = nat_eq number row && nat_eq other column
is_cell column row elsewhere = false

-- whether a place is that of some column of a row
abbrev pub is_of_row : ℕ → Place → Bool
is_of_row row (Cell other number) = nat_eq number row
is_of_row row elsewhere = false

-- whether a binding is that of the status of a row
abbrev pub is_status : ControlTable → ℕ → Assignment → Bool
is_status table row binding = bytes_eq binding.name (cell_name table.entry table.status (row_index table row))

-- how many rows the binding at a place makes by what the rows were before, one or none: the first one of the row's status does
abbrev pub made_by : ControlTable → (ℕ → State) → Bindings → Bool → Place → ℕ
made_by table state bindings again (Cell column row) =
    if nat_eq column table.status && (not again && is_made (state row) (set_ask table bindings (row_index table row))) then 1 else 0
made_by table state bindings again elsewhere = 0

-- how many rows the bindings at the first places make
abbrev pub count_made : ControlTable → (ℕ → State) → Bindings → ℕ → ℕ
count_made table state bindings zero = 0
count_made table state bindings (suc k) =
    count_made table state bindings k + made_by table state bindings (is_again bindings k) (place_of table (name_at bindings k))

module _ {C : Type 0} (table : ControlTable) (with_column : C → ℕ → Val → C) (blank : ℕ → C) where
  -- the columns of a row with a binding in them, by where its name stands
  abbrev pub put_at : ℕ → Place → Val → C → C
  put_at i (Cell column row) value columns =
      if nat_eq row i then (if nat_eq column table.status then columns else with_column columns column value) else columns
  put_at i elsewhere value columns = columns

  -- the columns of a row with the bindings in them, so that of each variable the first one counts
  abbrev pub put_all : Bindings → ℕ → C → C
  put_all [] i columns = columns
  put_all (binding ∷ more) i columns = put_at i (place_of table binding.name) binding.value (put_all more i columns)

  -- a row, if it isn't absent
  abbrev pub if_there : Row C → Option (Row C)
  if_there row = if is_absent row.state then None else Some row

  -- what becomes of a row by a Set: its state is the next one, and its columns, which are those of a new row at first, have the bindings in them
  abbrev pub row_after : Bindings → ℕ → Option (Row C) → Option (Row C)
  row_after bindings i row = if_there (record {
    index = i;
    state = next_state (set_ask table bindings (row_index table i)) (state_seen row);
    columns = put_all bindings i (unwrap_or (columns_seen row) (blank i));
  })

  -- the row that a Set makes, before its bindings are in it
  abbrev pub made_row : Bindings → ℕ → Option (Row C)
  made_row bindings i =
      if is_made Absent (set_ask table bindings (row_index table i))
      then Some (record { index = i; state = next_state (set_ask table bindings (row_index table i)) Absent; columns = blank i })
      else None

  -- how many rows the binding at a place makes among rows, one or none
  abbrev pub made_now : List (Row C) → Bindings → Place → ℕ
  made_now rows bindings (Cell column row) =
      if nat_eq column table.status && (is_made Absent (set_ask table bindings (row_index table row)) && is_none (row_in rows row)) then 1 else 0
  made_now rows bindings elsewhere = 0

  -- a row with the bindings in its columns
  abbrev pub write_row : Bindings → Row C → Row C
  write_row bindings row = record row { columns = put_all bindings row.index row.columns }

  -- a row in its next state
  abbrev pub settle_row : Bindings → Row C → Option (Row C)
  settle_row bindings row = if_there (record row { state = next_state (set_ask table bindings (row_index table row.index)) row.state })
