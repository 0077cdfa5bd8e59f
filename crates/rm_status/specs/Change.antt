-- A change of the columns of rows.
use Rattle.std.specs.Prelude.{ℕ}
use Rattle.rm_model.specs.declared.row.State.{State}
use Rattle.rm_status.specs.declared.row.Row.{Row}

module _ {C : Type 0} where
  -- a row with its columns changed, by its index and its state
  abbrev pub changed_row : (ℕ → State → C → C) → Row C → Row C
  changed_row change row = record row { columns = change row.index row.state row.columns }
