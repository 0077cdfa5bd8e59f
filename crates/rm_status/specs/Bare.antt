-- Rows without their other data.
use Rattle.std.specs.Prelude.{ℕ, List, Option, map}
use Rattle.rm_val.specs.Val.{Val}
use Rattle.rm_status.specs.declared.row.Row.{Row}

module _ {C : Type 0} where
  -- a row with nothing in its columns but what these were set to
  abbrev pub bare_row : (C → ℕ → Option Val) → Row C → Row (ℕ → Option Val)
  bare_row set_to row = record { index = row.index; state = row.state; columns = set_to row.columns }

  abbrev pub bare_rows : (C → ℕ → Option Val) → List (Row C) → List (Row (ℕ → Option Val))
  bare_rows set_to rows = map (bare_row set_to) rows
