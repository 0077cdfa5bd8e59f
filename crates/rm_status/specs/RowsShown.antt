-- What the rows of a control table show, by the form in which they are kept.
use Rattle.std.specs.Prelude.{◌≡◌, ℕ, List, nat_eq, if◌then◌else◌, Some}
use Rattle.rm_val.specs.Val.{Val}
use Rattle.rm_model.specs.Cells.{Table}
use Rattle.rm_model.specs.ControlRows.{index_value}
use Rattle.rm_columns.specs.RowForm.{RowForm}
use Rattle.rm_status.specs.declared.row.Row.{Row}
use Rattle.rm_status.specs.Rows.{row_in}
use Rattle.rm_status.specs.KeptCells.{kept_cells}

-- what the columns show that can't be set: 1 is the index
abbrev pub with_index : (ℕ → List ℕ → Val) → ℕ → List ℕ → Val
with_index others column index = if nat_eq column 1 then index_value index else others column index

module _ {C : Type 0} where
  -- the table with these rows, by what the columns show that can't be set, the index left out
  abbrev pub rows_shown : RowForm C → (ℕ → List ℕ → Val) → List (Row C) → Table
  rows_shown form others rows = kept_cells form.table form.set_to form.shown (with_index others) rows

  -- each of some rows is one of which all that it shows has a spelling
  abbrev pub AreSpelled : (C → Type 0) → List (Row C) → Type 0
  AreSpelled spelled rows = (index : ℕ) (row : Row C) → row_in rows index ≡ Some row → spelled row.columns
