-- How what a row collects begins.
use Rattle.std.specs.Prelude.{◌≡◌, ℕ, List, ◌∷◌, Option, Some, None, true, false, if◌then◌else◌}
use Rattle.rm_model.specs.Counting.{Counting}
use Rattle.rm_model.specs.Journal.{Assignments, Journal, assigns}
use Rattle.rm_model.specs.ControlTable.{row_index}
use Rattle.rm_model.specs.ControlRows.{no_rows, is_valid, state_of}
use Rattle.rm_columns.specs.RowForm.{RowForm}
use Rattle.rm_status.specs.declared.row.Row.{Row}
use Rattle.rm_status.specs.Rows.{row_in}
use Rattle.rm_collect.specs.Rows.{IsFresh}
use Rattle.rm_collect.specs.Collection.{Collection}

-- the columns of a row, if it is valid
abbrev pub if_valid : {C : Type 0} → Option (Row C) → Option C
if_valid None = None
if_valid (Some row) = if is_valid row.state then Some row.columns else None

abbrev pub valid_columns : {C : Type 0} → List (Row C) → (row : ℕ) → Option C
valid_columns rows row = if_valid (row_in rows row)

module _ {C P S J : Type 0} (form : RowForm C) (collection : Collection C P S J) (shared : S) (now : ℕ) where
  -- A part was begun at a moment of a row with these columns: nothing in it is later, and it is what the row has once the Set is begun by
  -- which it has just become valid.
  pub record IsBegun (columns : C) (part : P) : Type 0 where
    pub fits : (frames : ℕ) → collection.fits now frames part
    pub has_begun : (settings : Counting) (values : Assignments) (earlier : Journal) (row : ℕ) → collection.suits shared settings earlier
        → is_valid (state_of form.table no_rows earlier (row_index form.table row)) ≡ false
        → is_valid (state_of form.table no_rows (assigns now values ∷ earlier) (row_index form.table row)) ≡ true
        → IsFresh form columns (assigns now values ∷ earlier) row → collection.has_begun settings (assigns now values) earlier row part

  -- so it was where the row is valid
  abbrev pub Begins : Option C → P → Type 0
  Begins None part = Unit {0}
  Begins (Some columns) part = IsBegun columns part
