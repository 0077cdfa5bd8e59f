-- The rows of a control table whose valid rows collect what frames bring, each in storage of its own.
use Rattle.std.specs.Prelude.{◌≡◌, ◌⊎◌, ℕ, ◌≤◌, [], false, nat_eq, Option, Some, None}
use Rattle.rm_model.specs.Alike.{HasSameColumns}
use Rattle.rm_model.specs.Counting.{Counting}
use Rattle.rm_model.specs.Journal.{Journal, frames_in, last_moment}
use Rattle.rm_model.specs.ControlTable.{ControlTable, row_index}
use Rattle.rm_model.specs.ControlRows.{no_rows, is_valid, state_of, set_value, value_of, since, activated}
use Rattle.rm_model.specs.Judgement.{is_always}
use Rattle.rm_model.specs.declared.row.State.TheVariants.{Valid}
use Rattle.rm_acts.specs.Seen.{seen_since}
use Rattle.rm_columns.specs.RowForm.{RowForm}

-- A row has just become valid by the last act of a journal, with these columns: it has seen no frame.
pub record IsFresh {C : Type 0} (form : RowForm C) (columns : C) (journal : Journal) (row : ℕ) : Type 0 where
  pub columns_are : HasSameColumns form.table (form.set_to columns) (set_value form.table no_rows journal (row_index form.table row))
  pub started : activated form.table no_rows journal (row_index form.table row) ≡ last_moment journal
  pub no_acts : since form.table no_rows journal (row_index form.table row) ≡ []
  pub unseen : seen_since form.table no_rows journal (row_index form.table row) ≡ []

-- A row that is valid after a journal and after a later one has gone on in between without a frame: what can't be set while it is valid
-- is as it was, it has been valid since the same moment, and it has seen the same frames.
pub record GoesOn (table : ControlTable) (row : ℕ) (earlier later : Journal) : Type 0 where
  pub set : (column : ℕ) → nat_eq column table.status ≡ false → is_always table column ≡ false
      → value_of table no_rows later (row_index table row) column ≡ value_of table no_rows earlier (row_index table row) column
  pub started : activated table no_rows later (row_index table row) ≡ activated table no_rows earlier (row_index table row)
  pub frames : frames_in (since table no_rows later (row_index table row)) ≡ frames_in (since table no_rows earlier (row_index table row))
  pub seen : seen_since table no_rows later (row_index table row) ≡ seen_since table no_rows earlier (row_index table row)
  pub moment : last_moment earlier ≤ last_moment later

-- over an act a row goes on, or has seen no frame after it
abbrev pub GoesOnOrSawNone : (table : ControlTable) → (row : ℕ) → (earlier later : Journal) → Type 0
GoesOnOrSawNone table row earlier later = GoesOn table row earlier later ⊎ (seen_since table no_rows later (row_index table row) ≡ [])

-- What is kept of a row is what it has collected after a journal. Nothing is kept exactly of a row that isn't valid.
abbrev pub IsKept : {P : Type 0} → ControlTable → (Counting → Journal → (row : ℕ) → P → Type 0) → Counting → Journal → (row : ℕ) → Option P → Type 0
IsKept table is_of settings journal row (Some part) = (state_of table no_rows journal (row_index table row) ≡ Valid) × is_of settings journal row part
IsKept table is_of settings journal row None = is_valid (state_of table no_rows journal (row_index table row)) ≡ false
