-- The storage that the rows of a control table have, and that a Set needs.
use Rattle.std.specs.Prelude.{◌≤◌, max, List, length}
use Rattle.rm_model.specs.Judgement.{Bindings}
use Rattle.rm_model.specs.Reserves.{count_valid, count_valid_after}
use Rattle.rm_columns.specs.RowForm.{RowForm}
use Rattle.rm_status.specs.declared.row.Row.{Row}
use Rattle.rm_status.specs.Rows.{rows_before}
use Rattle.rm_status.specs.Fine.{AreFine}
use Rattle.rm_pool.specs.declared.slot.Slot.{Slot}

-- there is the storage of one row, whether it is spare or not
abbrev pub IsStocked : {P : Type 0} → List (Slot P) → Type 0
IsStocked parts = 1 ≤ length parts

module _ {C P : Type 0} (form : RowForm C) (rows : List (Row C)) (parts : List (Slot P)) where
  -- there is no more storage than that of the valid rows, or that of one row
  abbrev pub IsReleased : Type 0
  IsReleased = length parts ≤ max 1 (count_valid form.table (rows_before form.table form.set_to rows))

  -- there is the storage of each row that is valid after a Set
  abbrev pub HasRoom : Bindings → Type 0
  HasRoom bindings = count_valid_after form.table (rows_before form.table form.set_to rows) bindings ≤ length parts

  -- nothing is wrong with a Set, and there is storage for it
  pub record IsPrepared (bindings : Bindings) : Type 0 where
    pub fine : AreFine form rows bindings
    pub room : HasRoom bindings
