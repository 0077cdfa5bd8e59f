-- When the rows that a control table holds are those after a journal.
use Rattle.std.specs.Prelude.{◌≡◌, ℕ, List, Bool, false, Option, is_some}
use Rattle.rm_val.specs.Val.{Val}
use Rattle.rm_model.specs.Journal.{Journal}
use Rattle.rm_model.specs.ControlTable.{ControlTable}
use Rattle.rm_model.specs.ControlRows.{Beginning, state_of}
use Rattle.rm_model.specs.Judgement.{rows_after}
use Rattle.rm_model.specs.Alike.{AreAlike}
use Rattle.rm_model.specs.declared.row.State.TheVariants.{Absent}
use Rattle.rm_status.specs.declared.row.Row.{Row}
use Rattle.rm_status.specs.Rows.{rows_before}

-- whether numbers can be the index of a row
abbrev pub is_numbered : ControlTable → List ℕ → Bool
is_numbered table index = is_some (table.indexing.number_of index)

-- The rows that are held are those after a journal, in the same states and with the same columns, and the journal has no
-- row whose index none of them can have.
pub record AreRowsAfter {C : Type 0} (table : ControlTable) (beginning : Beginning) (set_to : C → ℕ → Option Val) (rows : List (Row C)) (journal : Journal) : Type 0 where
  pub alike : AreAlike table (rows_before table set_to rows) (rows_after table beginning journal)
  pub others : (index : List ℕ) → is_numbered table index ≡ false → state_of table beginning journal index ≡ Absent
