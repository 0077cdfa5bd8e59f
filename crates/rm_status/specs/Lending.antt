-- What a control table ends as, where a row's columns are lent.
use Rattle.std.specs.Prelude.{ℕ, List, Option}
use Rattle.std.specs.Borrow.{LendsIf, Fml, RattleType, MutBor}
use Rattle.rm_status.specs.declared.row.Row.{Row}
use Rattle.arrayvec.specs.ArrayVec.{ArrayVec}
use Rattle.arrayvec.specs.contracts.array_vec.ArrayVec as vector
use Rattle.rm_status.specs.Rows.{with_columns, with_columns_at}
use Rattle.rm_status.specs.contracts.row.Row as row
use Rattle.rm_status.specs.contracts.controls.Controls.{the_row}
use Rattle.rm_columns.specs.declared.control_row.ControlRow as ControlRow
use Rattle.rm_columns.specs.declared.row_keys.RowKeys as RowKeys

-- the row of that index ends with the columns last written through r
abbrev pub lends_columns : (C Keys : RattleType) (columns : ControlRow.Ghosts C.Denot Keys.Denot) (keys : RowKeys.Ghosts Keys.Denot)
    → MutBor (List (Row C.Denot)) → ℕ → Option (MutBor C.Denot) → Fml
lends_columns C Keys columns keys rows i r = LendsIf (the_row C Keys columns keys) C rows r (with_columns rows.now i) rows.now

-- the row at that place does
abbrev pub lends_columns_at : (C N A : RattleType) → MutBor (ArrayVec (Row C.Denot)) → ℕ → Option (MutBor C.Denot) → Fml
lends_columns_at C N A rows k r = LendsIf (vector.the_row (row.the_row C) N A) C rows r (λ w. record { items = with_columns_at rows.now.items k w }) rows.now
