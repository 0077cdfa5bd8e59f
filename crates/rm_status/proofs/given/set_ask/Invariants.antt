use Rattle.std.proofs.Common.{◌≡◌, ℕ, ◌<◌, [], ◌∷◌, false}
use Rattle.std.specs.Str.{bytes_eq}
use Rattle.rm_model.specs.ControlTable.{row_index}
use Rattle.rm_model.specs.ControlRows.{cell_name}
use Rattle.rm_model.specs.Judgement.{name_at}
use Rattle.rm_status.proofs.given.set_ask.Given as goal

-- no binding so far is the row's status
abbrev pub invariant-loop-place : goal.invariant-loop-place
invariant-loop-place g l =
    (k : ℕ) → k < l.place → bytes_eq (name_at (g.A.Assigns.bindings l.set) k) (cell_name g.C.ControlRow.form.table.entry g.C.ControlRow.form.table.status (row_index g.C.ControlRow.form.table l.row)) ≡ false
