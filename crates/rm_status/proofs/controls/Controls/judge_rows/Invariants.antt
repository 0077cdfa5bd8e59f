use Rattle.std.proofs.Common.{◌≡◌, ℕ, ◌<◌, None}
use Rattle.rm_model.specs.Judgement.{second_pass}
use Rattle.rm_status.specs.Rows.{rows_before}
use Rattle.rm_status.proofs.controls.Controls.judge_rows.Given as goal

abbrev pub invariant-loop-place : goal.invariant-loop-place
invariant-loop-place g l =
    let C = g.C.ControlRow.form in
    (k : ℕ) → k < l.place → second_pass C.table (rows_before C.table C.set_to l.self) (g.A.Assigns.bindings l.set) k ≡ None
