use Rattle.std.proofs.Common.{◌≡◌, ℕ, ◌<◌, false}
use Rattle.rm_model.specs.Reserves.{activates}
use Rattle.rm_status.specs.Rows.{rows_before}
use Rattle.rm_status.proofs.controls.Controls.first_activated.Given as goal

abbrev pub invariant-loop-place : goal.invariant-loop-place
invariant-loop-place g l =
    let C = g.C.ControlRow.form in
    (k : ℕ) → k < l.place → activates C.table (rows_before C.table C.set_to l.self) (g.A.Assigns.bindings l.set) k ≡ false
