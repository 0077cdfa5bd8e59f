use Rattle.std.proofs.Common.{◌≡◌, ℕ, ◌≤◌, ◌+◌, length}
use Rattle.rm_status.specs.Rows.{row_in, state_in}
use Rattle.rm_status.specs.Commit.{count_made}
use Rattle.rm_status.proofs.Commits.{made_first}
use Rattle.rm_status.proofs.controls.Controls.commit.Given as goal

abbrev pub invariant-loop-place : goal.invariant-loop-place
invariant-loop-place g l =
    let C = g.C.ControlRow.form in
    record {
      rows : (i : ℕ) → row_in l.self i ≡ made_first C.table C.with_column C.blank (g.A.Assigns.bindings l.set) l.initial.self l.place i;
      few : length l.self ≤ length l.initial.self + count_made C.table (state_in l.initial.self) (g.A.Assigns.bindings l.set) l.place;
    }
