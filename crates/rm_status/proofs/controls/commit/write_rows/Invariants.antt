use Rattle.std.proofs.Common.{◌≡◌, ◌++◌, map, take, drop}
use Rattle.rm_status.specs.Commit.{write_row}
use Rattle.rm_status.proofs.controls.commit.write_rows.Given as goal

abbrev pub invariant-loop-row : goal.invariant-loop-row
invariant-loop-row g l = let C = g.C.ControlRow.form in
    l.rows ≡ map (write_row C.table C.with_column C.blank (g.A.Assigns.bindings l.set)) (take l.row-index l.initial.rows) ++ drop l.row-index l.initial.rows
