use Rattle.std.proofs.Common.{◌≡◌, ◌≤◌, ◌++◌, length, take, drop}
use Rattle.std.specs.List.{filter_map}
use Rattle.rm_status.specs.Commit.{settle_row}
use Rattle.rm_status.proofs.controls.commit.settle_rows.Given as goal

abbrev pub invariant-loop-place : goal.invariant-loop-place
invariant-loop-place g l = let C = g.C.ControlRow.form in
    (l.place ≤ length l.initial.rows.items) × (l.rows.items ≡ take l.place l.initial.rows.items ++ filter_map (settle_row C.table C.with_column C.blank (g.A.Assigns.bindings l.set)) (drop l.place l.initial.rows.items))

abbrev pub decreases-loop-place : goal.decreases-loop-place
decreases-loop-place g l = l.place
