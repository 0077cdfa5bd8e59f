use Rattle.std.proofs.Common.{◌≡◌, ◌≤◌, length, drop}
use Rattle.rm_status.specs.Commit.{put_all}
use Rattle.rm_status.proofs.given.put_all.Given as goal

abbrev pub invariant-loop-place : goal.invariant-loop-place
invariant-loop-place g l =
    (l.place ≤ length (g.A.Assigns.bindings l.set)) × (l.columns ≡ put_all g.C.ControlRow.form.table g.C.ControlRow.form.with_column g.C.ControlRow.form.blank (drop l.place (g.A.Assigns.bindings l.set)) l.row l.initial.columns)

abbrev pub decreases-loop-place : goal.decreases-loop-place
decreases-loop-place g l = l.place
