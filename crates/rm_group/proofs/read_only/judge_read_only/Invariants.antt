use Rattle.std.proofs.Common.{◌≡◌, ℕ, ◌<◌, None}
use Rattle.rm_model.specs.Cells.{is_of_column}
use Rattle.rm_group.specs.Alone.{alone_at, read_only}
use Rattle.rm_group.proofs.read_only.judge_read_only.Given as goal

abbrev pub invariant-loop-place : goal.invariant-loop-place
invariant-loop-place g l =
    (k : ℕ) → k < l.place → alone_at (read_only (is_of_column l.entry l.columns)) (g.A.Assigns.bindings l.set) k ≡ None
