use Rattle.std.proofs.Common.{◌≡◌, ℕ, ◌<◌, None}
use Rattle.rm_status.specs.Rows.{rows_before}
use Rattle.rm_dir.specs.DirectoryRows.{set_to}
use Rattle.rm_dir.specs.Judging.{local_fault}
use Rattle.rm_dir.specs.ProtocolDir.{protocol_dir}
use Rattle.rm_dir.proofs.locals.judge_locals.Given as goal

-- nothing is wrong with the bindings so far
abbrev pub invariant-loop-place : goal.invariant-loop-place
invariant-loop-place g l =
    (k : ℕ) → k < l.place → local_fault l.given (rows_before protocol_dir set_to l.rows) (g.A.Assigns.bindings l.set) k ≡ None
