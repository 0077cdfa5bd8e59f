use Rattle.std.proofs.Common.{◌≡◌, ℕ, ◌<◌, None}
use Rattle.rm_model.specs.Judgement.{first_pass}
use Rattle.rm_status.proofs.given.judge_alone.Given as goal

abbrev pub invariant-loop-place : goal.invariant-loop-place
invariant-loop-place g l = (k : ℕ) → k < l.place → first_pass g.C.ControlRow.form.table (g.A.Assigns.bindings l.set) k ≡ None
