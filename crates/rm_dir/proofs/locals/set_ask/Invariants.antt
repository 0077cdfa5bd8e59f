use Rattle.std.proofs.Common.{◌≡◌, ℕ, ◌<◌, false}
use Rattle.rm_model.specs.Judgement.{name_at, place_of}
use Rattle.rm_status.specs.Commit.{is_cell}
use Rattle.rm_dir.specs.ProtocolDir.{protocol_dir}
use Rattle.rm_dir.proofs.locals.set_ask.Given as goal

-- no binding so far is the row's status
abbrev pub invariant-loop-place : goal.invariant-loop-place
invariant-loop-place g l = (k : ℕ) → k < l.place → is_cell 10 l.row (place_of protocol_dir (name_at (g.A.Assigns.bindings l.set) k)) ≡ false
