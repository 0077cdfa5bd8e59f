use Rattle.std.proofs.Common.{◌≡◌, ℕ, ◌<◌, false, bytes_eq}
use Rattle.rm_model.specs.Judgement.{name_at}
use Rattle.rm_dir.proofs.locals.is_again.Given as goal

abbrev pub invariant-loop-earlier : goal.invariant-loop-earlier
invariant-loop-earlier g l = (k : ℕ) → k < l.earlier → bytes_eq (name_at (g.A.Assigns.bindings l.set) k) (name_at (g.A.Assigns.bindings l.set) l.place) ≡ false
