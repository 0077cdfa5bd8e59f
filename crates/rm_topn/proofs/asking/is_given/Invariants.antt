use Rattle.std.proofs.Common.{◌≡◌, ℕ, ◌<◌, false}
use Rattle.std.specs.Str.{bytes_eq}
use Rattle.rm_model.specs.Judgement.{name_at}
use Rattle.rm_topn.proofs.asking.is_given.Given as goal

-- no binding so far has the name
abbrev pub invariant-loop-place : goal.invariant-loop-place
invariant-loop-place g l = (k : ℕ) → k < l.place → bytes_eq (name_at (g.A.Assigns.bindings l.set) k) l.name ≡ false
