use Rattle.std.proofs.Common.{◌≡◌, ℕ, ◌<◌, None}
use Rattle.rm_val.specs.declared.error.ErrorStatus.TheVariants.{NotWritable}
use Rattle.rm_model.specs.Judgement.{unless}
use Rattle.rm_group.specs.Alone.{alone_at}
use Rattle.rm_reply.proofs.set.judge_objects.Given as goal

abbrev pub invariant-loop-place : goal.invariant-loop-place
invariant-loop-place g l =
    (k : ℕ) → k < l.place → alone_at (λ name value. unless (g.G.Objects.objects name) NotWritable) (g.A.Assigns.bindings l.set) k ≡ None
