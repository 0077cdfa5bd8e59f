use Rattle.std.proofs.Common.{◌≤◌, ℕ, sym, subst}
use Rattle.rm_model.specs.Journal.{last_moment}
use Rattle.rm_topn.specs.Kept.{HasEndedBy}
use Rattle.rm_topn.proofs.Going.{frame_passes}
use Rattle.rm_topn.proofs.course.Course.frame_passes.Goals as goal

pub returns : goal.returns
returns c settings journal row frame at later ended is =
    frame_passes settings frame journal row c.args.self.now
    (subst (λ (n : ℕ). last_moment journal ≤ n) (sym at) later) (subst (λ (n : ℕ). HasEndedBy c.args.self.now n) (sym at) ended) is
