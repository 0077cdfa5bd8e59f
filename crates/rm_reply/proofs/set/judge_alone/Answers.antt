use Rattle.std.proofs.Common.{length}
use Rattle.rm_val.specs.declared.error.ErrorStatus.TheVariants.{NotWritable}
use Rattle.rm_model.specs.Judgement.{unless}
use Rattle.rm_group.specs.Alone.{alone_at}
use Rattle.rm_reply.proofs.set.judge_alone.Goals as goal

pub returns-clause-alone : goal.returns-clause-alone
returns-clause-alone g c =
    let bindings = g.A.Assigns.bindings c.args.set.now in
    c.lower_verdict.ensures.lowest (length bindings)
    (alone_at (λ name value. unless (g.G.Objects.objects name) NotWritable) bindings) (alone_at g.G.Group.alone bindings)
    c.judge_objects.ensures c.judge_alone.ensures
