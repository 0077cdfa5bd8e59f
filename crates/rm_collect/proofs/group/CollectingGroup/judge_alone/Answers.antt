use Rattle.std.proofs.Common.{length}
use Rattle.rm_model.specs.Judgement.{first_pass}
use Rattle.rm_group.specs.Alone.{alone_at}
use Rattle.rm_collect.proofs.group.CollectingGroup.judge_alone.Goals as goal

pub returns : goal.returns
returns g c =
    let bs = g.A.Assigns.bindings c.args.set.now in
    c.lower_verdict.ensures.lowest (length bs) (first_pass g.P.Columns.ControlRow.form.table bs) (alone_at g.P.Collected.collection.inner_alone bs) c.judge_alone.ensures c.judge_inner.ensures
