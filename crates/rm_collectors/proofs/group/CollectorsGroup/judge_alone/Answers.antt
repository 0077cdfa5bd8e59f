use Rattle.std.proofs.Common.{length}
use Rattle.rm_group.specs.Alone.{alone_at}
use Rattle.rm_collect.specs.Collection.{alone}
use Rattle.rm_history.specs.ControlColumns.{control_rows as history_rows}
use Rattle.rm_history.specs.Collection.{history_collection}
use Rattle.rm_matrix.specs.ControlColumns.{control_rows as matrix_rows}
use Rattle.rm_matrix.specs.Collection.{matrix_collection}
use Rattle.rm_hosts.specs.ControlColumns.{control_rows as host_rows}
use Rattle.rm_hosts.specs.Collection.{host_collection}
use Rattle.rm_topn.specs.Group.{top_alone}
use Rattle.rm_collectors.specs.Group.{collected_alone}
use Rattle.rm_collectors.proofs.group.CollectorsGroup.judge_alone.Goals as goal

pub returns : goal.returns
unfolding collected_alone
returns g c =
    let b = g.A.Assigns.bindings c.args.set.now in
    c.lowest_verdict.ensures.lowest (length b) (alone_at (alone history_rows history_collection) b) (alone_at (alone matrix_rows matrix_collection) b)
    (alone_at (alone host_rows host_collection) b) (alone_at top_alone b)
    c.judge_alone-history.ensures c.judge_alone-matrix.ensures c.judge_alone-hosts.ensures c.judge_alone-reports.ensures
