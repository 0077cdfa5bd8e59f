use Rattle.std.proofs.Common.{length}
use Rattle.rm_group.specs.Alone.{alone_at}
use Rattle.rm_dir.specs.Judging.{directory_alone}
use Rattle.rm_dist.specs.Group.{dist_alone}
use Rattle.rm_collect.specs.Collection.{alone}
use Rattle.rm_hl_hosts.specs.Control.{control_rows as host_rows}
use Rattle.rm_hl_hosts.specs.Collection.{host_collection}
use Rattle.rm_hl_matrices.specs.Control.{control_rows as pair_rows}
use Rattle.rm_hl_matrices.specs.Collection.{pair_collection}
use Rattle.rm_protocols.specs.Group.{protocol_alone}
use Rattle.rm_protocols.proofs.group.ProtocolTablesGroup.judge_alone.Goals as goal

pub returns : goal.returns
unfolding protocol_alone
returns g c =
    let b = g.A.Assigns.bindings c.args.set.now in
    c.lowest_verdict.ensures.lowest (length b) (alone_at directory_alone b) (alone_at dist_alone b)
    (alone_at (alone host_rows host_collection) b) (alone_at (alone pair_rows pair_collection) b)
    c.judge_alone-directory.ensures c.judge_alone-distribution.ensures c.judge_alone-hosts.ensures c.judge_alone-pairs.ensures
