use Rattle.std.proofs.Common.{rules, length}
use Rattle.rm_model.specs.ControlRows.{no_rows}
use Rattle.rm_model.specs.Judgement.{second_pass, rows_after}
use Rattle.rm_dir.specs.Judging.{directory_alone, directory_together}
use Rattle.rm_dist.specs.Control.{dist_control}
use Rattle.rm_dist.specs.Group.{dist_alone}
use Rattle.rm_collect.specs.Collection.{alone}
use Rattle.rm_hl_hosts.specs.Control.{control_rows as host_rows}
use Rattle.rm_hl_hosts.specs.Collection.{host_collection}
use Rattle.rm_hl_matrices.specs.Control.{control_rows as pair_rows}
use Rattle.rm_hl_matrices.specs.Collection.{pair_collection}
use Rattle.rm_four.proofs.Firsts.{fine_alone}
use Rattle.rm_protocols.specs.Group.{protocol_alone, protocol_together}
use Rattle.rm_protocols.proofs.group.ProtocolTablesGroup.judge_rows.Goals as goal

pub judge_rows-directory-requires : goal.judge_rows-directory-requires
unfolding protocol_alone
judge_rows-directory-requires g c =
    let fine = fine_alone directory_alone dist_alone (alone host_rows host_collection) (alone pair_rows pair_collection) (g.A.Assigns.bindings c.args.set.now) c.requires.alone in
    record { alone = fine.0.0.0 }

pub judge_rows-distribution-requires : goal.judge_rows-distribution-requires
unfolding protocol_alone
judge_rows-distribution-requires g c =
    let fine = fine_alone directory_alone dist_alone (alone host_rows host_collection) (alone pair_rows pair_collection) (g.A.Assigns.bindings c.args.set.now) c.requires.alone in
    record { alone = fine.0.0.1 }

pub judge_rows-hosts-requires : goal.judge_rows-hosts-requires
unfolding protocol_alone
judge_rows-hosts-requires g c =
    let fine = fine_alone directory_alone dist_alone (alone host_rows host_collection) (alone pair_rows pair_collection) (g.A.Assigns.bindings c.args.set.now) c.requires.alone in
    (search rules, fine.0.1)

pub judge_rows-pairs-requires : goal.judge_rows-pairs-requires
unfolding protocol_alone
judge_rows-pairs-requires g c =
    let fine = fine_alone directory_alone dist_alone (alone host_rows host_collection) (alone pair_rows pair_collection) (g.A.Assigns.bindings c.args.set.now) c.requires.alone in
    (search rules, fine.1)

pub returns-clause-accepted : goal.returns-clause-accepted
returns-clause-accepted g c fine =
    let all = c.lowest_verdict.ensures.fine fine in record {
      directory = c.judge_rows-directory.ensures.accepted all.0.0.0;
      distribution = c.judge_rows-distribution.ensures.accepted all.0.0.1;
      hosts = c.judge_rows-hosts.ensures.accepted all.0.1;
      pairs = c.judge_rows-pairs.ensures.accepted all.1;
    }

pub returns-clause-verdict : goal.returns-clause-verdict
unfolding protocol_together
returns-clause-verdict g c settings journal stands later askable =
    let b = g.A.Assigns.bindings c.args.set.now in
    c.lowest_verdict.ensures.lowest (length b) (directory_together journal b) (second_pass dist_control (rows_after dist_control no_rows journal) b)
    (second_pass host_rows.table (rows_after host_rows.table no_rows journal) b) (second_pass pair_rows.table (rows_after pair_rows.table no_rows journal) b)
    (c.judge_rows-directory.ensures.verdict settings journal stands.directory later tt)
    (c.judge_rows-distribution.ensures.verdict settings journal stands.distribution later tt)
    (c.judge_rows-hosts.ensures.verdict settings journal stands.hosts later tt)
    (c.judge_rows-pairs.ensures.verdict settings journal stands.pairs later tt)

pub returns-clause-within : goal.returns-clause-within
returns-clause-within g c =
    c.lowest_verdict.ensures.within (length (g.A.Assigns.bindings c.args.set.now)) c.judge_rows-directory.ensures.within
    c.judge_rows-distribution.ensures.within c.judge_rows-hosts.ensures.within c.judge_rows-pairs.ensures.within
