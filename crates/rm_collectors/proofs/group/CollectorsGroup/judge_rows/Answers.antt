use Rattle.std.proofs.Common.{rules, length}
use Rattle.rm_model.specs.ControlRows.{no_rows}
use Rattle.rm_model.specs.Judgement.{second_pass, rows_after}
use Rattle.rm_collect.specs.Collection.{alone}
use Rattle.rm_history.specs.ControlColumns.{control_rows as history_rows}
use Rattle.rm_history.specs.Collection.{history_collection}
use Rattle.rm_matrix.specs.ControlColumns.{control_rows as matrix_rows}
use Rattle.rm_matrix.specs.Collection.{matrix_collection}
use Rattle.rm_hosts.specs.ControlColumns.{control_rows as host_rows}
use Rattle.rm_hosts.specs.Collection.{host_collection}
use Rattle.rm_topn.specs.Control.{top_control}
use Rattle.rm_topn.specs.Group.{top_alone}
use Rattle.rm_four.proofs.Firsts.{fine_alone}
use Rattle.rm_collectors.specs.Group.{collected_alone, collected_together}
use Rattle.rm_collectors.proofs.group.CollectorsGroup.judge_rows.Goals as goal

pub judge_rows-matrix-requires : goal.judge_rows-matrix-requires
unfolding collected_alone
judge_rows-matrix-requires g c =
    let fine = fine_alone (alone history_rows history_collection) (alone matrix_rows matrix_collection) (alone host_rows host_collection) top_alone (g.A.Assigns.bindings c.args.set.now) c.requires.alone in
    (search rules, fine.0.0.1)

pub judge_rows-hosts-requires : goal.judge_rows-hosts-requires
unfolding collected_alone
judge_rows-hosts-requires g c =
    let fine = fine_alone (alone history_rows history_collection) (alone matrix_rows matrix_collection) (alone host_rows host_collection) top_alone (g.A.Assigns.bindings c.args.set.now) c.requires.alone in
    (search rules, fine.0.1)

pub judge_beside-reports-requires : goal.judge_beside-reports-requires
unfolding collected_alone
judge_beside-reports-requires g c =
    let fine = fine_alone (alone history_rows history_collection) (alone matrix_rows matrix_collection) (alone host_rows host_collection) top_alone (g.A.Assigns.bindings c.args.set.now) c.requires.alone in
    record { alone = fine.1 }

pub returns-clause-accepted : goal.returns-clause-accepted
returns-clause-accepted g c fine =
    let all = c.lowest_verdict.ensures.fine fine in record {
      history = c.judge_rows-history.ensures.accepted all.0.0.0;
      matrix = c.judge_rows-matrix.ensures.accepted all.0.0.1;
      hosts = c.judge_rows-hosts.ensures.accepted all.0.1;
      reports = c.judge_beside-reports.ensures.accepted all.1;
    }

pub returns-clause-verdict : goal.returns-clause-verdict
unfolding collected_together
returns-clause-verdict g c settings journal stands later askable =
    let b = g.A.Assigns.bindings c.args.set.now in
    c.lowest_verdict.ensures.lowest (length b) (second_pass history_rows.table (rows_after history_rows.table no_rows journal) b)
    (second_pass matrix_rows.table (rows_after matrix_rows.table no_rows journal) b) (second_pass host_rows.table (rows_after host_rows.table no_rows journal) b)
    (second_pass top_control (rows_after top_control no_rows journal) b)
    (c.judge_rows-history.ensures.verdict settings journal stands.history later tt)
    (c.judge_rows-matrix.ensures.verdict settings journal stands.matrix later tt)
    (c.judge_rows-hosts.ensures.verdict settings journal stands.hosts later tt)
    (c.judge_beside-reports.ensures.verdict settings journal tt stands.hosts stands.reports later tt askable)

pub returns-clause-within : goal.returns-clause-within
returns-clause-within g c =
    c.lowest_verdict.ensures.within (length (g.A.Assigns.bindings c.args.set.now)) c.judge_rows-history.ensures.within
    c.judge_rows-matrix.ensures.within c.judge_rows-hosts.ensures.within c.judge_beside-reports.ensures.within
