use Rattle.rm_status.proofs.Judged.{judged_after}
use Rattle.rm_ether.specs.EtherStats.{ether_stats, ether_beginning}
use Rattle.rm_ether.specs.StatisticsRows.{set_to}
use Rattle.rm_ether.proofs.ether.EtherGroup.judge_rows.Goals as goal

pub returns-clause-verdict : goal.returns-clause-verdict
returns-clause-verdict g c settings journal stands later askable =
    judged_after ether_stats (ether_beginning settings) set_to c.args.self.now.rows journal stands.rows (g.A.Assigns.bindings c.args.set.now) c.judge_rows.result c.judge_rows.ensures.verdict
