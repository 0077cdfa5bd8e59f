use Rattle.rm_status.proofs.Committed.{IsCommitted}
use Rattle.rm_ether.specs.EtherStats.{ether_beginning}
use Rattle.rm_ether.specs.StatisticsRows.{statistics_rows}
use Rattle.rm_ether.proofs.Steps.{rows_with_set, counters_with_set}
use Rattle.rm_ether.proofs.ether.EtherCommits.commit.Goals as goal

pub returns-clause-stands : goal.returns-clause-stands
returns-clause-stands g c settings journal values stands later askable gives =
    let bs = g.A.Assigns.bindings c.args.set.now in
    let set : IsCommitted statistics_rows (ether_beginning settings) journal values bs c.args.self.now.rows c.commit.new.self =
    record { gives = gives; fine = c.requires.ready; held = c.len.ensures.rows; stood = stands.rows; after = c.commit.ensures } in
    record {
      rows = rows_with_set settings journal c.args.now bs values c.args.self.now.rows c.commit.new.self c.change_each.new.self set c.change_each.ensures stands.counters;
      counters = counters_with_set settings journal c.args.now bs values c.args.self.now.rows c.commit.new.self c.change_each.new.self set c.change_each.ensures stands.counters;
    }
