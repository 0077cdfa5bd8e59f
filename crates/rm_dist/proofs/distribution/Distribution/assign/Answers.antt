use Rattle.rm_model.specs.ControlRows.{no_rows}
use Rattle.rm_status.proofs.Committed.{IsCommitted}
use Rattle.rm_dist.specs.ControlColumns.{control_rows}
use Rattle.rm_dist.proofs.BeginLemmas.{rows_begun, tallies_begun}
use Rattle.rm_dist.proofs.distribution.Distribution.assign.Goals as goal

pub returns-clause-begun : goal.returns-clause-begun
returns-clause-begun g c settings journal values stands gives =
    let bs = g.A.Assigns.bindings c.args.set.now in
    let set : IsCommitted control_rows no_rows journal values bs c.args.self.now.rows c.commit.new.self =
    record { gives = gives; fine = c.requires.fine; held = c.len.ensures.rows; stood = stands.rows; after = c.commit.ensures } in
    record {
      rows = rows_begun settings journal c.args.now bs values c.args.self.now.rows c.commit.new.self c.change_each.new.self set c.change_each.ensures stands.tallies;
      tallies = tallies_begun settings journal c.args.now bs values c.args.self.now.rows c.commit.new.self c.change_each.new.self set c.change_each.ensures stands.tallies;
    }
