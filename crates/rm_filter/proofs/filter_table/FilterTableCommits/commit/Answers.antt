use Rattle.rm_model.specs.ControlRows.{no_rows}
use Rattle.rm_status.proofs.Committed.{IsCommitted, rows_committed}
use Rattle.rm_filter.specs.FilterRows.{filter_rows}
use Rattle.rm_filter.proofs.filter_table.FilterTableCommits.commit.Goals as goal

pub returns-clause-stands : goal.returns-clause-stands
returns-clause-stands g c settings journal values stands later askable gives =
    let set : IsCommitted filter_rows no_rows journal values (g.A.Assigns.bindings c.args.set.now) c.args.self.now.rows c.commit.new.self =
    record { gives = gives; fine = c.requires.ready; held = c.len.ensures.rows; stood = stands; after = c.commit.ensures } in
    rows_committed filter_rows set c.args._now
