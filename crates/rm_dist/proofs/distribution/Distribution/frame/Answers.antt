use Rattle.rm_dist.proofs.FrameLemmas.{rows_with_frame, tallies_with_frame}
use Rattle.rm_dist.proofs.distribution.Distribution.frame.Goals as goal

pub returns-clause-stands : goal.returns-clause-stands
returns-clause-stands c settings journal frame directory stands known moment =
    let on = c.locals_on_path-locals.ensures in
    record {
      rows = rows_with_frame settings journal frame c.args.facts.now known c.args.directory.now.protocols (on.slots journal directory) c.locals_on_path-locals.result.items (on.locals journal directory) on.count c.args.self.now.rows c.change_each.new.self (rw c.as_slice.ensures.value at c.change_each.ensures) stands.rows;
      tallies = tallies_with_frame settings journal frame c.args.facts.now known c.args.directory.now.protocols (on.slots journal directory) c.locals_on_path-locals.result.items (on.locals journal directory) on.count c.args.self.now.rows c.change_each.new.self (rw c.as_slice.ensures.value at c.change_each.ensures) stands.rows stands.tallies;
    }
