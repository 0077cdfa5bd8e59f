use Rattle.std.proofs.Common.{arith}
use Rattle.rm_topn.proofs.Started.{of_valid_then, ended_then, kept_then, timely_then}
use Rattle.rm_topn.proofs.reports.Reports.begin_all.Goals as goal

pub invariant_of-self : goal.invariant_of-self
invariant_of-self c =
    let old = c.args.self.now in
    let each = c.change_each.ensures.parts in
    record {
      of_valid = of_valid_then c.args.hosts.now c.args.now old.courses c.change_each.new.self each old.rows old.of_valid;
      ended = ended_then c.args.hosts.now c.args.now old.courses c.change_each.new.self each old.last c.requires.later old.ended;
    }

pub returns-clause-stands : goal.returns-clause-stands
returns-clause-stands c settings journal stand at begun =
    let old = c.args.self.now in
    let each = c.change_each.ensures.parts in
    record {
      held = record { rows = begun.held.rows; given = begun.held.given; measured = begun.held.measured };
      courses = λ row. kept_then c.args.hosts.now c.args.now old.courses c.change_each.new.self each settings journal stand at row (begun.courses row);
      timely = λ row run here runs. let later = timely_then c.args.hosts.now c.args.now old.courses c.change_each.new.self each settings journal stand at begun.courses row run here runs in omega (arith, later, at);
    }
