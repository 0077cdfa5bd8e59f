use Rattle.std.proofs.Common.{◌≤◌, length, sym, subst, arith}
use Rattle.rm_model.specs.ControlRows.{no_rows}
use Rattle.rm_status.proofs.Committed.{IsCommitted, count_then}
use Rattle.rm_topn.specs.ControlColumns.{control_rows}
use Rattle.rm_topn.specs.Courses.{end_at}
use Rattle.rm_topn.proofs.Assigned.{rows_with_set, courses_with_set, ended_with_set}
use Rattle.rm_topn.proofs.reports.Reports.assign.Goals as goal

pub follow-requires : goal.follow-requires
follow-requires g c =
    let count = count_then control_rows (g.A.Assigns.bindings c.args.set.now) c.args.self.now.rows c.commit.new.self c.commit.ensures in
    (omega arith, subst (λ n. n ≤ length c.change_each.new.self) (sym count) (omega (arith, c.requires.ready.room, c.change_each.ensures.size)))

pub invariant_of-self : goal.invariant_of-self
invariant_of-self g c =
    let old = c.args.self.now in
    let follow = c.follow.ensures in
    record {
      of_valid = follow.of_valid;
      ended =
          ended_with_set old.last c.args.now c.requires.later c.commit.new.self (g.A.Assigns.bindings c.args.set.now) old.courses c.change_each.new.self c.follow.new.self old.ended
          c.change_each.ensures.parts follow.of_valid follow.stays follow.begun;
    }

pub returns-clause-begun : goal.returns-clause-begun
returns-clause-begun g c settings journal values stands later asked gives hosts =
    let bs = g.A.Assigns.bindings c.args.set.now in
    let old = c.args.self.now in
    let follow = c.follow.ensures in
    let held = stands.held in
    let set : IsCommitted control_rows no_rows journal values bs old.rows c.commit.new.self =
    record { gives = gives; fine = c.requires.ready.fine; held = c.len.ensures.rows; stood = held.rows; after = c.commit.ensures } in
    record {
      held = record { rows = rows_with_set settings journal c.args.now later bs values old.rows c.commit.new.self set; given = held.given; measured = record { few = held.measured.few; short = held.measured.short } };
      courses =
          courses_with_set settings journal c.args.now later bs values old.rows c.commit.new.self set old.courses c.change_each.new.self c.follow.new.self hosts stands.courses asked
          (λ row run here over. let by : end_at run ≤ old.last = old.ended row run here over in omega (arith, by, c.requires.later)) c.change_each.ensures.parts follow.of_valid follow.stays follow.begun;
    }
