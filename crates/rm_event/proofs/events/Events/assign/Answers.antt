use Rattle.std.proofs.Common.{◌≤◌, length, sym, subst, arith}
use Rattle.rm_model.specs.ControlRows.{no_rows}
use Rattle.rm_status.proofs.Committed.{IsCommitted, count_then}
use Rattle.rm_event.specs.EventRows.{event_rows}
use Rattle.rm_event.proofs.Assigned.{rows_with_set, logs_with_set}
use Rattle.rm_event.proofs.events.Events.assign.Goals as goal

pub follow-requires : goal.follow-requires
follow-requires g c =
    (omega arith, subst (λ n. n ≤ length c.args.self.now.logs) (sym (count_then event_rows (g.A.Assigns.bindings c.args.set.now) c.args.self.now.rows c.commit.new.self c.commit.ensures)) c.requires.ready.room)

pub returns-clause-stands : goal.returns-clause-stands
returns-clause-stands g c settings journal now values stands gives =
    let bs = g.A.Assigns.bindings c.args.set.now in
    let old = c.args.self.now in
    let set : IsCommitted event_rows no_rows journal values bs old.rows c.commit.new.self =
    record { gives = gives; fine = c.requires.ready.fine; held = c.len.ensures.rows; stood = stands.rows; after = c.commit.ensures } in
    record {
      rows = rows_with_set settings journal now bs values old.rows c.commit.new.self set;
      logs = logs_with_set settings journal now bs values old.rows c.commit.new.self set old.logs c.follow.new.self old.of_valid c.follow.ensures.of_valid c.follow.ensures.stays c.follow.ensures.begun stands.logs;
    }
