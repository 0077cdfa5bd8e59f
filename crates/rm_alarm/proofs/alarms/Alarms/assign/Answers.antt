use Rattle.rm_model.specs.ControlRows.{no_rows}
use Rattle.rm_status.proofs.Committed.{IsCommitted}
use Rattle.rm_alarm.specs.RowForm.{alarm_rows}
use Rattle.rm_alarm.proofs.AfterSets.{rows_set, kept_set, based_set}
use Rattle.rm_alarm.proofs.Changes.{spelled_set}
use Rattle.rm_alarm.proofs.Pace.{paced_set}
use Rattle.rm_alarm.proofs.alarms.Alarms.assign.Goals as goal

pub invariant_of-self : goal.invariant_of-self
invariant_of-self g c =
    let fine = c.requires.fine in
    record {
      spelled = spelled_set c.args.now (g.A.Assigns.bindings c.args.set.now) fine.alone c.requires.values c.args.self.now.rows c.commit.new.self c.change_each.new.self c.commit.ensures c.change_each.ensures c.args.self.now.spelled;
      paced = paced_set c.args.now (g.A.Assigns.bindings c.args.set.now) fine.alone c.args.self.now.rows c.commit.new.self c.change_each.new.self fine.together c.commit.ensures c.change_each.ensures c.args.self.now.paced;
      nearest = c.earliest-self.ensures;
    }

pub returns-clause-stands : goal.returns-clause-stands
returns-clause-stands g c settings journal values st gives =
    let bs = g.A.Assigns.bindings c.args.set.now in
    let set : IsCommitted alarm_rows no_rows journal values bs c.args.self.now.rows c.commit.new.self =
    record { gives = gives; fine = c.requires.fine; held = c.len.ensures.rows; stood = st.rows; after = c.commit.ensures } in
    record {
      rows = rows_set settings journal c.args.now bs values c.args.self.now.rows c.commit.new.self c.change_each.new.self set c.change_each.ensures st.kept;
      kept = kept_set settings journal c.args.now bs values c.args.self.now.rows c.commit.new.self c.change_each.new.self set c.change_each.ensures st.kept;
    }

pub returns-clause-based : goal.returns-clause-based
returns-clause-based g c settings journal values st based read gives alarm row course here has =
    let bs = g.A.Assigns.bindings c.args.set.now in
    let set : IsCommitted alarm_rows no_rows journal values bs c.args.self.now.rows c.commit.new.self =
    record { gives = gives; fine = c.requires.fine; held = c.len.ensures.rows; stood = st.rows; after = c.commit.ensures } in
    based_set settings journal c.args.now bs values c.args.self.now.rows c.commit.new.self c.change_each.new.self set c.change_each.ensures st.kept alarm based read row course here has
