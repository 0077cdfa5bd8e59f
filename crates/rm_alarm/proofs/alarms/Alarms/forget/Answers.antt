use Rattle.std.proofs.Common.{refl, rules}
use Rattle.rm_model.specs.ControlRows.{no_rows}
use Rattle.rm_acts.specs.Alarms.{alarm_table}
use Rattle.rm_status.proofs.RowsAfterLemmas.{rows_changed}
use Rattle.rm_alarm.specs.Rows.{set_to, without_base}
use Rattle.rm_alarm.proofs.Changes.{kept_changed, based_changed}
use Rattle.rm_alarm.proofs.NextDue.{next_kept}
use Rattle.rm_alarm.proofs.Pace.{paced_changed}
use Rattle.rm_alarm.proofs.alarms.Alarms.forget.Goals as goal

pub invariant_of-self : goal.invariant_of-self
invariant_of-self c = record {
  spelled = search rules;
  paced = paced_changed (λ index state row. without_base row) (λ index state row. refl) (λ index state row. refl) c.args.self.now.rows c.change_each.new.self c.change_each.ensures c.args.self.now.paced;
  nearest = next_kept (λ index state row. without_base row) (λ index state row. refl) c.args.self.now.rows c.change_each.new.self c.change_each.ensures c.args.self.now.next c.args.self.now.nearest;
}

pub returns-clause-stands : goal.returns-clause-stands
returns-clause-stands c settings journal st = record {
  rows = rows_changed alarm_table no_rows set_to (λ index state row. without_base row) (λ index state row n. refl) c.args.self.now.rows c.change_each.new.self c.change_each.ensures journal st.rows;
  kept = kept_changed (λ index state row. without_base row) (λ index state row n. refl) (λ index state row. refl) (λ index state row. refl) c.args.self.now.rows c.change_each.new.self c.change_each.ensures settings journal st.kept;
}

pub returns-clause-based : goal.returns-clause-based
returns-clause-based c settings journal based =
    based_changed (λ index state row. without_base row) (λ index state row n. refl) (λ index state row. refl) (λ index state row. refl) c.args.self.now.rows c.change_each.new.self c.change_each.ensures settings journal based
