use Rattle.std.proofs.Common.{◌≡◌, ℕ, length, refl, sym, ap, subst, ◌∙◌, rules}
use Rattle.rm_model.specs.ControlRows.{no_rows, Beginning}
use Rattle.rm_model.specs.Judgement.{IsFirstFault, second_pass}
use Rattle.rm_acts.specs.Alarms.{alarm_table}
use Rattle.rm_model.specs.declared.row.State.{State}
use Rattle.rm_model.specs.declared.verdict.Verdict.TheVariants.{Fine}
use Rattle.rm_status.specs.declared.row.Row.{Row}
use Rattle.rm_status.specs.Rows.{row_in}
use Rattle.rm_status.specs.Change.{changed_row}
use Rattle.rm_status.proofs.Commits.{index_in}
use Rattle.rm_status.proofs.RowsAfterLemmas.{rows_changed, same_before, was_there}
use Rattle.rm_alarm.specs.declared.row.AlarmRow.{AlarmRow}
use Rattle.rm_alarm.specs.Rows.{set_to, reading_base, variable_with}
use Rattle.rm_alarm.proofs.Changes.{kept_changed, based_changed}
use Rattle.rm_alarm.proofs.NextDue.{next_kept}
use Rattle.rm_alarm.proofs.Pace.{paced_changed}
use Rattle.rm_alarm.proofs.alarms.Alarms.remember.Goals as goal

pub invariant_of-self : goal.invariant_of-self
invariant_of-self g c =
    let bs = g.A.Assigns.bindings c.args.set.now in
    let readings = g.L.Look.readings c.args.look.now c.args.now in
    record {
      spelled = search rules;
      paced = paced_changed (λ index state row. reading_base readings bs index row) (λ index state row. refl) (λ index state row. refl) c.args.self.now.rows c.change_each.new.self c.change_each.ensures c.args.self.now.paced;
      nearest = next_kept (λ index state row. reading_base readings bs index row) (λ index state row. refl) c.args.self.now.rows c.change_each.new.self c.change_each.ensures c.args.self.now.next c.args.self.now.nearest;
    }

pub returns-clause-fine : goal.returns-clause-fine
returns-clause-fine g c =
    let bs = g.A.Assigns.bindings c.args.set.now in
    let readings = g.L.Look.readings c.args.look.now c.args.now in
    record {
      fine = record {
        alone = c.requires.fine.alone;
        together = subst (λ (b : Beginning). IsFirstFault (length bs) (second_pass alarm_table b bs) Fine)
            (sym (same_before alarm_table no_rows set_to (λ index state row. reading_base readings bs index row) (λ index state row n. refl) c.args.self.now.rows c.change_each.new.self c.change_each.ensures))
            c.requires.fine.together;
      };
      values = c.requires.values;
    }

pub returns-clause-stands : goal.returns-clause-stands
returns-clause-stands g c settings journal st =
    let bs = g.A.Assigns.bindings c.args.set.now in
    let readings = g.L.Look.readings c.args.look.now c.args.now in
    record {
      rows = rows_changed alarm_table no_rows set_to (λ index state row. reading_base readings bs index row) (λ index state row n. refl) c.args.self.now.rows c.change_each.new.self c.change_each.ensures journal st.rows;
      kept = kept_changed (λ index state row. reading_base readings bs index row) (λ index state row n. refl) (λ index state row. refl) (λ index state row. refl) c.args.self.now.rows c.change_each.new.self c.change_each.ensures settings journal st.kept;
    }

pub returns-clause-based : goal.returns-clause-based
returns-clause-based g c settings journal based =
    let bs = g.A.Assigns.bindings c.args.set.now in
    let readings = g.L.Look.readings c.args.look.now c.args.now in
    based_changed (λ index state row. reading_base readings bs index row) (λ index state row n. refl) (λ index state row. refl) (λ index state row. refl) c.args.self.now.rows c.change_each.new.self c.change_each.ensures settings journal based

pub returns-clause-read : goal.returns-clause-read
returns-clause-read g c settings journal agree alarm row here state =
    let bs = g.A.Assigns.bindings c.args.set.now in
    let readings = g.L.Look.readings c.args.look.now c.args.now in
    let change : ℕ → State → AlarmRow → AlarmRow = λ index state row. reading_base readings bs index row in
    let got = was_there (changed_row change) (row_in c.args.self.now.rows alarm) row (sym (c.change_each.ensures alarm) ∙ here) in
    let index : got.0.index ≡ alarm = index_in c.args.self.now.rows alarm got.0 got.1 in
    ap (λ (r : Row AlarmRow). r.columns.base) (sym got.2)
    ∙ ap (λ n. readings (variable_with bs n got.0.columns)) index
    ∙ agree (variable_with bs alarm got.0.columns)
    ∙ ap (λ (r : Row AlarmRow). settings.readings journal c.args.now (variable_with bs alarm r.columns)) got.2
