use Rattle.std.proofs.Common.{◌≡◌, ℕ, ◌∷◌, List, Option, Some, sym, ap, subst, ◌∙◌, rules, w64}
use Rattle.std.specs.Prelude.{ℤ}
use Rattle.std.specs.Option.{option_map}
use Rattle.std.proofs.lemmas.Int.{to_z-of_z}
use mir.Val.{SFits}
use Rattle.rm_model.specs.Journal.{Journal, samples}
use Rattle.rm_model.specs.ControlRows.{no_rows}
use Rattle.rm_model.specs.Readings.{Readings}
use Rattle.rm_acts.specs.Alarms.{alarm_table, variable_of, sampled}
use Rattle.rm_model.specs.declared.reading.Reading.{Reading}
use Rattle.rm_status.specs.declared.row.Row.{Row}
use Rattle.rm_status.specs.Rows.{row_in, AreControlRows}
use Rattle.rm_status.specs.RowsAfter.{AreRowsAfter}
use Rattle.rm_alarm.specs.declared.row.AlarmRow.{AlarmRow}
use Rattle.rm_alarm.specs.Rows.{set_to, variable_kept}
use Rattle.rm_alarm.specs.Standing.{AreKept}
use Rattle.rm_alarm.specs.Taking.{HasTaken}
use Rattle.rm_status.proofs.RowFacts.{row_there}
use Rattle.rm_alarm.proofs.RowFacts.{variable_is}
use Rattle.rm_alarm.proofs.Samples.{Based, rows_samples, kept_samples, based_samples, sample_comes_to}
use Rattle.rm_alarm.proofs.Taken.{Due, due_row, spelled_taken, spelled_gone, rows_gone, kept_gone, based_gone}
use Rattle.rm_alarm.proofs.Following.{behind_taken, behind_gone}
use Rattle.rm_alarm.proofs.Pace.{paced_taken, paced_gone, fewer_taken, fewer_gone}
use Rattle.rm_alarm.proofs.alarms.Alarms.sample.Goals as goal

abbrev number_read : Option Reading → Option ℤ
number_read o = option_map (λ reading. reading.value) o

-- what is read of the variable of an alarm of which a sample is due
reads : (rows : List (Row AlarmRow)) (held : AreControlRows alarm_table rows) (journal : Journal) (is : AreRowsAfter alarm_table no_rows set_to rows journal) (index moment : ℕ) (due : Due rows index moment) (readings : Readings) (read o : Option Reading)
    → ((row : Row AlarmRow) → row_in rows index ≡ Some row → read ≡ readings (variable_kept row.columns)) → read ≡ o → number_read o ≡ number_read (readings (variable_of journal index))
reads rows held journal is index moment due readings read o told same =
    ap number_read (sym same ∙ told due.row due.here ∙ ap readings (variable_is rows journal is index due.row due.here (row_there alarm_table rows index due.row held due.here)))

pub following-self-requires : goal.following-self-requires
following-self-requires g c first =
    let fits : SFits w64 c.in-Some.reading.value = search rules in
    let taken : HasTaken c.args.self.now.rows c.take-sampled.new.rows c.args.index c.args.moment c.in-Some.reading.value c.take-sampled.result = simp (to_z-of_z, fits) at c.take-sampled.ensures in
    behind_taken c.args.self.now.rows c.take-sampled.new.rows c.args.index c.args.moment c.args.self.now.next c.requires c.args.self.now.nearest (sym c.is_of-first.ensures ∙ first) c.in-Some.reading.value c.take-sampled.result c.args.self.now.paced taken

pub following-self-requires-in-None : goal.following-self-requires-in-None
following-self-requires-in-None g c first =
    behind_gone c.args.self.now.rows c.remove.new.self c.args.index c.args.moment c.args.self.now.next c.requires c.args.self.now.nearest (sym c.is_of-first.ensures ∙ first) c.remove.ensures

pub invariant_of-self : goal.invariant_of-self
invariant_of-self g c =
    let fits : SFits w64 c.in-Some.reading.value = search rules in
    let taken : HasTaken c.args.self.now.rows c.take-sampled.new.rows c.args.index c.args.moment c.in-Some.reading.value c.take-sampled.result = simp (to_z-of_z, fits) at c.take-sampled.ensures in
    let due = due_row c.args.self.now.rows c.args.index c.args.moment c.requires in
    record {
      spelled = spelled_taken c.args.self.now.rows c.take-sampled.new.rows c.args.index c.args.moment c.in-Some.reading.value c.take-sampled.result due taken c.args.self.now.spelled;
      paced = paced_taken c.args.self.now.rows c.take-sampled.new.rows c.args.index c.args.moment c.in-Some.reading.value c.take-sampled.result due taken c.args.self.now.paced;
      nearest = c.following-self.ensures;
    }

pub returns-in-Some : goal.returns-in-Some
returns-in-Some g c =
    let rows = c.args.self.now.rows in
    let new = c.take-sampled.new.rows in
    let index = c.args.index in
    let moment = c.args.moment in
    let number = c.in-Some.reading.value in
    let result = c.take-sampled.result in
    let held = c.len.ensures.rows in
    let fits : SFits w64 number = search rules in
    let taken : HasTaken rows new index moment number result = simp (to_z-of_z, fits) at c.take-sampled.ensures in
    let due = due_row rows index moment c.requires in
    let read = λ (journal : Journal) (is : AreRowsAfter alarm_table no_rows set_to rows journal). reads rows held journal is index moment due (g.L.Look.readings c.args.look.now moment) c.read.result _ c.read.ensures c.in-Some.is in
    record {
      stands = λ settings journal st based. record {
        rows = subst (λ (o : Option ℤ). AreRowsAfter alarm_table no_rows set_to new (samples moment index o ∷ journal)) (read journal st.rows)
            (rows_samples settings journal index moment rows new held st.rows st.kept based due.row due.here due.course due.has due.now number result taken);
        kept = subst (λ (o : Option ℤ). AreKept new settings (samples moment index o ∷ journal)) (read journal st.rows)
            (kept_samples settings journal index moment rows new held st.rows st.kept based due.row due.here due.course due.has due.now number result taken);
      };
      based = λ settings journal st based. subst (λ (o : Option ℤ). Based new settings (samples moment index o ∷ journal)) (read journal st.rows)
          (based_samples settings journal index moment rows new held st.rows st.kept based due.row due.here due.course due.has due.now number result taken);
      result = λ settings journal st based. sample_comes_to settings journal index moment rows new held st.rows st.kept based due.row due.here due.course due.has due.now number result taken
          ∙ ap (sampled settings journal moment index) (read journal st.rows);
      fewer = λ latest within. fewer_taken rows new index moment latest within held c.args.self.now.paced due number result taken;
    }

pub invariant_of-self-in-None : goal.invariant_of-self-in-None
invariant_of-self-in-None g c =
    record {
      spelled = spelled_gone c.args.self.now.rows c.remove.new.self c.args.index c.remove.ensures c.args.self.now.spelled;
      paced = paced_gone c.args.self.now.rows c.remove.new.self c.args.index c.remove.ensures c.args.self.now.paced;
      nearest = c.following-self-in-None.ensures;
    }

pub returns-in-None : goal.returns-in-None
returns-in-None g c =
    let rows = c.args.self.now.rows in
    let new = c.remove.new.self in
    let index = c.args.index in
    let moment = c.args.moment in
    let held = c.len.ensures.rows in
    let due = due_row rows index moment c.requires in
    let read = λ (journal : Journal) (is : AreRowsAfter alarm_table no_rows set_to rows journal). reads rows held journal is index moment due (g.L.Look.readings c.args.look.now moment) c.read.result _ c.read.ensures c.in-None.is in
    record {
      stands = λ settings journal st based. record {
        rows = subst (λ (o : Option ℤ). AreRowsAfter alarm_table no_rows set_to new (samples moment index o ∷ journal)) (read journal st.rows) (rows_gone rows new index c.remove.ensures settings journal moment st.rows);
        kept = subst (λ (o : Option ℤ). AreKept new settings (samples moment index o ∷ journal)) (read journal st.rows) (kept_gone rows new index c.remove.ensures settings journal moment st.rows st.kept);
      };
      based = λ settings journal st based. subst (λ (o : Option ℤ). Based new settings (samples moment index o ∷ journal)) (read journal st.rows) (based_gone rows new index c.remove.ensures settings journal moment st.rows st.kept based);
      result = λ settings journal st based. ap (sampled settings journal moment index) (read journal st.rows);
      fewer = λ latest within. fewer_gone rows new index moment latest within held c.args.self.now.paced due c.remove.ensures;
    }
