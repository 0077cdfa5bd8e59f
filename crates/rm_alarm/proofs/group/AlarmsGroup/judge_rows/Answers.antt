use Rattle.std.proofs.Common.{◌≡◌, ℕ, length, Option, subst, ap, ◌∙◌}
use Rattle.std.specs.Option.{option_or}
use Rattle.rm_val.specs.declared.error.ErrorStatus.{ErrorStatus}
use Rattle.rm_model.specs.ControlRows.{no_rows}
use Rattle.rm_model.specs.Judgement.{IsFirstFault, rows_after, second_pass}
use Rattle.rm_acts.specs.Alarms.{alarm_table}
use Rattle.rm_model.proofs.Alike.{second_pass_alike}
use Rattle.rm_status.specs.Rows.{rows_before}
use Rattle.rm_alarm.specs.Group.{variable_fault, alarm_together}
use Rattle.rm_alarm.specs.Rows.{set_to}
use Rattle.rm_alarm.proofs.Judged.{variable_alike, fault_within}
use Rattle.rm_alarm.proofs.group.AlarmsGroup.judge_rows.Goals as goal

pub returns-clause-verdict : goal.returns-clause-verdict
returns-clause-verdict g c settings journal stands later askable =
    let bs = g.A.Assigns.bindings c.args.set.now in
    let readings = g.L.Look.readings c.args.look.now c.args.now in
    let before = rows_before alarm_table set_to c.args.self.now.rows in
    let then_ = rows_after alarm_table no_rows journal in
    let same : (k : ℕ) → alarm_together readings before bs k ≡ alarm_together readings then_ bs k =
    λ k. ap (λ o. option_or o (variable_fault readings before bs k)) (second_pass_alike alarm_table before then_ stands.stand.rows.alike bs k)
    ∙ ap (option_or (second_pass alarm_table then_ bs k)) (variable_alike readings before then_ stands.stand.rows.alike bs k) in
    subst (λ (fault : ℕ → Option ErrorStatus). IsFirstFault (length bs) fault c.lower_verdict.result) (λ d k. same k d)
    (c.lower_verdict.ensures.lowest (length bs) (second_pass alarm_table before bs) (variable_fault readings before bs) c.judge_rows-rows.ensures.verdict c.judge_variables-variables.ensures.verdict)

pub returns-clause-within : goal.returns-clause-within
returns-clause-within g c =
    let bs = g.A.Assigns.bindings c.args.set.now in
    let before = rows_before alarm_table set_to c.args.self.now.rows in
    c.lower_verdict.ensures.within (length bs)
    (fault_within (length bs) (second_pass alarm_table before bs) c.judge_rows-rows.result c.judge_rows-rows.ensures.verdict)
    (fault_within (length bs) (variable_fault (g.L.Look.readings c.args.look.now c.args.now) before bs) c.judge_variables-variables.result c.judge_variables-variables.ensures.verdict)
