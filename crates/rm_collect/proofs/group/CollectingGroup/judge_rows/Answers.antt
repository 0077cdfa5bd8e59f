use Rattle.std.proofs.Common.{rules, length, subst}
use Rattle.rm_model.specs.ControlRows.{no_rows}
use Rattle.rm_model.specs.Judgement.{IsFirstFault, second_pass}
use Rattle.rm_model.specs.declared.verdict.Verdict.{Verdict}
use Rattle.rm_status.specs.Rows.{rows_before}
use Rattle.rm_status.proofs.Judged.{judged_after}
use Rattle.rm_collect.proofs.InRange.{first_fine}
use Rattle.rm_collect.proofs.group.CollectingGroup.judge_rows.Goals as goal

pub judge_rows-requires : goal.judge_rows-requires
judge_rows-requires g c =
    let fine = first_fine g.P.Columns.ControlRow.form g.P.Collected.collection g.met.P.Collected.laws (g.A.Assigns.bindings c.args.set.now) c.requires.alone in
    (search rules, fine)

pub returns-clause-accepted : goal.returns-clause-accepted
returns-clause-accepted g c fine =
    let form = g.P.Columns.ControlRow.form in
    let bs = g.A.Assigns.bindings c.args.set.now in
    let together = subst (λ (verdict : Verdict). IsFirstFault (length bs) (second_pass form.table (rows_before form.table form.set_to c.self.inside.table.rows) bs) verdict) fine c.judge_rows.ensures.verdict in
    record {
      each = c.requires.alone;
      by_rows = rw (← c.self.view_is) (record { alone = first_fine form g.P.Collected.collection g.met.P.Collected.laws bs c.requires.alone; together = together });
    }

pub returns-clause-verdict : goal.returns-clause-verdict
returns-clause-verdict g c settings journal stands later askable =
    let form = g.P.Columns.ControlRow.form in
    let stood = rw (← c.self.view_is) at stands in
    judged_after form.table no_rows form.set_to c.self.inside.table.rows journal stood.rows (g.A.Assigns.bindings c.args.set.now) c.judge_rows.result c.judge_rows.ensures.verdict
