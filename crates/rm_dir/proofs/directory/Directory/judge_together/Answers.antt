use Rattle.std.proofs.Common.{ℕ, length, Option, subst, arith}
use Rattle.rm_val.specs.declared.error.ErrorStatus.{ErrorStatus}
use Rattle.rm_model.specs.Judgement.{IsFirstFault, second_pass}
use Rattle.rm_model.specs.declared.verdict.Verdict.{Verdict}
use Rattle.rm_status.specs.Rows.{rows_before}
use Rattle.rm_dir.specs.DirectoryRows.{set_to}
use Rattle.rm_dir.specs.Judging.{local_fault}
use Rattle.rm_dir.specs.ProtocolDir.{protocol_dir}
use Rattle.rm_dir.proofs.Judged.{fine_alone, has_indexes, judged_after, fault_within}
use Rattle.rm_dir.proofs.directory.Directory.judge_together.Goals as goal

pub judge_locals-locals-requires : goal.judge_locals-locals-requires
judge_locals-locals-requires g c = fine_alone (g.A.Assigns.bindings c.args.set.now) c.requires

pub judge_rows-rows-requires : goal.judge_rows-rows-requires
judge_rows-rows-requires g c = (omega arith, fine_alone (g.A.Assigns.bindings c.args.set.now) c.requires)

pub returns-clause-accepted : goal.returns-clause-accepted
returns-clause-accepted g c is =
    let bs = g.A.Assigns.bindings c.args.set.now in
    let before = rows_before protocol_dir set_to c.args.self.now.rows in
    let given = c.args.self.now.given in
    let both = c.lower_verdict.ensures.fine is in
    let locals = subst (λ (verdict : Verdict). IsFirstFault (length bs) (local_fault given before bs) verdict) both.0 c.judge_locals-locals.ensures in
    let alone = fine_alone bs c.requires in
    record {
      fine = record { alone = alone; together = subst (λ (verdict : Verdict). IsFirstFault (length bs) (second_pass protocol_dir before bs) verdict) both.1 c.judge_rows-rows.ensures.verdict };
      indexes = has_indexes c.args.self.now.rows bs alone given c.args.self.now.few locals;
    }

pub returns-clause-verdict : goal.returns-clause-verdict
returns-clause-verdict g c journal stands =
    let bs = g.A.Assigns.bindings c.args.set.now in
    let before = rows_before protocol_dir set_to c.args.self.now.rows in
    let given = c.args.self.now.given in
    subst (λ (fault : ℕ → Option ErrorStatus). IsFirstFault (length bs) fault c.lower_verdict.result) (λ d k. (judged_after c.args.self.now.rows given journal stands.rows stands.given bs k) d)
    (c.lower_verdict.ensures.lowest (length bs) (local_fault given before bs) (second_pass protocol_dir before bs) c.judge_locals-locals.ensures c.judge_rows-rows.ensures.verdict)

pub returns-clause-within : goal.returns-clause-within
returns-clause-within g c =
    let bs = g.A.Assigns.bindings c.args.set.now in
    let before = rows_before protocol_dir set_to c.args.self.now.rows in
    c.lower_verdict.ensures.within (length bs)
    (fault_within (length bs) (local_fault c.args.self.now.given before bs) c.judge_locals-locals.result c.judge_locals-locals.ensures)
    (fault_within (length bs) (second_pass protocol_dir before bs) c.judge_rows-rows.result c.judge_rows-rows.ensures.verdict)
