use Rattle.std.proofs.Common.{◌≡◌, ap, ◌∙◌, rules, sym, subst, length}
use Rattle.rm_model.specs.ControlTable.{row_index}
use Rattle.rm_model.specs.declared.verdict.Verdict.TheVariants.{Fine}
use Rattle.rm_model.specs.ControlRows.{Beginning, set_ask, next_state}
use Rattle.rm_model.specs.Judgement.{IsFirstFault, second_pass}
use Rattle.rm_status.specs.Rows.{rows_before, row_in, state_seen}
use Rattle.rm_status.proofs.RowsBefore.{state_before}
use Rattle.rm_status.proofs.Bares.{same_before, state_then}
use Rattle.rm_status.proofs.controls.Controls.rows_after.Goals as goal

pub commit-requires : goal.commit-requires
commit-requires g c =
    let C = g.C.ControlRow.form in
    let bs = g.A.Assigns.bindings c.args.set.now in
    let same : rows_before C.table C.set_to c.bare-rows.result ≡ rows_before C.table C.set_to c.args.self.now = same_before C.set_to C.table c.args.self.now c.bare-rows.result c.bare-rows.ensures in (
      search rules,
      record { alone = c.requires.alone; together = subst (λ (b : Beginning). IsFirstFault (length bs) (second_pass C.table b bs) Fine) (sym same) c.requires.together },
    )

pub returns : goal.returns
returns g c = λ i.
    let C = g.C.ControlRow.form in
    let bs = g.A.Assigns.bindings c.args.set.now in
    let same : rows_before C.table C.set_to c.bare-rows.result ≡ rows_before C.table C.set_to c.args.self.now = same_before C.set_to C.table c.args.self.now c.bare-rows.result c.bare-rows.ensures in
    ap state_seen (c.commit.ensures i) ∙ state_then C.table C.with_column C.blank bs i (row_in c.bare-rows.result i)
    ∙ ap (next_state (set_ask C.table bs (row_index C.table i))) (sym (state_before C.table C.set_to c.bare-rows.result i))
    ∙ ap (λ b. next_state (set_ask C.table bs (row_index C.table i)) (b.state (row_index C.table i))) same
