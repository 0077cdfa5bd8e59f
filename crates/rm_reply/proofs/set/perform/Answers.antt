use Rattle.std.proofs.Common.{◌∷◌, length}
use Rattle.rm_model.specs.declared.verdict.Verdict.TheVariants.{Fine}
use Rattle.rm_model.specs.Judgement.{IsFirstFault}
use Rattle.rm_model.specs.Accepted.{assignments_of}
use Rattle.rm_model.specs.Journal.{assigns}
use Rattle.rm_group.specs.Alone.{AreFineAlone}
use Rattle.rm_reply.specs.Sets.{alone_among, wrong_alone, wrong_together, lacking, accepted}
use Rattle.rm_model.specs.Readings.{nothing_read}
use Rattle.rm_reply.proofs.SetLemmas.{if_not_wrong, wrong_within}
use Rattle.rm_reply.proofs.set.perform.Goals as goal

pub returns-in-Wrong-clause-judged : goal.returns-in-Wrong-clause-judged
returns-in-Wrong-clause-judged g c settings journal stands later askable =
    (journal, stands, wrong_alone c.in-Wrong.status c.in-Wrong.index c.in-Wrong.ensures.alone)

pub returns-in-Wrong-judge_rows-clause-judged : goal.returns-in-Wrong-judge_rows-clause-judged
returns-in-Wrong-judge_rows-clause-judged g c settings journal stands later askable =
    let fine : AreFineAlone (alone_among g.G.Objects.objects g.G.Group.alone) (g.A.Assigns.bindings c.args.set.now) = if_not_wrong _ _ c.judge_alone.result c.in_default.not-Wrong c.judge_alone.ensures.alone in
    (journal, stands, wrong_together fine c.in-Wrong-judge_rows.status c.in-Wrong-judge_rows.index (c.in-Wrong-judge_rows.ensures.verdict settings journal stands later askable))

pub returns-in-Ok-clause-judged : goal.returns-in-Ok-clause-judged
returns-in-Ok-clause-judged g c settings journal stands later askable =
    let bindings = g.A.Assigns.bindings c.args.set.now in
    let fine : AreFineAlone (alone_among g.G.Objects.objects g.G.Group.alone) bindings = if_not_wrong _ _ c.judge_alone.result c.in_default.not-Wrong c.judge_alone.ensures.alone in
    let beside : IsFirstFault (length bindings) (g.G.Group.together settings journal c.args.now nothing_read bindings) Fine =
    if_not_wrong _ _ c.judge_rows.result c.in_default-judge_rows.not-Wrong (c.judge_rows.ensures.verdict settings journal stands later askable) in (
      assigns c.args.now (assignments_of bindings) ∷ journal,
      c.commit.ensures.stands settings journal (assignments_of bindings) (c.prepare.ensures.stands settings journal stands) later (c.prepare.ensures.askable c.args.now askable) (λ name. c.order_does_not_matter.ensures.given bindings name),
      accepted fine beside,
    )

pub returns-in-Err-clause-judged : goal.returns-in-Err-clause-judged
returns-in-Err-clause-judged g c settings journal stands later askable =
    let bindings = g.A.Assigns.bindings c.args.set.now in
    let fine : AreFineAlone (alone_among g.G.Objects.objects g.G.Group.alone) bindings = if_not_wrong _ _ c.judge_alone.result c.in_default.not-Wrong c.judge_alone.ensures.alone in
    let beside : IsFirstFault (length bindings) (g.G.Group.together settings journal c.args.now nothing_read bindings) Fine =
    if_not_wrong _ _ c.judge_rows.result c.in_default-judge_rows.not-Wrong (c.judge_rows.ensures.verdict settings journal stands later askable) in
    (journal, c.prepare.ensures.stands settings journal stands, lacking fine beside c.in-Err.denied.index (c.in-Err.ensures.denied settings journal stands))

pub returns-in-Wrong-clause-within : goal.returns-in-Wrong-clause-within
returns-in-Wrong-clause-within g c = wrong_within _ _ c.in-Wrong.status c.in-Wrong.index c.in-Wrong.ensures.alone
