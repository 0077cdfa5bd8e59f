use Rattle.std.proofs.Common.{length}
use Rattle.rm_group.proofs.both.BothGroup.judge_rows.Goals as goal

pub returns-clause-verdict : goal.returns-clause-verdict
returns-clause-verdict g c settings journal stands later askable =
    let b = g.A.Assigns.bindings c.args.set.now in
    let read = g.L.Look.readings c.args.look.now c.args.now in
    c.lower_verdict.ensures.lowest (length b)
    (g.G.Group.together settings journal c.args.now read b) (g.H.Beside.together_beside settings journal c.args.now read b)
    (c.judge_rows-first.ensures.verdict settings journal stands.first later askable.0)
    (c.judge_beside-second.ensures.verdict settings journal stands.tied stands.first stands.second later askable.0 askable.1)

pub returns-clause-within : goal.returns-clause-within
returns-clause-within g c =
    c.lower_verdict.ensures.within (length (g.A.Assigns.bindings c.args.set.now)) c.judge_rows-first.ensures.within c.judge_beside-second.ensures.within
