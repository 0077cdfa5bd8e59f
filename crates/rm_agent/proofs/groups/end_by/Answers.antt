use Rattle.std.proofs.Common.{arith}
use Rattle.rm_agent.proofs.GroupDues.{is_end}
use Rattle.rm_agent.proofs.groups.end_by.Goals as goal

pub returns-clause-left : goal.returns-clause-left
returns-clause-left c latest = let most = c.end_by.ensures.ended.no_more latest in omega (arith, most)

pub returns-clause-fewer : goal.returns-clause-fewer
returns-clause-fewer c due latest falls below by within =
    let fewer = c.end_by.ensures.ended.fewer due latest (is_end c.args.groups.now due falls below) by within in
    omega (arith, fewer)
