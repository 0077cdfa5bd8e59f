use Rattle.std.proofs.Common.{rules}
use Rattle.rm_ber.proofs.GrammarNames.{group_shorter, groups_end, groups_more, groups_full, groups_broken}
use Rattle.rm_ber.proofs.reader.content.put_groups.Goals as goal

pub returns-in_err-number : goal.returns-in_err-number
returns-in_err-number c =
    let none = groups_broken c.loop-rest.name c.loop-rest.rest.now _ c.in_err-number.ensures (search rules) c.loop-rest.invariant in
    search rules

pub returns-in_err-ok : goal.returns-in_err-ok
returns-in_err-ok c =
    let none = groups_full c.loop-rest.name c.loop-rest.rest.now _ _ _ c.in_ok-number.ensures (search rules) c.loop-rest.invariant in
    search rules

pub loop-rest-smaller : goal.loop-rest-smaller
loop-rest-smaller c = group_shorter c.loop-rest.rest.now _ _ c.in_ok-number.ensures

pub loop-rest-preserved : goal.loop-rest-preserved
loop-rest-preserved c =
    groups_more c.loop-rest.name c.push.new.self c.loop-rest.rest.now _ _ _ c.in_ok-number.ensures (search rules) (search rules) c.loop-rest.invariant

pub returns : goal.returns
returns c = groups_end c.loop-rest.name c.loop-rest.rest.now _ (search rules) c.loop-rest.invariant
