use Rattle.std.proofs.Common.{length, ap, arith, sym}
use Rattle.rm_captures.proofs.EndingLemmas.{more_passed, none_passed}
use Rattle.rm_captures.proofs.counting.+passed.Goals as goal

pub returns-in-Some-clause-count : goal.returns-in-Some-clause-count
returns-in-Some-clause-count t c =
    let all = more_passed c.args.captures.now c.in-Some.capture.now c.in-Some.others.now c.in-Some.ensures.cases.0 in
    omega (arith, all, c.from.ensures, c.count.ensures, c.passed.ensures.count)

pub returns-in-Some-clause-most : goal.returns-in-Some-clause-most
returns-in-Some-clause-most t c = omega (arith, ap length c.in-Some.ensures.cases.0, c.passed.ensures.most, c.from.ensures)

pub returns-in-None-clause-count : goal.returns-in-None-clause-count
returns-in-None-clause-count t c = sym (none_passed c.args.captures.now c.in-None.ensures.cases)
