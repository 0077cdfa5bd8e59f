use Rattle.std.proofs.Common.{◌∙◌}
use Rattle.rm_ber.proofs.reader.Reader.enter.Goals as goal

pub returns-in_err-element-clause-exact : goal.returns-in_err-element-clause-exact
returns-in_err-element-clause-exact c content rest h = absurd (c.in_err-element.ensures.exact content rest h)

pub returns-clause-exact : goal.returns-clause-exact
returns-clause-exact c content rest h =
    let same = c.in_ok-element.ensures.exact content rest h in
    (same.0, c.pass.ensures.rest ∙ same.1)
