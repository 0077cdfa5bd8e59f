use Rattle.rm_ber.proofs.reader.Reader.element.Goals as goal

pub returns-in_err-element-clause-exact : goal.returns-in_err-element-clause-exact
returns-in_err-element-clause-exact c content rest h = absurd (c.in_err-element.ensures.exact c.args.tag content rest h)

pub returns-then-element-tag-clause-exact : goal.returns-then-element-tag-clause-exact
returns-then-element-tag-clause-exact c content rest h =
    let same = c.in_ok-element.ensures.exact c.args.tag content rest h in
    (same.1, same.2)
