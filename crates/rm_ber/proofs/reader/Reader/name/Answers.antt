use Rattle.std.proofs.Common.{◌∙◌, sym, ap, subst, Ok}
use Rattle.std.proofs.lemmas.Option.{same_Some}
use Rattle.rm_val.specs.Val.{name}
use Rattle.rm_ber.specs.Grammar.{ValueFirst}
use Rattle.rm_ber.specs.Reading.{name_in}
use Rattle.rm_ber.proofs.GrammarValues.{name_parts, name_stands, reads_once, reads_none}
use Rattle.rm_ber.proofs.reader.Reader.name.Goals as goal

pub returns-in_err-element-clause-exact : goal.returns-in_err-element-clause-exact
returns-in_err-element-clause-exact c numbers rest h = absurd (c.in_err-element.ensures.exact _ rest (name_parts numbers rest c.args.self.now.left h).1)

pub returns-in_default-clause-exact : goal.returns-in_default-clause-exact
returns-in_default-clause-exact c numbers rest h = absurd (reads_none _ name_in numbers _ _ rest _ c.in_ok-element.ensures.found c.in_default.ensures (name_parts numbers rest c.args.self.now.left h))

pub returns-clause-found : goal.returns-clause-found
returns-clause-found c =
    subst (λ rest. ValueFirst (name c.in-Some.numbers) rest c.args.self.now.left) (sym c.pass.ensures.rest)
    (name_stands _ _ _ _ c.in_ok-element.ensures.found (sym c.in-Some.ensures))

pub returns-clause-exact : goal.returns-clause-exact
returns-clause-exact c numbers rest h =
    let same = reads_once _ name_in _ numbers _ _ rest _ c.in_ok-element.ensures.found c.in-Some.ensures (name_parts numbers rest c.args.self.now.left h) in
    (ap Ok (same_Some _ numbers same.0), c.pass.ensures.rest ∙ same.1)
