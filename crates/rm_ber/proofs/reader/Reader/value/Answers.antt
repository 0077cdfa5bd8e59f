use Rattle.std.proofs.Common.{◌∙◌, sym, ap, subst}
use Rattle.std.proofs.lemmas.Option.{none-some, same_Some}
use Rattle.rm_val.specs.Val.{val_of}
use Rattle.rm_ber.specs.Grammar.{ValueFirst}
use Rattle.rm_ber.specs.Reading.{value_in}
use Rattle.rm_ber.proofs.GrammarValues.{value_finds, value_stands}
use Rattle.rm_ber.proofs.reader.Reader.value.Goals as goal

pub returns-in_err-element-clause-exact : goal.returns-in_err-element-clause-exact
returns-in_err-element-clause-exact c v rest h = absurd (c.in_err-element.ensures.exact h.tag h.content rest h.stands)

pub returns-in_default-clause-exact : goal.returns-in_default-clause-exact
returns-in_default-clause-exact c v rest h =
    let same = c.in_ok-element.ensures.exact h.tag h.content rest h.stands in
    let found = value_finds h.tag h.content v h.is_value in
    absurd (none-some v (c.in_default.ensures ∙ ap (λ t. value_in t c.in_ok-element.element.content.now) same.0 ∙ ap (value_in h.tag) same.1 ∙ found))

pub returns-clause-found : goal.returns-clause-found
returns-clause-found c =
    subst (λ rest. ValueFirst (val_of c.in-Some.value) rest c.args.self.now.left) (sym c.pass.ensures.rest)
    (value_stands _ _ _ _ _ c.in_ok-element.ensures.found (sym c.in-Some.ensures))

pub returns-clause-exact : goal.returns-clause-exact
returns-clause-exact c v rest h =
    let same = c.in_ok-element.ensures.exact h.tag h.content rest h.stands in
    let found = value_finds h.tag h.content v h.is_value in
    (same_Some _ v (c.in-Some.ensures ∙ ap (λ t. value_in t c.in_ok-element.element.content.now) same.0 ∙ ap (value_in h.tag) same.1 ∙ found), c.pass.ensures.rest ∙ same.2)
