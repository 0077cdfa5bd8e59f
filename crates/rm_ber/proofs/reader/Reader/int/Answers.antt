use Rattle.std.proofs.Common.{◌∙◌, sym, ap, Ok}
use Rattle.std.specs.Int.{w32}
use Rattle.std.proofs.lemmas.Int.{to_z-of_z}
use Rattle.std.proofs.lemmas.Option.{same_Some}
use Rattle.rm_ber.specs.Element.{integer_of}
use Rattle.rm_ber.proofs.GrammarValues.{integer_found, int_parts, reads_once, reads_none}
use Rattle.rm_ber.proofs.reader.Reader.int.Goals as goal

pub returns-in_err-element-clause-exact : goal.returns-in_err-element-clause-exact
returns-in_err-element-clause-exact c number rest h = absurd (c.in_err-element.ensures.exact _ rest (int_parts number rest c.args.self.now.left h).1)

pub returns-in_default-clause-exact : goal.returns-in_default-clause-exact
returns-in_default-clause-exact c number rest h = absurd (reads_none _ integer_of number _ _ rest _ c.in_ok-element.ensures.found c.in_default.ensures (int_parts number rest c.args.self.now.left h))

pub returns-clause-exact : goal.returns-clause-exact
returns-clause-exact c number rest h =
    let fits = (integer_found c.in_ok-element.element.content.now c.in-Some.number (sym c.in-Some.ensures)).fits in
    let same = reads_once _ integer_of _ number _ _ rest _ c.in_ok-element.ensures.found c.in-Some.ensures (int_parts number rest c.args.self.now.left h) in
    (ap Ok (to_z-of_z w32 c.in-Some.number fits ∙ same_Some c.in-Some.number number same.0), c.pass.ensures.rest ∙ same.1)
