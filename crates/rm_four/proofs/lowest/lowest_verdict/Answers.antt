use Rattle.std.specs.Option.{option_or}
use Rattle.rm_four.proofs.lowest.lowest_verdict.Goals as goal

pub returns-clause-lowest : goal.returns-clause-lowest
returns-clause-lowest c count one two three four first second third fourth =
    c.lower_verdict.ensures.lowest count (λ place. option_or (option_or (one place) (two place)) (three place)) four
    (c.lower_verdict-of_three.ensures.lowest count (λ place. option_or (one place) (two place)) three
    (c.lower_verdict-of_two.ensures.lowest count one two first second) third) fourth

pub returns-clause-within : goal.returns-clause-within
returns-clause-within c count first second third fourth =
    c.lower_verdict.ensures.within count (c.lower_verdict-of_three.ensures.within count (c.lower_verdict-of_two.ensures.within count first second) third) fourth
