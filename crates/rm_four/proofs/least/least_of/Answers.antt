use Rattle.std.specs.Option.{option_or}
use Rattle.rm_model.specs.Cells.{Cells}
use Rattle.rm_four.proofs.least.least_of.Goals as goal

pub returns-clause-from : goal.returns-clause-from
returns-clause-from c one two three four first second third fourth =
    let of_two : Cells = λ name. option_or (one name) (two name) in
    let of_three : Cells = λ name. option_or (of_two name) (three name) in
    c.lesser.ensures.from of_three four
    (c.lesser-of_three.ensures.from of_two three
    (c.lesser-of_two.ensures.from one two first second) third) fourth
