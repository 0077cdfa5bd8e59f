use Rattle.std.proofs.Common.{Some, List, ℕ, sym, subst}
use Rattle.rm_model.specs.Names.{IsLeastAbove}
use Rattle.rm_model.specs.Numbers.{IsNumberAbove}
use Rattle.std.specs.Prelude.{slice_index}
use Rattle.rm_nested.specs.Nested.{is_number}
use Rattle.rm_nested.proofs.Walks.{none_above_it, least_above_it}
use Rattle.rm_nested.proofs.number.one_number_above.Goals as goal

pub returns-in-Some-clause-least : goal.returns-in-Some-clause-least
returns-in-Some-clause-least c test no_0 least =
    let is = c.in-Some.is in
    let it = least_above_it test no_0 c.args.index.now c.in-Some.number (subst (IsNumberAbove test (slice_index c.args.index.now 0)) is least) in
    subst (λ (found : List ℕ). IsLeastAbove (is_number test) c.args.index.now (Some found)) (sym c.one_number.ensures) it

pub returns-in-None-clause-least : goal.returns-in-None-clause-least
returns-in-None-clause-least c test no_0 least =
    none_above_it test no_0 c.args.index.now (subst (IsNumberAbove test (slice_index c.args.index.now 0)) c.in-None.is least)
