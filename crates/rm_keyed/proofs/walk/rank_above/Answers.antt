use Rattle.std.proofs.Common.{ℕ, List, Bool, length, slice_index, refl, subst}
use Rattle.rm_model.specs.Names.{IsLeastAbove}
use Rattle.rm_model.specs.Numbers.{IsNumberAbove}
use Rattle.rm_keyed.specs.Indexes.{is_rank}
use Rattle.rm_keyed.proofs.Ranked.{ranks_are}
use Rattle.rm_keyed.proofs.walk.rank_above.Goals as goal

pub returns-clause-least : goal.returns-clause-least
returns-clause-least g c =
    let rows = c.args.keyed.now.rows.rows in
    let above : IsNumberAbove (is_rank (length rows)) (slice_index c.args.numbers.now 0) c.rank_after.result = rw (c.len-rows.ensures.value, c.rows.ensures.value, c.first_number.ensures) at c.rank_after.ensures in
    subst (λ (test : List ℕ → Bool). IsLeastAbove test c.args.numbers.now c.one_number_above.result) (λ d numbers. ranks_are rows numbers d) (c.one_number_above.ensures.least (is_rank (length rows)) refl above)
