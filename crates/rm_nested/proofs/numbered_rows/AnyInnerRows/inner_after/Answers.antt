use Rattle.std.proofs.Common.{◌≡◌, ℕ, Bool, false, Option, Some, None, refl, subst}
use Rattle.rm_model.specs.Numbers.{IsNumberAbove}
use Rattle.rm_pool.specs.Slots.{part_in}
use Rattle.rm_nested.specs.NumberedRows.{shown_by, shows}
use Rattle.rm_nested.proofs.numbered_rows.AnyInnerRows.inner_after.Goals as goal

-- no inner row has the number 0
from_1 : {P : Type 0} (is_shown : P → ℕ → ℕ → Bool) → ((part : P) (now : ℕ) → is_shown part now 0 ≡ false) → (part : Option P) (now : ℕ) → shown_by is_shown part now 0 ≡ false
from_1 is_shown none None now = refl
from_1 is_shown none (Some part) now = none part now

pub returns-clause-least : goal.returns-clause-least
returns-clause-least g c =
    let is_shown = g.R.Part.NumberedPart.is_shown in
    let parts = g.R.NumberedRows.parts c.args.self.now in
    let test = shows is_shown parts c.args.now c.args.row in
    c.one_number_above.ensures.least test (from_1 is_shown g.met.R.Part.NumberedPart.from_1 (part_in parts c.args.row) c.args.now)
    (subst (λ (n : ℕ). IsNumberAbove test n c.number_above.result) c.first_number.ensures c.number_above.ensures)
