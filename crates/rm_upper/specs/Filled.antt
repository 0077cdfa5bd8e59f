-- How many slots there are up to the last that is filled.
use Rattle.std.specs.Prelude.{ℕ, zero, suc, List, [], ◌∷◌, Option, Some, None}

-- one slot before so many
abbrev pub behind_empty : ℕ → ℕ
behind_empty zero = zero
behind_empty (suc n) = suc (suc n)

abbrev pub filled_in : {X : Type 0} → List (Option X) → ℕ
filled_in [] = 0
filled_in (None ∷ slots) = behind_empty (filled_in slots)
filled_in (Some x ∷ slots) = suc (filled_in slots)
