-- Names that have a spelling in a message (X.690, 8.19).
use Rattle.std.specs.Prelude.{◌≤◌, ◌<◌, ℕ, ◌+◌, ◌*◌, ◌^◌, List, [], ◌∷◌}
use Rattle.rm_val.specs.Val.{Val, name}

-- At least two numbers. The first is 0, 1 or 2, the second is at most 39 below a first 0 or 1, and both
-- together fit in 32 bits.
abbrev pub IsSpellable : List ℕ → Type 0
IsSpellable [] = ⊥
IsSpellable (first ∷ []) = ⊥
IsSpellable (first ∷ second ∷ more) = (first ≤ 2) × (first < 2 → second ≤ 39) × (40 * first + second < 2 ^ 32)

-- a value has a spelling: a name does only where it is spellable
abbrev pub HasSpelling : Val → Type 0
HasSpelling (name numbers) = IsSpellable numbers
HasSpelling v = Unit {0}
