-- The indexes of rows that belong to rows of a control table.
use Rattle.std.specs.Prelude.{◌≡◌, ℕ, ◌<◌, List, [], ◌∷◌, Bool, true, false, Option, Some, None}
use Rattle.rm_model.specs.Names.{Below}

-- whether a list of numbers is that of a control row, and then an inner index of it
abbrev pub is_nested : (ℕ → List ℕ → Bool) → List ℕ → Bool
is_nested is_inner [] = false
is_nested is_inner (row ∷ index) = is_inner row index

-- whether a list of numbers is one number that passes a test
abbrev pub is_number : (ℕ → Bool) → List ℕ → Bool
is_number test (number ∷ []) = test number
is_number test [] = false
is_number test (number ∷ next ∷ more) = false

-- the first index of the control rows above one, or nothing where none above has an inner row
abbrev pub IsFirstAbove : (ℕ → List ℕ → Bool) → ℕ → Option (List ℕ) → Type 0
IsFirstAbove is_inner row None = (other : ℕ) (index : List ℕ) → row < other → is_inner other index ≡ false
IsFirstAbove is_inner row (Some []) = ⊥
IsFirstAbove is_inner row (Some (found ∷ inner)) =
    (row < found) × (is_inner found inner ≡ true)
    × ((other : ℕ) (index : List ℕ) → row < other → other < found → is_inner other index ≡ false)
    × ((index : List ℕ) → Below index inner → is_inner found index ≡ false)
