-- What an option is given.
use Rattle.std.specs.Prelude.{◌≡◌, ◌≤◌, ℕ, List, [], ◌∷◌, length, Option, Some, None}
use Rattle.std.specs.Borrow.{Bor}
use Rattle.rm_words.specs.declared.scan.Given.{Given}
use Rattle.rm_words.specs.declared.scan.Given.TheVariants.{Nothing, Once, Again}

-- the values are none, or that one, or more
abbrev pub IsGiven : List (List ℕ) → Given → Type 0
IsGiven values Nothing = values ≡ []
IsGiven values (Once value) = values ≡ value.now ∷ []
IsGiven values Again = 2 ≤ length values

-- the value that was found, if one was
abbrev pub so_far : Option (Bor (List ℕ)) → List (List ℕ)
so_far None = []
so_far (Some value) = value.now ∷ []
