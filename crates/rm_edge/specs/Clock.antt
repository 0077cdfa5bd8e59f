-- What a call of a clock does to the list of its moments.
use Rattle.std.specs.Prelude.{◌≡◌, ℕ, List, ◌++◌, [], ◌∷◌, Option, Some, None}

-- the list has the moment at its end, where it is still told; a list that isn't told stays so
abbrev pub Tells : Option (List ℕ) → Option (List ℕ) → ℕ → Type 0
Tells old None moment = Unit {0}
Tells None (Some new) moment = ⊥
Tells (Some old) (Some new) moment = new ≡ old ++ moment ∷ []
