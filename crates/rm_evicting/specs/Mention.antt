-- References to the rows of a table by their keys, the newest first.
use Rattle.std.specs.Prelude.{ℕ, List, [], ◌∷◌}

-- a reference to a key, with its stamp, its tick and what it adds to the row; or a stray one, which only adds where its key is held
pub data Mention (K C : Type 0) : Type 0 where
  refers : (key : K) (stamp tick : ℕ) (gain : C) → Mention K C
  strays : (key : K) (gain : C) → Mention K C

module _ {K C : Type 0} where
  -- the keys referred to
  abbrev pub keys : List (Mention K C) → List K
  keys [] = []
  keys (refers key stamp tick gain ∷ earlier) = key ∷ keys earlier
  keys (strays key gain ∷ earlier) = keys earlier
