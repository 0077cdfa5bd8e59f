-- The indexes that are one number.
use Rattle.std.proofs.Common.{◌≡◌, ℕ, List, [], ◌∷◌, length, None, refl, arith}
use Rattle.rm_model.specs.Indexing.{one_of}

-- a list that isn't one number long is none
pub none_of : (index : List ℕ) → (length index ≡ 1 → ⊥) → None ≡ one_of index
none_of [] other = refl
none_of (n ∷ []) other = absurd (other refl)
none_of (n ∷ next ∷ more) other = refl
