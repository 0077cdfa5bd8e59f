-- What Sets turn for rows.
use Rattle.std.specs.Prelude.{◌≡◌, ℕ, ◌∷◌, length}
use Rattle.rm_model.specs.Counting.{Counting}
use Rattle.rm_model.specs.Journal.{Assignments, Journal, assigns, frames_in}
use Rattle.rm_collect.specs.Collection.{Collection}

-- A Set turns nothing: what a row has once it has begun it is what it has collected after it, and what rows share stays.
pub record IsByItself {C P S J : Type 0} (collection : Collection C P S J) : Type 0 where
  pub whole : (settings : Counting) (moment : ℕ) (values : Assignments) (earlier : Journal) (row : ℕ) (part : P)
      → collection.has_begun settings (assigns moment values) earlier row part → collection.is_of settings (assigns moment values ∷ earlier) row part
  pub lasting : (settings : Counting) (moment : ℕ) (values : Assignments) (earlier : Journal) (shared : S)
      → collection.suits shared settings earlier → collection.suits shared settings (assigns moment values ∷ earlier)

-- What a Set turns has been turned for a row that had begun it, by what rows share after the Set, and after so many frames.
pub record IsTurned {C P S J : Type 0} (collection : Collection C P S J) (shared : S) (given : ℕ) (part new : P) : Type 0 where
  pub fits : (last : ℕ) → collection.fits last given part → collection.fits last given new
  pub turned : (settings : Counting) (moment : ℕ) (values : Assignments) (earlier : Journal) (row : ℕ) → length (frames_in earlier) ≡ given
      → collection.suits shared settings (assigns moment values ∷ earlier) → collection.has_begun settings (assigns moment values) earlier row part
      → collection.is_of settings (assigns moment values ∷ earlier) row new
