-- What calls that read files do to a shelf.
use Rattle.std.specs.Prelude.{◌≡◌, ℕ, ◌≤◌, List}
use Rattle.rm_edge.specs.Outside.{Held, File}

-- By what a shelf holds and counts: after calls that read some files it holds what it held, and no count of faults has fallen. Where
-- no read failed all counts are as they were, and where one did, so are those of the other names of which a file is told.
pub record KeepsShelf {F : Type 0} (held : F → List ℕ → Held) (faults : F → List ℕ → ℕ) (old new : F) (IsRead : List ℕ → Type 0) (failed : Type 0) : Type 0 where
  pub constant : (each : List ℕ) → held new each ≡ held old each
  pub later : (each : List ℕ) → faults old each ≤ faults new each
  pub quiet : (failed → ⊥) → (each : List ℕ) → faults new each ≡ faults old each
  pub apart : (each bytes : List ℕ) → (IsRead each → ⊥) → held old each ≡ File bytes → faults new each ≡ faults old each
