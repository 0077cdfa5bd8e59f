-- That the variables that have a value are finitely many.
use Rattle.std.specs.Prelude.{ℕ, List, IsTrue, Contains}
use Rattle.rm_model.specs.Cells.{Cells, has_cell}

-- finitely many variables have a value: a list has the name of each
pub record AreFinite (cells : Cells) : Type 0 where
  pub names : List (List ℕ)
  pub listed : (name : List ℕ) → IsTrue (has_cell cells name) → Contains names name
