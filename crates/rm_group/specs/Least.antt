-- Where the variables of a group begin.
use Rattle.std.specs.Prelude.{◌≡◌, ℕ, List, false}
use Rattle.rm_model.specs.Names.{Below}
use Rattle.rm_model.specs.Cells.{Cells, has_cell}

-- no cell has a name below that one
abbrev pub AreFrom : List ℕ → Cells → Type 0
AreFrom least cells = (name : List ℕ) → Below name least → has_cell cells name ≡ false
