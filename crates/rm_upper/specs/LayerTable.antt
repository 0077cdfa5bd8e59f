-- The rows of one control row, with what every later reference is above.
use Rattle.std.specs.Prelude.{ℕ, ◌*◌, ◌<◌, ◌≤◌, Bool, List}
use Rattle.std.specs.List.{AllByRecursion}
use Rattle.rm_evicting.specs.declared.Row.{Row}
use Rattle.rm_upper.specs.Standing.{Layered}

-- whether ip is on; the least stamp that may come; and the tick of the latest reference
pub record LayerTable (K N A : Type 0) : Type 0 where
  pub layered : Layered K N A
  pub on : Bool
  pub next : ℕ
  pub latest : ℕ

abbrev pub IsBefore : {K V : Type 0} → ℕ → ℕ → Row K V → Type 0
IsBefore next latest row = (row.last < next) × (row.tick ≤ latest)

-- each row was last referred to before
abbrev pub AreBefore : {K V : Type 0} → ℕ → ℕ → List (Row K V) → Type 0
AreBefore next latest rows = AllByRecursion (IsBefore next latest) rows

-- the next reference may come: each row was last referred to before it, and each of the references so far entered a network row at
-- most, and 32 application rows
pub record IsReady {K N A : Type 0} (layered : Layered K N A) (next latest : ℕ) : Type 0 where
  pub before : AreBefore next latest layered.table.rows
  pub network : layered.network_inserts ≤ next
  pub applications : layered.application_inserts ≤ 32 * next
