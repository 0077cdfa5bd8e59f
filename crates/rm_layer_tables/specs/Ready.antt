-- When a frame may come to the rows of a control row.
use Rattle.std.specs.Prelude.{ℕ, ◌/◌, ◌≤◌}
use Rattle.rm_upper.specs.LayerTable.{LayerTable}

-- no stamp so far is above that of its first reference, and no tick above that of its moment in milliseconds
abbrev pub IsReady : {K N A : Type 0} → (stamp moment : ℕ) → LayerTable K N A → Type 0
IsReady stamp moment table = (table.next ≤ stamp) × (table.latest ≤ moment / 10)
