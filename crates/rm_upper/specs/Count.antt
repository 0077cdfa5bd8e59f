-- How many application rows there are.
use Rattle.std.specs.Prelude.{ℕ, Bool, List, Option, Some, None, sum_by}
use Rattle.rm_evicting.specs.declared.Row.{Row}
use Rattle.rm_rows.specs.Table.{row_of}
use Rattle.rm_layers.specs.Applications.{used}
use Rattle.rm_upper.specs.declared.slots.Slot.{Slot}
use Rattle.rm_upper.specs.Kept.{NetworkRow}
use Rattle.rm_upper.specs.Shown.{shown_all}
use Rattle.rm_upper.specs.Standing.{Layered}

-- those of a row, if there is one
abbrev pub held_in : {K N A : Type 0} → List (Option Slot) → Option (Row K (NetworkRow N A)) → ℕ
held_in slots None = 0
held_in slots (Some row) = used (shown_all slots row.value.applications)

-- those of the row of a key
abbrev pub held_of : {K N A : Type 0} → (eq : K → K → Bool) → Layered K N A → K → ℕ
held_of eq layered key = held_in layered.slots (row_of eq key layered.table.rows)

-- those of the rows of the keys of some rows
abbrev pub held_by_keys : {K N A : Type 0} → (eq : K → K → Bool) → Layered K N A → List (Row K (NetworkRow N A)) → ℕ
held_by_keys eq layered rows = sum_by (λ row. held_of eq layered row.key) rows
