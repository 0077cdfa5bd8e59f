-- What is counted of a key.
use Rattle.std.specs.Prelude.{ℕ, Bool, List, option_map}
use Rattle.std.specs.Option.{option_map_or}
use Rattle.rm_evicting.specs.declared.Row.{Row}
use Rattle.rm_rows.specs.Table.{row_of, value_of}

-- by the rows that are kept: a count of its row, 0 where it has none
abbrev pub kept_count : {K V : Type 0} → (K → K → Bool) → (V → ℕ) → List (Row K V) → K → ℕ
kept_count eq count rows key = option_map_or count (option_map value_of (row_of eq key rows)) 0
