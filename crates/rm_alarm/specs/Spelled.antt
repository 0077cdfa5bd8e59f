-- That the variables of rows have a spelling.
use Rattle.std.specs.Prelude.{◌≡◌, ℕ, List, [], ◌∷◌, Some}
use Rattle.std.proofs.Props.{props}
use Rattle.rm_val.specs.Spellable.{IsSpellable}
use Rattle.rm_status.specs.declared.row.Row.{Row}
use Rattle.rm_status.specs.Rows.{row_in}
use Rattle.rm_alarm.specs.declared.row.AlarmRow.{AlarmRow}
use Rattle.rm_alarm.specs.Rows.{variable_kept}

-- the variable of each row has a spelling
abbrev pub AreSpelled : List (Row AlarmRow) → Type 0
AreSpelled rows = (alarm : ℕ) (row : Row AlarmRow) → row_in rows alarm ≡ Some row → IsSpellable (variable_kept row.columns)

spellable_prop : (numbers : List ℕ) → IsProp (IsSpellable numbers)
spellable_prop [] = hlevel props
spellable_prop (first ∷ []) = hlevel props
spellable_prop (first ∷ second ∷ more) = hlevel props

pub spelled_prop : (rows : List (Row AlarmRow)) → IsProp (AreSpelled rows)
spelled_prop rows = hlevel spellable_prop
