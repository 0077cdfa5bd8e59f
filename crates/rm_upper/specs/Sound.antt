-- What holds of the network rows that are kept, whatever came to them.
use Rattle.std.specs.Prelude.{◌≡◌, Bool, true, false, List, [], ◌∷◌, is_some, ⊤}
use Rattle.rm_evicting.specs.declared.Row.{Row}
use Rattle.rm_evicting.specs.Row.{holds}
use Rattle.rm_upper.specs.Kept.{NetworkRow}

-- each row has had a contribution, and no later one has its key
abbrev pub AreSound : {K N A : Type 0} → (eq : K → K → Bool) → List (Row K (NetworkRow N A)) → Type 0
AreSound eq [] = ⊤
AreSound eq (row ∷ rows) = (is_some row.value.created ≡ true) × (holds eq row.key rows ≡ false) × AreSound eq rows
