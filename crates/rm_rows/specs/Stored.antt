-- Rows at places, in order of entry, of recency and of keys.
use Rattle.std.specs.Prelude.{◌≡◌, ◌<◌, ◌≤◌, List, [], ◌∷◌, Option, Some, None, ⊤, ◌⊎◌}
use Rattle.std.specs.List.{AllByRecursion}
use Rattle.std.specs.declared.cmp.Ordering.{Ordering}
use Rattle.std.specs.declared.cmp.Ordering.TheVariants.{Less}
use Rattle.rm_evicting.specs.declared.Row.{Row}

module _ {P : Type 0} where
  abbrev pub In : P → List P → Type 0
  In p [] = ⊥
  In p (q ∷ qs) = (p ≡ q) ⊎ In p qs

  -- no place comes twice
  abbrev pub Distinct : List P → Type 0
  Distinct [] = ⊤
  Distinct (p ∷ ps) = (¬ (In p ps)) × Distinct ps

  -- each before each later one
  abbrev pub Pairwise : (P → P → Type 0) → List P → Type 0
  Pairwise R [] = ⊤
  Pairwise R (p ∷ ps) = AllByRecursion (R p) ps × Pairwise R ps

  -- the same places
  pub record Alike (ps qs : List P) : Type 0 where
    pub there : (p : P) → In p ps → In p qs
    pub back : (p : P) → In p qs → In p ps

abbrev pub add_row : {K V : Type 0} → Option (Row K V) → List (Row K V) → List (Row K V)
add_row None rows = rows
add_row (Some row) rows = row ∷ rows

-- r's last reference is after s's, in its tick or a later one
abbrev pub IsAfter : {K V : Type 0} → Row K V → Row K V → Type 0
IsAfter r s = (s.last < r.last) × (s.tick ≤ r.tick)

module _ {P K V : Type 0} where
  -- the rows at places
  abbrev pub rows_by : (P → Option (Row K V)) → List P → List (Row K V)
  rows_by row [] = []
  rows_by row (p ∷ ps) = add_row (row p) (rows_by row ps)

  module _ (row : P → Option (Row K V)) where
    abbrev pub Has : P → Type 0
    Has p = (r : Row K V) × (row p ≡ Some r)

    -- p's last reference is after q's
    abbrev pub Later : P → P → Type 0
    Later p q = (r s : Row K V) → row p ≡ Some r → row q ≡ Some s → IsAfter r s

    -- p's entry is before q's
    abbrev pub Earlier : P → P → Type 0
    Earlier p q = (r s : Row K V) → row p ≡ Some r → row q ≡ Some s → r.entry < s.entry

    -- p's last reference isn't before its entry
    abbrev pub IsSinceEntry : P → Type 0
    IsSinceEntry p = (r : Row K V) → row p ≡ Some r → r.entry ≤ r.last

    module _ (cmp : K → K → Ordering) where
      -- p's key is below q's
      abbrev pub Before : P → P → Type 0
      Before p q = (r s : Row K V) → row p ≡ Some r → row q ≡ Some s → cmp r.key s.key ≡ Less

      -- the places by entry, by recency and by key
      pub record Stored (es rs xs : List P) : Type 0 where
        pub has : (p : P) → In p es → Has p
        pub distinct : Distinct es
        pub rises : Pairwise Earlier es
        pub since : (p : P) → In p es → IsSinceEntry p
        pub recent : Alike es rs
        pub index : Alike es xs
        pub falls : Pairwise Later rs
        pub sorted : Pairwise Before xs
