-- A table's rows stand for the mentions so far.
use Rattle.std.specs.Prelude.{◌≡◌, ℕ, ◌<◌, Bool, List, [], ◌∷◌, length, ⊤}
use Rattle.std.specs.List.{AllByRecursion}
use Rattle.rm_evicting.specs.Mention.{Mention, keys}
use Rattle.rm_evicting.specs.Held.{held, size, entry, last_stamp, last_tick, shares}
use Rattle.rm_evicting.specs.declared.Row.{Row}
use Rattle.rm_evicting.specs.Row.{holds}

module _ {K V : Type 0} where
  -- the rows stand in order of entry
  abbrev pub IsByEntry : List (Row K V) → Type 0
  IsByEntry [] = ⊤
  IsByEntry (row ∷ rows) = AllByRecursion (λ other. row.entry < other.entry) rows × IsByEntry rows

module _ {C V : Type 0} (blank : V) (add : V → C → V) where
  -- gains added up, the newest standing first
  abbrev pub total : List C → V
  total [] = blank
  total (gain ∷ earlier) = add (total earlier) gain

-- the value is the sum of the gains
abbrev pub IsTotal : {C V : Type 0} → V → (V → C → V) → List C → V → Type 0
IsTotal blank add gains value = value ≡ total blank add gains

-- a value that means a list of gains: blank means none, and adding one more means one more
pub record IsMeaning {C V : Type 0} (means : List C → V → Type 0) (blank : V) (add : V → C → V) : Type 0 where
  pub nothing : means [] blank
  pub more : (gains : List C) (gain : C) (value : V) → means gains value → means (gain ∷ gains) (add value gain)

module _ {K C V : Type 0} (eq : K → K → Bool) (means : List C → V → Type 0) (capacity : ℕ) where
  -- the row is that of its key
  pub record IsRow (mentions : List (Mention K C)) (row : Row K V) : Type 0 where
    pub value : means (shares eq capacity row.key mentions) row.value
    pub entry : row.entry ≡ entry eq capacity row.key mentions
    pub last : row.last ≡ last_stamp eq row.key mentions
    pub tick : row.tick ≡ last_tick eq row.key mentions

  -- the keys held have one row each, in order of entry, with what their mentions say
  pub record Stands (mentions : List (Mention K C)) (rows : List (Row K V)) : Type 0 where
    pub held : (key : K) → holds eq key rows ≡ held eq capacity key (keys mentions)
    pub size : length rows ≡ size eq capacity (keys mentions)
    pub each : AllByRecursion (IsRow mentions) rows
    pub order : IsByEntry rows
