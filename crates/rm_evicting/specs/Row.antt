-- A table's rows in order of entry, as mentions change them one by one.
use Rattle.std.specs.Prelude.{ℕ, ◌&&◌, Bool, cond, not, List, [], ◌∷◌, ◌++◌, length, nat_lt, nat_le}
use Rattle.std.specs.List.{list_any, list_all}
use Rattle.rm_evicting.specs.declared.Row.{Row}
use Rattle.rm_evicting.specs.Mention.{Mention, refers, strays}

-- with the first that passes changed
abbrev pub at_first : {X : Type 0} → (X → Bool) → (X → X) → List X → List X
at_first passes change [] = []
at_first passes change (x ∷ xs) = cond (passes x) (change x ∷ xs) (x ∷ at_first passes change xs)

-- all but the first that passes
abbrev pub without_first : {X : Type 0} → (X → Bool) → List X → List X
without_first passes [] = []
without_first passes (x ∷ xs) = cond (passes x) xs (x ∷ without_first passes xs)

module _ {K V : Type 0} where
  -- no row's last reference is before this row's
  abbrev pub is_oldest : List (Row K V) → Row K V → Bool
  is_oldest rows row = list_all (λ other. nat_le row.last other.last) rows

  abbrev pub without_oldest : List (Row K V) → List (Row K V)
  without_oldest rows = without_first (is_oldest rows) rows

  -- one row gives way where there are as many as there is room for
  abbrev pub room_made : ℕ → List (Row K V) → List (Row K V)
  room_made capacity rows = cond (nat_lt (length rows) capacity) rows (without_oldest rows)

  -- the row of a key that is entered: what a value begins with, and one reference
  abbrev pub blank_row : V → K → ℕ → ℕ → Row K V
  blank_row blank key stamp tick = record { key = key; value = blank; entry = stamp; last = stamp; tick = tick }

module _ {K V : Type 0} (eq : K → K → Bool) where
  abbrev pub holds : K → List (Row K V) → Bool
  holds key rows = list_any (λ row. eq key row.key) rows

  abbrev pub renewed : K → ℕ → ℕ → List (Row K V) → List (Row K V)
  renewed key stamp tick rows = at_first (λ row. eq key row.key) (λ row. record row { last = stamp; tick = tick }) rows

  -- a reference renews its row, or enters a blank one last
  abbrev pub touched : V → ℕ → K → ℕ → ℕ → List (Row K V) → List (Row K V)
  touched blank capacity key stamp tick rows = cond (holds key rows)
      (renewed key stamp tick rows)
      (room_made capacity rows ++ blank_row blank key stamp tick ∷ [])

  -- a reference puts another row out
  abbrev pub takes_place : ℕ → K → List (Row K V) → Bool
  takes_place capacity key rows = not (holds key rows) && nat_le capacity (length rows)

module _ {K C V : Type 0} (eq : K → K → Bool) (add : V → C → V) where
  -- the row of a key, if there is one, gains so much
  abbrev pub credited : K → C → List (Row K V) → List (Row K V)
  credited key gain rows = at_first (λ row. eq key row.key) (λ row. record row { value = add row.value gain }) rows

module _ {K C V : Type 0} (eq : K → K → Bool) (blank : V) (add : V → C → V) (capacity : ℕ) where
  -- a mention, as the table takes it: a stray one renews and enters nothing
  abbrev pub after : List (Row K V) → Mention K C → List (Row K V)
  after rows (refers key stamp tick gain) = credited eq add key gain (touched eq blank capacity key stamp tick rows)
  after rows (strays key gain) = credited eq add key gain rows

  -- one mention after the other
  abbrev pub table : List (Mention K C) → List (Row K V)
  table [] = []
  table (mention ∷ earlier) = after (table earlier) mention
