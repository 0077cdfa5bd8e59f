-- What contracts see of the rows of a table.
use Rattle.std.specs.Prelude.{◌≡◌, ℕ, zero, suc, ◌+◌, ◌<◌, ◌≤◌, Bool, true, cond, List, [], ◌∷◌, ◌++◌, length, map, filter, find, position, slice_get, nat_lt, Option, Some, None, All, Contains, ⊤, ◌⊎◌, nat_le}
use Rattle.std.specs.Borrow.{Bor}
use Rattle.std.specs.Option.{option_map}
use Rattle.std.specs.declared.cmp.Ordering.{Ordering}
use Rattle.std.specs.declared.cmp.Ordering.TheVariants.{Less}
use Rattle.rm_evicting.specs.declared.Row.{Row}
use Rattle.rm_evicting.specs.Held.{without}
use Rattle.rm_evicting.specs.Row.{holds, at_first, is_oldest}
use Rattle.rm_rows.specs.declared.touch.Touch.{Touch}
use Rattle.rm_rows.specs.declared.touch.Touch.TheVariants.{Held, Fresh, Evicted}

-- how many rows there is room for, how many there may be, and the rows in order of entry
pub record Table (K V : Type 0) : Type 0 where
  pub room : ℕ
  pub capacity : ℕ
  pub rows : List (Row K V)

-- a mark and a key that is pointed to
abbrev pub pair_copied : {K : Type 0} → Option (ℕ × Bor K) → Option (ℕ × K)
pair_copied None = None
pair_copied (Some p) = Some (p.0, p.1.now)

module _ {K V : Type 0} where
  abbrev pub evicted : Option (Row K V) → Touch K
  evicted None = Fresh
  evicted (Some row) = Evicted row.key

  abbrev pub key_of : Row K V → K
  key_of row = row.key

  abbrev pub keys_of : List (Row K V) → List K
  keys_of rows = map key_of rows

  -- the rows whose tick isn't below a mark
  abbrev pub from_mark : ℕ → List (Row K V) → List (Row K V)
  from_mark mark rows = filter (λ row. nat_le mark row.tick) rows

  abbrev pub value_of : Row K V → V
  value_of row = row.value

  abbrev pub entry_of : Row K V → ℕ
  entry_of row = row.entry

  abbrev pub tick_of : Row K V → ℕ
  tick_of row = row.tick

  -- the key of a rank from 1
  abbrev pub key_at : ℕ → List (Row K V) → Option K
  key_at zero rows = None
  key_at (suc i) rows = option_map key_of (slice_get rows i)

module _ {K V : Type 0} (eq : K → K → Bool) where
  abbrev pub row_of : K → List (Row K V) → Option (Row K V)
  row_of h rows = find (λ row. eq h row.key) rows

  abbrev pub place_of : K → List (Row K V) → Option ℕ
  place_of h rows = position (λ row. eq h row.key) rows

  abbrev pub order_of : K → List (Row K V) → Option ℕ
  order_of h rows = option_map (λ i. i + 1) (place_of h rows)

  abbrev pub with_value : K → V → List (Row K V) → List (Row K V)
  with_value h w rows = at_first (λ row. eq h row.key) (λ row. record row { value = w }) rows

  -- the answer to a reference
  abbrev pub touch_answer : ℕ → K → List (Row K V) → Touch K
  touch_answer capacity h rows = cond (holds eq h rows) Held (cond (nat_lt (length rows) capacity) Fresh (evicted (find (is_oldest rows) rows)))

module _ {K : Type 0} where
  -- what a reference to a key does to the keys of a table
  abbrev pub AreAfter : (eq : K → K → Bool) → K → Touch K → (old new : List K) → Type 0
  AreAfter eq key Held old new = new ≡ old
  AreAfter eq key Fresh old new = (¬ (Contains old key)) × (new ≡ old ++ key ∷ [])
  AreAfter eq key (Evicted gone) old new = (¬ (Contains old key)) × Contains old gone × (new ≡ without eq gone old ++ key ∷ [])

module _ {K : Type 0} (cmp : K → K → Ordering) where
  -- a key stands above another, or there is none to stand above
  abbrev pub IsAbove : Option K → K → Type 0
  IsAbove None k = ⊤
  IsAbove (Some j) k = cmp j k ≡ Less

  -- the least of the keys that are such, if there is one
  abbrev pub IsFirstKey : (K → Type 0) → List K → Option K → Type 0
  IsFirstKey IsSuch ks None = All (λ k. ¬ (IsSuch k)) ks
  IsFirstKey IsSuch ks (Some k) = Contains ks k × IsSuch k × All (λ j. IsSuch j → ¬ (cmp j k ≡ Less)) ks

  -- the least key above, if there is one
  abbrev pub IsNextKey : List K → Option K → Option K → Type 0
  IsNextKey ks from best = IsFirstKey (IsAbove from) ks best

  -- where a key passes a test, those above it do
  abbrev pub PassesUpward : (K → Bool) → Type 0
  PassesUpward test = (one other : K) → test one ≡ true → cmp one other ≡ Less → test other ≡ true

  -- the least key that passes a test, if there is one
  abbrev pub IsFirstPassing : (K → Bool) → List K → Option K → Type 0
  IsFirstPassing test ks best = IsFirstKey (λ k. test k ≡ true) ks best

  -- a mark and a key stand above others: the mark does, or the key at the same mark
  abbrev pub IsPairAbove : ℕ → Option K → ℕ → K → Type 0
  IsPairAbove mark from m k = (mark < m) ⊎ ((mark ≡ m) × IsAbove from k)

module _ {K V : Type 0} (cmp : K → K → Ordering) where
  -- each row stands at each mark up to its tick; the least of these pairs above the given one, if there is one
  abbrev pub IsNextMark : List (Row K V) → ℕ → Option K → Option (ℕ × K) → Type 0
  IsNextMark rows mark from None = All (λ row. (m : ℕ) → m ≤ row.tick → ¬ (IsPairAbove cmp mark from m row.key)) rows
  IsNextMark rows mark from (Some p) =
      ((row : Row K V) × Contains rows row × (row.key ≡ p.1) × (p.0 ≤ row.tick)) × IsPairAbove cmp mark from p.0 p.1
      × All (λ row. (m : ℕ) → m ≤ row.tick → IsPairAbove cmp mark from m row.key → ¬ (IsPairAbove cmp m (Some row.key) p.0 p.1)) rows
