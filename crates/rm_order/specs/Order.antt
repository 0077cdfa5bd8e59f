-- Keys that rise, and how they stand for those of a table.
use Rattle.std.specs.Prelude.{◌≡◌, ◌↔◌, ℕ, ◌<◌, ◌≤◌, Bool, true, false, List, length, slice_get, Some, Contains}
use Rattle.std.specs.declared.cmp.Ordering.{Ordering}
use Rattle.std.specs.declared.cmp.Ordering.TheVariants.{Less}
use Rattle.rm_rows.specs.Stored.{Pairwise}

-- how many keys there is room for, and the keys
pub record Ordered (K : Type 0) : Type 0 where
  pub room : ℕ
  pub keys : List K

module _ {K : Type 0} where
  -- each key stands before those behind it
  abbrev pub AreRising : (K → K → Ordering) → List K → Type 0
  AreRising cmp keys = Pairwise (λ one other. cmp one other ≡ Less) keys

  -- the keys are those of others, each reversed
  abbrev pub AreReversed : (to : K → K) → (ordered keys : List K) → Type 0
  AreReversed to ordered keys = (k : K) → Contains ordered k ↔ Contains keys (to k)

  -- the keys before the place low don't pass a test, and those from the place high on do
  pub record IsParted (test : K → Bool) (keys : List K) (low high : ℕ) : Type 0 where
    pub order : low ≤ high
    pub within : high ≤ length keys
    pub below : (k : ℕ) (key : K) → k < low → slice_get keys k ≡ Some key → test key ≡ false
    pub above : (k : ℕ) (key : K) → high ≤ k → slice_get keys k ≡ Some key → test key ≡ true

  -- the keys from a place on are those that pass a test
  abbrev pub IsCut : (K → Bool) → List K → ℕ → Type 0
  IsCut test keys place = IsParted test keys place place
