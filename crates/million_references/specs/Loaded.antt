-- What a table holds under load.
use Rattle.std.specs.Prelude.{◌≡◌, ℕ, ◌+◌, Bool, cond, List, [], ◌∷◌}
use Rattle.rm_evicting.specs.Mention.{Mention, refers, strays, keys}
use Rattle.rm_evicting.specs.Held.{is_eviction}
use Rattle.rm_keyed.specs.Entered.{Entered, IsOf}
use Rattle.million_references.specs.declared.times.Times.{Times}
use Rattle.million_references.specs.Times.{never, and_again}

-- the rows, and how many have given way
pub record Held (K : Type 0) : Type 0 where
  pub table : Entered K Times
  pub evicted : ℕ

module _ {K : Type 0} (eq : K → K → Bool) (capacity : ℕ) where
  -- how many references put a row out
  abbrev pub evictions : {C : Type 0} → List (Mention K C) → ℕ
  evictions [] = 0
  evictions (refers newest stamp tick gain ∷ earlier) = cond (is_eviction eq capacity newest (keys earlier)) (evictions earlier + 1) (evictions earlier)
  evictions (strays newest gain ∷ earlier) = evictions earlier

  -- these are the references so far, the newest first
  pub record IsHeld (references : List (Mention K Times)) (held : Held K) : Type 0 where
    pub rows : IsOf eq never and_again references held.table
    pub room : held.table.rows.capacity ≡ capacity
    pub evicted : held.evicted ≡ evictions references
