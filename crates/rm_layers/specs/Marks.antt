-- The next instance of a row that stands at each mark up to the tick of its last contribution (TimeFilter, RFC 2021, section 6).
use Rattle.std.specs.Prelude.{◌≡◌, ℕ, ◌<◌, ◌≤◌, ◌⊎◌, Option, Some, None, ⊤, Bool, true, List}
use Rattle.std.specs.declared.cmp.Ordering.{Ordering}
use Rattle.std.specs.declared.cmp.Ordering.TheVariants.{Less}
use Rattle.std.specs.Ordering.{ordering_then, nat_cmp}
use Rattle.rm_evicting.specs.Held.{last_tick}
use Rattle.rm_layers.specs.Event.{Event, span}
use Rattle.rm_layers.specs.Network.{is_held, exists, application_contributions, newest_tick}

module _ {X Y : Type 0} (cmp : X → X → Ordering) (other : Y → Y → Ordering) where
  -- by the first, and then by the second
  abbrev pub pair_cmp : X × Y → X × Y → Ordering
  pair_cmp a b = ordering_then (cmp a.0 b.0) (other a.1 b.1)

module _ {X : Type 0} (cmp : X → X → Ordering) where
  -- the least of the names that are shown and stand above, if there is one
  abbrev pub IsLeast : (X → Type 0) → (X → Type 0) → Option X → Type 0
  IsLeast shown above None = (x : X) → shown x → above x → ⊥
  IsLeast shown above (Some x) = shown x × above x × ((y : X) → shown y → above y → cmp y x ≡ Less → ⊥)

-- lasts x tick: the last contribution to the row with the name x came at that tick
module _ {X : Type 0} (lasts : X → ℕ → Type 0) where
  abbrev pub StandsAt : ℕ → X → Type 0
  StandsAt mark x = (tick : ℕ) × lasts x tick × (mark ≤ tick)

  abbrev pub IsInstance : ℕ × X → Type 0
  IsInstance one = StandsAt one.0 one.1

-- a mark and a name stand above those where a walk is
abbrev pub IsAboveAt : {X : Type 0} → ℕ → (X → Type 0) → ℕ × X → Type 0
IsAboveAt mark above one = (mark < one.0) ⊎ ((mark ≡ one.0) × above one.1)

-- the least instance above, by mark and then by name
abbrev pub IsNextInstance : {X : Type 0} → (X → X → Ordering) → (X → ℕ → Type 0) → ℕ → (X → Type 0) → Option (ℕ × X) → Type 0
IsNextInstance cmp lasts mark above result = IsLeast (pair_cmp nat_cmp cmp) (IsInstance lasts) (IsAboveAt mark above) result

-- a name stands above one, or above none
abbrev pub IsAboveName : {X : Type 0} → (X → X → Ordering) → Option X → X → Type 0
IsAboveName cmp None x = ⊤
IsAboveName cmp (Some y) x = cmp y x ≡ Less

-- an application row's name stands above a key and maybe a protocol, or above nothing
abbrev pub IsAboveApplication : {K : Type 0} → (K → K → Ordering) → Option (K × Option ℕ) → K × ℕ → Type 0
IsAboveApplication cmp None x = ⊤
IsAboveApplication cmp (Some from) x = (cmp from.0 x.0 ≡ Less) ⊎ ((from.0 ≡ x.0) × IsAboveName nat_cmp from.1 x.1)

module _ {K G : Type 0} (eq : K → K → Bool) (capacity : ℕ) (events : List (Event K G)) where
  -- the ticks of the last contributions to network rows, and to application rows
  abbrev pub NetworkLasts : K → ℕ → Type 0
  NetworkLasts key tick = (is_held eq capacity key events ≡ true) × (tick ≡ last_tick eq key (span events))

  abbrev pub ApplicationLasts : K × ℕ → ℕ → Type 0
  ApplicationLasts x tick = (exists eq capacity x.0 x.1 events ≡ true) × (tick ≡ newest_tick (application_contributions eq capacity x.0 x.1 events))
