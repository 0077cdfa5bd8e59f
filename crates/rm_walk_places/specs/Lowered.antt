-- The greatest numbers within bounds that aren't above some others: the first of these are kept, the next is lowered, and then come the
-- greatest of all.
use Rattle.std.specs.Prelude.{ℕ, zero, suc, ◌-◌, min, nat_le, nat_lt, if◌then◌else◌, List, [], ◌∷◌, map, length, slice_get, Option, Some, None}
use Rattle.std.specs.Option.{option_map}
use Rattle.rm_walk_places.specs.declared.places.Bounds.{Bounds}
use Rattle.rm_walk_places.specs.declared.places.Reached.{Reached}

-- a number above the least is lowered where nothing behind it can be
abbrev pub kept_none : Bounds → ℕ → Option ℕ
kept_none bound number = if nat_lt bound.least number then Some 0 else None

abbrev pub kept_behind : Bounds → ℕ → Option ℕ → Option ℕ
kept_behind bound number None = kept_none bound number
kept_behind bound number (Some count) = if nat_le number bound.greatest then Some (suc count) else kept_none bound number

-- how many numbers are kept from a place on, by how many are from the next place on
abbrev pub kept_here : Bounds → Option ℕ → Option ℕ → Option ℕ
kept_here bound None behind = None
kept_here bound (Some number) behind = if nat_lt number bound.least then None else kept_behind bound number behind

-- how many numbers are kept, and nothing where there are none within bounds that aren't above
abbrev pub kept : (bounds : List Bounds) → List ℕ → Option ℕ
kept [] numbers = Some 0
kept (bound ∷ bounds) [] = None
kept (bound ∷ bounds) (number ∷ numbers) = kept_here bound (Some number) (kept bounds numbers)

-- the greatest numbers of all
abbrev pub greatest : (bounds : List Bounds) → List ℕ
greatest bounds = map (λ bound. bound.greatest) bounds

-- the numbers with so many kept
abbrev pub lowered : (count : ℕ) (bounds : List Bounds) → List ℕ → List ℕ
lowered count [] numbers = []
lowered count (bound ∷ bounds) [] = greatest (bound ∷ bounds)
lowered zero (bound ∷ bounds) (number ∷ numbers) = min bound.greatest (number - 1) ∷ greatest bounds
lowered (suc count) (bound ∷ bounds) (number ∷ numbers) = number ∷ lowered count bounds numbers

-- the protocol above which a walk goes on: the number behind all that are kept, and else the last of all
abbrev pub protocol_behind : (count : ℕ) (bounds : List Bounds) → List ℕ → Option ℕ
protocol_behind count bounds numbers = if nat_lt count (length bounds) then Some 4294967295 else slice_get numbers count

abbrev pub reached_with : (bounds : List Bounds) → List ℕ → ℕ → Reached
reached_with bounds numbers count = record { numbers = lowered count bounds numbers; protocol = protocol_behind count bounds numbers }

abbrev pub reached : (bounds : List Bounds) → List ℕ → Option Reached
reached bounds numbers = option_map (reached_with bounds numbers) (kept bounds numbers)
