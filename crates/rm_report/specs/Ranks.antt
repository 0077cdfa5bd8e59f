-- The hosts of a report, in order of their rates.
use Rattle.std.specs.Prelude.{ℕ, ◌+◌, List, Bool, ◌&&◌, ◌||◌, nat_eq, nat_le, nat_lt, filter, find, count_by, if◌then◌else◌, Option, None}
use Rattle.std.specs.Ordering.{nat_cmp, is_lt}
use Rattle.std.specs.Cmp.Lexicographic.{slice_cmp}

-- by the rate of each host
module _ (rate : List ℕ → ℕ) where
  -- one comes before another: it has the greater rate, or the same one and the lesser address
  abbrev pub comes_before : (one other : List ℕ) → Bool
  comes_before one other = nat_lt (rate other) (rate one) || (nat_eq (rate one) (rate other) && is_lt (slice_cmp nat_cmp one other))

  -- of the hosts that are held
  module _ (held : List (List ℕ)) where
    -- those that gained something
    abbrev pub gainers : List (List ℕ)
    gainers = filter (λ address. nat_lt 0 (rate address)) held

    -- the place of one of them, from 1
    abbrev pub place_of : (address : List ℕ) → ℕ
    place_of address = 1 + count_by (λ other. comes_before other address) gainers

    -- the one at a place, if there is one
    abbrev pub gainer_at : (place : ℕ) → Option (List ℕ)
    gainer_at place = find (λ address. nat_eq (place_of address) place) gainers

    -- the one at a place in a report of so many at most, if there is one
    abbrev pub reported_at : (most place : ℕ) → Option (List ℕ)
    reported_at most place = if nat_le place most then gainer_at place else None
