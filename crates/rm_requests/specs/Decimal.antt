-- The number that decimal digits are.
use Rattle.std.specs.Prelude.{◌≡◌, ◌<◌, ◌-◌, ◌*◌, ◌^◌, ℕ, suc, List, [], ◌∷◌, length, slice_index, sum_by, All}
use Rattle.std.specs.Int.{IsInRange}
use Rattle.std.specs.List.{range_with_len}

-- the sum of each digit times ten to the power of how many stand behind it
abbrev pub decimal_sum : List ℕ → ℕ
decimal_sum text = sum_by (λ (place : ℕ). (slice_index text place - 48) * 10 ^ (length text - suc place)) (range_with_len 0 (length text))

-- one or more digits from '0' to '9', with that sum
pub record IsDecimal (text : List ℕ) (number : ℕ) : Type 0 where
  pub some : 0 < length text
  pub digits : All (IsInRange 48 57) text
  pub sum : number ≡ decimal_sum text

-- a digit '0' stands first only where it stands alone
abbrev pub HasNoLeadingZero : List ℕ → Type 0
HasNoLeadingZero text = (rest : List ℕ) → text ≡ 48 ∷ rest → rest ≡ []
