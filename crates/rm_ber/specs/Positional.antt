-- Numbers by their digits.
use Rattle.std.specs.Prelude.{ℕ, suc, ◌-◌, ◌*◌, ◌^◌, List, length, slice_index, sum_by}
use Rattle.std.specs.List.{range_with_len}

-- the number whose digits in a base are these, the highest first: the sum of each times the base to the power of how many stand
-- behind it
abbrev pub positional : (base : ℕ) → List ℕ → ℕ
positional base digits = sum_by (λ (place : ℕ). slice_index digits place * base ^ (length digits - suc place)) (range_with_len 0 (length digits))
