-- Numbers in decimal digits.
use Rattle.std.specs.Prelude.{ℕ, ◌&&◌, nat_le, if◌then◌else◌, List, length, Option, Some, None}
use Rattle.std.specs.Str.{all_ascii_digits}
use Rattle.std.specs.Str.Parse.{digits_value}

-- the number that one to ten digits are, if it is at most 4294967295
unfoldable pub number_in : List ℕ → Option ℕ
number_in text =
    if all_ascii_digits text && nat_le 1 (length text) && nat_le (length text) 10 && nat_le (digits_value 10 text) 4294967295
    then Some (digits_value 10 text) else None
