-- What a value holds for a column that takes numbers.
use Rattle.std.specs.Prelude.{◌≡◌, ℤ, List, Option, Some, None, refl}
use Rattle.std.specs.Option.{option_map}
use Rattle.rm_val.specs.Val.{Val, int}
use Rattle.rm_model.specs.ControlTable.{Range, number}
use Rattle.rm_model.specs.Judgement.{value_fault}

-- the number that a value is
abbrev pub number_in : Val → Option ℤ
number_in (int n) = Some n
number_in value = None

-- what a column of numbers takes is a number
pub number_taken : (ranges : List Range) (value : Val) → value_fault (Some (number ranges)) value ≡ None → option_map int (number_in value) ≡ Some value
number_taken ranges (int n) fine = refl
number_taken ranges other fine = cc
