-- Four groups as one.
use Rattle.std.specs.Prelude.{Bool, ◌||◌, Option}
use Rattle.std.specs.Option.{option_or}

-- what the first of four has that has anything
abbrev pub first_of : {A : Type 0} → Option A → Option A → Option A → Option A → Option A
first_of one two three four = option_or (option_or (option_or one two) three) four

-- one of four is
abbrev pub any_of : Bool → Bool → Bool → Bool → Bool
any_of one two three four = ((one || two) || three) || four
