-- What a value is as a number, as a name and as a text.
use Rattle.std.specs.Prelude.{ℕ, ℤ, pos, List, []}
use Rattle.rm_val.specs.Val.{Val, int, octets, name}

-- the number that a value is, 0 where it is none
abbrev pub number_of : Val → ℤ
number_of (int n) = n
number_of value = pos 0

-- the same, 0 where it is negative too
abbrev pub natural_in : Val → ℕ
natural_in (int (pos n)) = n
natural_in value = 0

-- the name that a value is, one of no numbers where it is none
abbrev pub name_of : Val → List ℕ
name_of (name numbers) = numbers
name_of value = []

-- the octets of a text, none where a value is no text
abbrev pub octets_in : Val → List ℕ
octets_in (octets bytes) = bytes
octets_in value = []
