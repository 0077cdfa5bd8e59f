-- Pairs of addresses of six octets each.
use Rattle.std.specs.Prelude.{ℕ, List, [], ◌∷◌, ◌++◌, Bool, ◌&&◌, slice_index, refl}
use Rattle.std.specs.Str.{bytes_eq}
use Rattle.rm_keyed.specs.declared.address_pair.AddressPair.{AddressPair}

-- the first six octets: an address has no more
abbrev pub six_of : List ℕ → List ℕ
six_of octets =
    slice_index octets 0 ∷ slice_index octets 1 ∷ slice_index octets 2 ∷ slice_index octets 3 ∷ slice_index octets 4 ∷ slice_index octets 5 ∷ []

-- two addresses as a pair
abbrev pub address_pair : (first second : List ℕ) → AddressPair
address_pair first second = record { first = six_of first; second = six_of second; first_six = refl; second_six = refl }

-- the second first
abbrev pub reversed : AddressPair → AddressPair
reversed pair = record { first = pair.second; second = pair.first; first_six = pair.second_six; second_six = pair.first_six }

-- whether two pairs are one
abbrev pub pair_eq : AddressPair → AddressPair → Bool
pair_eq one other = bytes_eq one.first other.first && bytes_eq one.second other.second

-- the index of a pair: each address as a text, the number of its octets, 6, and then these (RFC 1902, section 7.7)
abbrev pub pair_index : AddressPair → List ℕ
pair_index pair = (6 ∷ pair.first) ++ (6 ∷ pair.second)
