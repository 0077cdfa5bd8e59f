-- Addresses and pairs of addresses in indexes.
use Rattle.std.specs.Prelude.{ℕ, List, [], ◌∷◌, ◌++◌, take, drop, Option, Some, None}
use Rattle.rm_layer_matrices.specs.declared.address_pair.AddressPair.{AddressPair}
use Rattle.rm_walk_places.specs.declared.places.Bounds.{Bounds}
use Rattle.rm_layer_tables.specs.Indexes.{address_numbers, address_of, KeyForm}

-- the bounds of an octet
abbrev pub octet_bounds : Bounds
octet_bounds = record { least = 0; greatest = 255 }

-- those of the numbers of an address: how many octets, and these
abbrev pub address_bounds : List Bounds
address_bounds = record { least = 4; greatest = 4 } ∷ octet_bounds ∷ octet_bounds ∷ octet_bounds ∷ octet_bounds ∷ []

-- how an address stands in an index
abbrev pub address_form : KeyForm (List ℕ)
address_form = record { count = 5; numbers = address_numbers; key_of = address_of; bounds = address_bounds }

-- the pair of two addresses, where both are there
abbrev pub pair_of : Option (List ℕ) → Option (List ℕ) → Option (AddressPair (List ℕ))
pair_of (Some first) (Some second) = Some (record { first = first; second = second })
pair_of first second = None

-- how a pair stands in an index: the numbers of the first address, and then those of the second
abbrev pub pair_form : KeyForm (AddressPair (List ℕ))
pair_form = record {
  count = 10;
  numbers = λ pair. address_numbers pair.first ++ address_numbers pair.second;
  key_of = λ numbers. pair_of (address_of (take 5 numbers)) (address_of (drop 5 numbers));
  bounds = address_bounds ++ address_bounds;
}
