-- The table matrixSD (RFC 1757, section 5): the pairs that the rows of matrixControl hold, by their sources and then by their destinations.
use Rattle.std.specs.Prelude.{ℕ, List, [], ◌∷◌}
use Rattle.rm_model.specs.Counting.{Counting}
use Rattle.rm_model.specs.Journal.{Journal}
use Rattle.rm_keyed.specs.declared.address_pair.AddressPair.{AddressPair}
use Rattle.rm_keyed.specs.Addresses.{pair_index}

-- the identifier of matrixSDEntry
abbrev pub source_entry : List ℕ
source_entry = 1 ∷ 3 ∷ 6 ∷ 1 ∷ 2 ∷ 1 ∷ 16 ∷ 6 ∷ 2 ∷ 1 ∷ []

-- the index of a pair: its source, and then its destination
abbrev pub source_index : Counting → Journal → (row : ℕ) → AddressPair → List ℕ
source_index settings journal row pair = pair_index pair
