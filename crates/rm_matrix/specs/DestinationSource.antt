-- The table matrixDS (RFC 1757, section 5): the same pairs by their destinations and then by their sources.
use Rattle.std.specs.Prelude.{ℕ, List, [], ◌∷◌}
use Rattle.rm_model.specs.Counting.{Counting}
use Rattle.rm_model.specs.Journal.{Journal}
use Rattle.rm_keyed.specs.declared.address_pair.AddressPair.{AddressPair}
use Rattle.rm_keyed.specs.Addresses.{pair_index, reversed}

-- the identifier of matrixDSEntry
abbrev pub destination_entry : List ℕ
destination_entry = 1 ∷ 3 ∷ 6 ∷ 1 ∷ 2 ∷ 1 ∷ 16 ∷ 6 ∷ 3 ∷ 1 ∷ []

-- the index of a pair: its destination, and then its source
abbrev pub destination_index : Counting → Journal → (row : ℕ) → AddressPair → List ℕ
destination_index settings journal row pair = pair_index (reversed pair)
