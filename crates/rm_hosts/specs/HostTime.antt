-- The table hostTime (RFC 1757, section 5): the same hosts by their ranks in the order of entry.
use Rattle.std.specs.Prelude.{ℕ, List, [], ◌∷◌}
use Rattle.rm_model.specs.Counting.{Counting}
use Rattle.rm_model.specs.Journal.{Journal}
use Rattle.rm_hosts.specs.Held.{rank_of}

-- the identifier of hostTimeEntry
abbrev pub time_entry : List ℕ
time_entry = 1 ∷ 3 ∷ 6 ∷ 1 ∷ 2 ∷ 1 ∷ 16 ∷ 4 ∷ 3 ∷ 1 ∷ []

-- the index of a host: its rank in the order of entry
abbrev pub time_index : Counting → Journal → (row : ℕ) → (address : List ℕ) → List ℕ
time_index settings journal row address = rank_of settings journal row address ∷ []
