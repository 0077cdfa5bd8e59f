-- The columns of nlMatrixSD, nlMatrixDS, alMatrixSD and alMatrixDS (RFC 2021, section 6).
use Rattle.std.specs.Prelude.{ℕ, List, [], ◌∷◌, nat_eq, if◌then◌else◌}
use Rattle.rm_layer_matrices.specs.declared.pair_counts.PairCounts.{PairCounts}

-- those of nlMatrixSD and nlMatrixDS: packets, octets and the time of creation
abbrev pub network_columns : List ℕ
network_columns = 4 ∷ 5 ∷ 6 ∷ []

-- the same of alMatrixSD and alMatrixDS
abbrev pub application_columns : List ℕ
application_columns = 2 ∷ 3 ∷ 4 ∷ []

-- the gauge in a column, where that of packets has this number
abbrev pub count_in : (packets column : ℕ) → PairCounts → ℕ
count_in packets column counts = if nat_eq column packets then counts.pkts else counts.octets

-- of a pair, and of a protocol of it
abbrev pub network_count : (column : ℕ) → PairCounts → ℕ
network_count = count_in 4

abbrev pub application_count : (column : ℕ) → PairCounts → ℕ
application_count = count_in 2
