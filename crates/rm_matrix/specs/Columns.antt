-- The columns of matrixSD and matrixDS (RFC 1757, section 5).
use Rattle.std.specs.Prelude.{ℕ, List, [], ◌∷◌, nat_eq, if◌then◌else◌}
use Rattle.rm_matrix.specs.declared.pair_counts.PairCounts.{PairCounts}

-- the numbers of the columns of matrixSD, and of matrixDS
abbrev pub pair_columns : List ℕ
pair_columns = 1 ∷ 2 ∷ 3 ∷ 4 ∷ 5 ∷ 6 ∷ []

-- the counter in a column from 4 to 6 of these
abbrev pub counter_in : ℕ → PairCounts → ℕ
counter_in column counts =
    if nat_eq column 4 then counts.pkts
    else if nat_eq column 5 then counts.octets
    else counts.errors
