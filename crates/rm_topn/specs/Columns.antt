-- The columns of hostTopNControl and of hostTopN (RFC 1757, section 5).
use Rattle.std.specs.Prelude.{ℕ, List, [], ◌∷◌}

-- the numbers of the columns of hostTopNControl
abbrev pub control_columns : List ℕ
control_columns = 1 ∷ 2 ∷ 3 ∷ 4 ∷ 5 ∷ 6 ∷ 7 ∷ 8 ∷ 9 ∷ 10 ∷ []

-- the numbers of the columns of hostTopN
abbrev pub report_columns : List ℕ
report_columns = 1 ∷ 2 ∷ 3 ∷ 4 ∷ []
