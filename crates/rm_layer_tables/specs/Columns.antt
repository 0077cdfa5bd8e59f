-- The columns of hlHostControl and hlMatrixControl (RFC 2021, section 6).
use Rattle.std.specs.Prelude.{ℕ, List, [], ◌∷◌}

-- those that are answered: the data source, dropped frames, rows that were entered and rows that are gone, and the most desired rows, of the
-- network layer and of the application layer, the owner and the status
abbrev pub control_columns : List ℕ
control_columns = 2 ∷ 3 ∷ 4 ∷ 5 ∷ 6 ∷ 7 ∷ 8 ∷ 9 ∷ 10 ∷ 11 ∷ 12 ∷ []
