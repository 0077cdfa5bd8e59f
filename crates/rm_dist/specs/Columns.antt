-- The columns of protocolDistControl and of protocolDistStats (RFC 2021, section 6).
use Rattle.std.specs.Prelude.{ℕ, List, [], ◌∷◌}

-- the columns of protocolDistControl that are answered: the data source, the dropped frames, the time of creation, the owner and the status
abbrev pub control_columns : List ℕ
control_columns = 2 ∷ 3 ∷ 4 ∷ 5 ∷ 6 ∷ []

-- the columns of protocolDistStats: packets and octets
abbrev pub stats_columns : List ℕ
stats_columns = 1 ∷ 2 ∷ []
