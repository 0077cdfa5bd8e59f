-- The columns of historyControl and etherHistory (RFC 1757, section 5).
use Rattle.std.specs.Prelude.{ℕ, ◌-◌, List, [], ◌∷◌}
use Rattle.rm_ether.specs.declared.counter.Counter.{Counter}
use Rattle.rm_ether.specs.Columns.{counter_numbered}

-- the numbers of the columns of historyControl
abbrev pub control_columns : List ℕ
control_columns = 1 ∷ 2 ∷ 3 ∷ 4 ∷ 5 ∷ 6 ∷ 7 ∷ []

-- the numbers of the columns of etherHistory
abbrev pub sample_columns : List ℕ
sample_columns = 1 ∷ 2 ∷ 3 ∷ 4 ∷ 5 ∷ 6 ∷ 7 ∷ 8 ∷ 9 ∷ 10 ∷ 11 ∷ 12 ∷ 13 ∷ 14 ∷ 15 ∷ []

-- the counter in a column from 4 to 14 of etherHistory: that of etherStats in the column before
abbrev pub counter_in : ℕ → Counter
counter_in column = counter_numbered (column - 1)
