-- The columns of eventTable and logTable (RFC 1757, section 5).
use Rattle.std.specs.Prelude.{ℕ, List, [], ◌∷◌}

-- the numbers of the columns of eventTable
abbrev pub event_columns : List ℕ
event_columns = 1 ∷ 2 ∷ 3 ∷ 4 ∷ 5 ∷ 6 ∷ 7 ∷ []

-- the numbers of the columns of logTable: logEventIndex, logIndex, logTime and logDescription
abbrev pub log_columns : List ℕ
log_columns = 1 ∷ 2 ∷ 3 ∷ 4 ∷ []
