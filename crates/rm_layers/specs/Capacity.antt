-- How many network rows a control row has room for, fixed when it becomes active.
use Rattle.std.specs.Prelude.{ℕ, ◌/◌, min, Option, Some, None}

-- a number of rows, and one that is desired. None sets no bound: it is the value -1 of MaxDesiredEntries
abbrev pub bounded : ℕ → Option ℕ → ℕ
bounded rows None = rows
bounded rows (Some most) = min rows most

-- a network row has room for 32 application rows
abbrev pub application_bound : Option ℕ → Option ℕ
application_bound None = None
application_bound (Some most) = Some (most / 32)

-- the least of the number that the probe is started with, NlMaxDesiredEntries, and AlMaxDesiredEntries / 32 rounded down
abbrev pub capacity : (upper : ℕ) (network applications : Option ℕ) → ℕ
capacity upper network applications = bounded (bounded upper network) (application_bound applications)
