-- What can be read of variables.
use Rattle.std.specs.Prelude.{ℕ, List, Option, None}
use Rattle.rm_model.specs.declared.reading.Reading.{Reading}

-- what the variable with each name reads, if there is a reading for it
abbrev pub Readings : Type 0
Readings = List ℕ → Option Reading

-- where nothing can be read
abbrev pub nothing_read : Readings
nothing_read name = None
