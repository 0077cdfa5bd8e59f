-- What definitions need to know of the probe beside the journal.
use Rattle.std.specs.Prelude.{ℕ, Bool}
use Rattle.rm_model.specs.Journal.{Journal}
use Rattle.rm_model.specs.Readings.{Readings}

-- What the probe was set to, which never changes while it runs: the most hosts of a table, the most pairs of hosts of a table,
-- and the most rows of a table of the upper layers; how many interfaces there are, with the numbers from 1 on; whether a frame
-- counts as it was captured, though it is shorter than a frame on the wire can be. And what the variables that alarms may sample
-- read after a journal, at a moment in milliseconds. An alarm samples variables of other groups, which its own definitions can't
-- name.
pub record Counting : Type 0 where
  pub hosts : ℕ
  pub pairs : ℕ
  pub upper : ℕ
  pub interfaces : ℕ
  pub keep_short : Bool
  pub readings : Journal → ℕ → Readings
