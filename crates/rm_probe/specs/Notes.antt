-- Notifications, and the lines that are written for them.
use Rattle.std.specs.Prelude.{ℕ, List, ◌++◌, decimal, codes}
use Rattle.hex.specs.Hex.{encode_lower}

-- a notification: its moment in milliseconds, and the octets of its message
pub record Note : Type 0 where
  pub moment : ℕ
  pub message : List ℕ

-- the line of a notification
abbrev pub trap_line : Note → List ℕ
trap_line note = decimal note.moment ++ codes " trap " ++ encode_lower note.message ++ codes "\n"
