-- The hosts of rows.
use Rattle.std.specs.Prelude.{ℕ, List}
use Rattle.std.specs.Str.{bytes_eq}
use Rattle.rm_model.specs.Counting.{Counting}
use Rattle.rm_model.specs.Journal.{Journal}
use Rattle.rm_sourced.specs.declared.sourced.Sourced.{Sourced}
use Rattle.rm_sourced.specs.Sourcing.{Sourcing, IsSourced}
use Rattle.rm_hosts.specs.declared.host_counts.HostCounts.{HostCounts}
use Rattle.rm_hosts.specs.declared.host_rows.HostRows.{HostRows}
use Rattle.rm_hosts.specs.Counts.{no_counts, with_gain}
use Rattle.rm_hosts.specs.Control.{named_entry}
use Rattle.rm_hosts.specs.Mentions.{mentioned_in}

-- the hosts of a row, and its data source
abbrev pub HostTable : Type 0
HostTable = Sourced (List ℕ) HostRows

-- what frames enter, with room for so many hosts as the probe was set to
abbrev pub host_sourcing : Sourcing (List ℕ) HostCounts HostRows
host_sourcing = record {
  room = λ settings. settings.hosts;
  eq = bytes_eq;
  blank = no_counts;
  plus = with_gain;
  mentioned = mentioned_in;
  entered = λ rows. rows.keyed;
}

-- The hosts that are kept are those of a row after a journal: those of its mentions.
abbrev pub IsTable : Counting → Journal → (row : ℕ) → HostTable → Type 0
IsTable = IsSourced named_entry host_sourcing
