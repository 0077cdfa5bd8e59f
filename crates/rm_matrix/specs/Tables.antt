-- The pairs of hosts of rows.
use Rattle.std.specs.Prelude.{ℕ}
use Rattle.rm_model.specs.Counting.{Counting}
use Rattle.rm_model.specs.Journal.{Journal}
use Rattle.rm_keyed.specs.Addresses.{pair_eq}
use Rattle.rm_keyed.specs.declared.address_pair.AddressPair.{AddressPair}
use Rattle.rm_sourced.specs.declared.sourced.Sourced.{Sourced}
use Rattle.rm_sourced.specs.Sourcing.{Sourcing, IsSourced}
use Rattle.rm_matrix.specs.declared.pair_counts.PairCounts.{PairCounts}
use Rattle.rm_matrix.specs.declared.matrix_rows.MatrixRows.{MatrixRows}
use Rattle.rm_matrix.specs.Counts.{no_counts, with_gain}
use Rattle.rm_matrix.specs.Control.{named_entry}
use Rattle.rm_matrix.specs.Mentions.{mentioned_in}

-- the pairs of a row, and its data source
abbrev pub MatrixTable : Type 0
MatrixTable = Sourced AddressPair MatrixRows

-- what frames enter, with room for so many pairs as the probe was set to
abbrev pub pair_sourcing : Sourcing AddressPair PairCounts MatrixRows
pair_sourcing = record {
  room = λ settings. settings.pairs;
  eq = pair_eq;
  blank = no_counts;
  plus = with_gain;
  mentioned = mentioned_in;
  entered = λ rows. rows.pairs;
}

-- The pairs that are kept are those of a row after a journal: those of its mentions.
abbrev pub IsTable : Counting → Journal → (row : ℕ) → MatrixTable → Type 0
IsTable = IsSourced named_entry pair_sourcing
