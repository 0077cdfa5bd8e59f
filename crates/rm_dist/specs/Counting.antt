-- What a frame makes of what a row has counted.
use Rattle.std.specs.Prelude.{ℕ, List, Bool, ◌&&◌, nat_eq, if◌then◌else◌, Option, Some, None}
use Rattle.rm_proto.specs.declared.known.Facts.{Facts}
use Rattle.rm_dist.specs.declared.row.DistributionRow.{DistributionRow}
use Rattle.rm_dist.specs.declared.row.Tally.{Tally}
use Rattle.rm_dist.specs.Counts.{with_marks}

-- with one frame more of some protocols, where it counts
abbrev pub tally_with : (counts : Bool) → List ℕ → (octets : ℕ) → Option Tally → Option Tally
tally_with counts locals octets None = None
tally_with counts locals octets (Some tally) = if counts then Some (record tally { counts = with_marks tally.counts locals octets }) else Some tally

-- a row with a frame counted: none that isn't good, or that is of another interface
abbrev pub counting : Facts → List ℕ → DistributionRow → DistributionRow
counting facts locals row = record row { tally = tally_with (facts.good && nat_eq row.source facts.interface) locals facts.length row.tally }
