-- What a Set makes of what the rows have counted.
use Rattle.std.specs.Prelude.{ℕ, [], List, false, filter, Option, Some, None}
use Rattle.std.specs.List.{list_any}
use Rattle.std.specs.Option.{option_map_or}
use Rattle.std.specs.Prelude.{Bool, nat_eq}
use Rattle.rm_model.specs.declared.row.State.{State}
use Rattle.rm_model.specs.declared.row.State.TheVariants.{Absent, UnderCreation, Valid}
use Rattle.rm_path.specs.declared.protocol.Protocol.{Protocol}
use Rattle.rm_dist.specs.declared.count.Count.{Count}
use Rattle.rm_dist.specs.declared.row.DistributionRow.{DistributionRow}
use Rattle.rm_dist.specs.declared.row.Tally.{Tally}

-- a row that became active has counted nothing yet, and one that isn't active counts nothing
abbrev pub tally_after : (now : ℕ) → State → Option Tally → Option Tally
tally_after now Valid None = Some (record { since = now; counts = [] })
tally_after now Valid (Some tally) = Some tally
tally_after now UnderCreation tally = None
tally_after now Absent tally = None

abbrev pub resting : (now : ℕ) → State → DistributionRow → DistributionRow
resting now state row = record row { tally = tally_after now state row.tally }

-- whether a slot has a protocol with a local index
abbrev pub is_local : ℕ → Option Protocol → Bool
is_local local held = option_map_or (λ protocol. nat_eq protocol.local local) held false

abbrev pub has_local : List (Option Protocol) → ℕ → Bool
has_local slots local = list_any (is_local local) slots

-- the counts of protocols in slots alone
abbrev pub sifted : List (Option Protocol) → List Count → List Count
sifted slots counts = filter (λ count. has_local slots count.local) counts

abbrev pub sifted_tally : List (Option Protocol) → Option Tally → Option Tally
sifted_tally slots None = None
sifted_tally slots (Some tally) = Some (record tally { counts = sifted slots tally.counts })

abbrev pub sifting : List (Option Protocol) → DistributionRow → DistributionRow
sifting slots row = record row { tally = sifted_tally slots row.tally }
