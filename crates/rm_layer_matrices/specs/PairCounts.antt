-- What is counted of pairs of addresses (RFC 2021, nlMatrixSDEntry), and what a good frame adds to it.
use Rattle.std.specs.Prelude.{◌+◌, ◌%◌, ◌^◌}
use Rattle.rm_proto.specs.declared.known.Facts.{Facts}
use Rattle.rm_upper.specs.Tally.{Tally}
use Rattle.rm_layer_matrices.specs.declared.pair_counts.PairCounts.{PairCounts}

-- the counts of a pair before its first frame
abbrev pub no_counts : PairCounts
no_counts = record { pkts = 0; octets = 0 }

-- with a gain added; sums are kept modulo 2 ^ 64
abbrev pub plus : PairCounts → PairCounts → PairCounts
plus counts gain = record { pkts = (counts.pkts + gain.pkts) % 2 ^ 64; octets = (counts.octets + gain.octets) % 2 ^ 64 }

-- network rows and application rows make the same of gains
unfoldable pub pair_tally : Tally PairCounts PairCounts
pair_tally = record { blank = no_counts; add = plus; none = no_counts; more = plus }

-- what a good frame adds to the counts of its pair
abbrev pub carried : Facts → PairCounts
carried facts = record { pkts = 1; octets = facts.length }
