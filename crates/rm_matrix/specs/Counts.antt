-- What is counted of pairs of hosts, and what a frame adds to it (RFC 1757, section 5).
use Rattle.std.specs.Prelude.{◌+◌, ◌%◌, ◌^◌, not}
use Rattle.rm_proto.specs.declared.known.Facts.{Facts}
use Rattle.rm_ether.specs.Counted.{one_if}
use Rattle.rm_matrix.specs.declared.pair_counts.PairCounts.{PairCounts}

-- what a frame adds to the counts of its pair: a bad frame is an error
abbrev pub gain : Facts → PairCounts
gain facts = record { pkts = 1; octets = facts.length; errors = one_if (not facts.good) }

-- the counts of a pair that has just entered its table
abbrev pub no_counts : PairCounts
no_counts = record { pkts = 0; octets = 0; errors = 0 }

-- counts with a gain added; they are kept modulo 2 ^ 64
abbrev pub with_gain : PairCounts → PairCounts → PairCounts
with_gain counts gain = record {
  pkts = (counts.pkts + gain.pkts) % 2 ^ 64;
  octets = (counts.octets + gain.octets) % 2 ^ 64;
  errors = (counts.errors + gain.errors) % 2 ^ 64;
}
