-- The sums of what frames add to the counters of a row, each modulo 2 ^ 64.
use Rattle.std.specs.Prelude.{ℕ, ◌+◌, ◌*◌, ◌%◌, ◌^◌, ◌≤◌}
use Rattle.rm_proto.specs.declared.known.Facts.{Facts}
use Rattle.rm_group.specs.declared.bounds.TheConstants.{MOST_OCTETS}
use Rattle.rm_ether.specs.declared.counter.Counter.{Counter}
use Rattle.rm_ether.specs.declared.counter.Counter.TheVariants.{DropEvents, Octets, Pkts, BroadcastPkts, MulticastPkts, CRCAlignErrors, UndersizePkts, OversizePkts, Fragments, Jabbers, Collisions, Pkts64Octets, Pkts65to127Octets, Pkts128to255Octets, Pkts256to511Octets, Pkts512to1023Octets, Pkts1024to1518Octets}
use Rattle.rm_ether.specs.declared.statistics.Statistics.{Statistics}
use Rattle.rm_ether.specs.Counted.{counted}

-- the value of a counter
abbrev pub counter_of : Statistics → Counter → ℕ
counter_of statistics DropEvents = 0
counter_of statistics Octets = statistics.octets
counter_of statistics Pkts = statistics.packets
counter_of statistics BroadcastPkts = statistics.broadcast
counter_of statistics MulticastPkts = statistics.multicast
counter_of statistics CRCAlignErrors = 0
counter_of statistics UndersizePkts = statistics.undersize
counter_of statistics OversizePkts = statistics.oversize
counter_of statistics Fragments = 0
counter_of statistics Jabbers = 0
counter_of statistics Collisions = 0
counter_of statistics Pkts64Octets = statistics.of_64
counter_of statistics Pkts65to127Octets = statistics.of_65_to_127
counter_of statistics Pkts128to255Octets = statistics.of_128_to_255
counter_of statistics Pkts256to511Octets = statistics.of_256_to_511
counter_of statistics Pkts512to1023Octets = statistics.of_512_to_1023
counter_of statistics Pkts1024to1518Octets = statistics.of_1024_to_1518

-- the sums that are the values of counters
abbrev pub sums_of : (Counter → ℕ) → Statistics
sums_of value = record {
  packets = value Pkts;
  octets = value Octets;
  broadcast = value BroadcastPkts;
  multicast = value MulticastPkts;
  undersize = value UndersizePkts;
  oversize = value OversizePkts;
  of_64 = value Pkts64Octets;
  of_65_to_127 = value Pkts65to127Octets;
  of_128_to_255 = value Pkts128to255Octets;
  of_256_to_511 = value Pkts256to511Octets;
  of_512_to_1023 = value Pkts512to1023Octets;
  of_1024_to_1518 = value Pkts1024to1518Octets;
}

-- the sums over no frame
abbrev pub no_sums : Statistics
no_sums = sums_of (λ each. 0)

-- a counter after a frame
abbrev pub counter_with : Statistics → Facts → Counter → ℕ
counter_with statistics facts each = (counter_of statistics each + counted each facts) % 2 ^ 64

-- the sums with one more frame
abbrev pub with_frame : Facts → Statistics → Statistics
with_frame facts statistics = sums_of (counter_with statistics facts)

-- no sum is more than that of its packets, where each has the most octets
abbrev pub AreBounded : Statistics → Type 0
AreBounded statistics = (each : Counter) → counter_of statistics each ≤ MOST_OCTETS * statistics.packets
