-- What is counted of hosts, and what a frame adds to it (RFC 1757, section 5).
use Rattle.std.specs.Prelude.{◌+◌, ◌%◌, ◌^◌, not}
use Rattle.rm_proto.specs.declared.known.Facts.{Facts}
use Rattle.rm_ether.specs.declared.counter.Counter.TheVariants.{BroadcastPkts, MulticastPkts}
use Rattle.rm_ether.specs.Counted.{counted, one_if}
use Rattle.rm_hosts.specs.declared.host_counts.HostCounts.{HostCounts}

-- what a good frame adds to the counts of its destination
abbrev pub gain_in : Facts → HostCounts
gain_in facts = record {
  in_pkts = 1;
  out_pkts = 0;
  in_octets = facts.length;
  out_octets = 0;
  out_errors = 0;
  out_broadcast = 0;
  out_multicast = 0;
}

-- What a frame adds to those of its source: a bad frame is an error, and a good one may be to the broadcast address or to that
-- of a group.
abbrev pub gain_out : Facts → HostCounts
gain_out facts = record {
  in_pkts = 0;
  out_pkts = 1;
  in_octets = 0;
  out_octets = facts.length;
  out_errors = one_if (not facts.good);
  out_broadcast = counted BroadcastPkts facts;
  out_multicast = counted MulticastPkts facts;
}

-- the counts of a host that has just entered its table
abbrev pub no_counts : HostCounts
no_counts = record {
  in_pkts = 0;
  out_pkts = 0;
  in_octets = 0;
  out_octets = 0;
  out_errors = 0;
  out_broadcast = 0;
  out_multicast = 0;
}

-- counts with a gain added; they are kept modulo 2 ^ 64
abbrev pub with_gain : HostCounts → HostCounts → HostCounts
with_gain counts gain = record {
  in_pkts = (counts.in_pkts + gain.in_pkts) % 2 ^ 64;
  out_pkts = (counts.out_pkts + gain.out_pkts) % 2 ^ 64;
  in_octets = (counts.in_octets + gain.in_octets) % 2 ^ 64;
  out_octets = (counts.out_octets + gain.out_octets) % 2 ^ 64;
  out_errors = (counts.out_errors + gain.out_errors) % 2 ^ 64;
  out_broadcast = (counts.out_broadcast + gain.out_broadcast) % 2 ^ 64;
  out_multicast = (counts.out_multicast + gain.out_multicast) % 2 ^ 64;
}
