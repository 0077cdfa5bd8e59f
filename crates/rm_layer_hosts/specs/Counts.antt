-- What is counted of hosts.
use Rattle.std.specs.Prelude.{◌+◌, ◌%◌, ◌^◌}
use Rattle.rm_upper.specs.Tally.{Tally}
use Rattle.rm_layer_hosts.specs.declared.counts.Traffic.{Traffic}
use Rattle.rm_layer_hosts.specs.declared.counts.NetworkCounts.{NetworkCounts}

abbrev pub no_traffic : Traffic
no_traffic = record { in_pkts = 0; out_pkts = 0; in_octets = 0; out_octets = 0 }

-- sums are kept modulo 2 ^ 64
abbrev pub more_traffic : Traffic → Traffic → Traffic
more_traffic traffic more = record {
  in_pkts = (traffic.in_pkts + more.in_pkts) % 2 ^ 64;
  out_pkts = (traffic.out_pkts + more.out_pkts) % 2 ^ 64;
  in_octets = (traffic.in_octets + more.in_octets) % 2 ^ 64;
  out_octets = (traffic.out_octets + more.out_octets) % 2 ^ 64;
}

-- the counts of a network row that has just been entered
abbrev pub no_counts : NetworkCounts
no_counts = record { traffic = no_traffic; out_non_unicast_pkts = 0 }

-- those of a network row, with a gain added
abbrev pub plus : NetworkCounts → NetworkCounts → NetworkCounts
plus counts gain = record {
  traffic = more_traffic counts.traffic gain.traffic;
  out_non_unicast_pkts = (counts.out_non_unicast_pkts + gain.out_non_unicast_pkts) % 2 ^ 64;
}

-- and those of an application row
abbrev pub with_gain : Traffic → NetworkCounts → Traffic
with_gain traffic gain = more_traffic traffic gain.traffic

-- what rows of hosts make of gains
unfoldable pub host_tally : Tally NetworkCounts Traffic
host_tally = record { blank = no_counts; add = plus; none = no_traffic; more = with_gain }
