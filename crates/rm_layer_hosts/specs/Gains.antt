-- What a good frame adds to the counts of its ends (RFC 2021, nlHostEntry).
use Rattle.std.specs.Prelude.{Bool, true, false, cond}
use Rattle.rm_proto.specs.declared.known.Facts.{Facts}
use Rattle.rm_proto.specs.declared.ethernet.Cast.{Cast}
use Rattle.rm_proto.specs.declared.ethernet.Cast.TheVariants.{Uni, Multi, Broad}
use Rattle.rm_layer_hosts.specs.declared.counts.NetworkCounts.{NetworkCounts}

-- whether it was sent to the broadcast address of the medium, or to that of a group
abbrev pub is_to_many : Cast → Bool
is_to_many Uni = false
is_to_many Multi = true
is_to_many Broad = true

-- to those of the host that sent it
abbrev pub sent : Facts → NetworkCounts
sent facts = record {
  traffic = record { in_pkts = 0; out_pkts = 1; in_octets = 0; out_octets = facts.length };
  out_non_unicast_pkts = cond (is_to_many facts.cast) 1 0;
}

-- and to those of the host that it was sent to
abbrev pub received : Facts → NetworkCounts
received facts = record {
  traffic = record { in_pkts = 1; out_pkts = 0; in_octets = facts.length; out_octets = 0 };
  out_non_unicast_pkts = 0;
}
