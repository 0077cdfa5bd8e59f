-- The columns of nlHost and alHost (RFC 2021, section 6).
use Rattle.std.specs.Prelude.{ℕ, ◌-◌, List, [], ◌∷◌, nat_eq, if◌then◌else◌}
use Rattle.rm_layer_hosts.specs.declared.counts.NetworkCounts.{NetworkCounts}
use Rattle.rm_layer_hosts.specs.declared.counts.Traffic.{Traffic}

-- those of nlHost: packets and octets in and out, packets out to more than one host, and the time of creation
abbrev pub network_columns : List ℕ
network_columns = 3 ∷ 4 ∷ 5 ∷ 6 ∷ 7 ∷ 8 ∷ []

-- those of alHost: packets and octets in and out, and the time of creation
abbrev pub application_columns : List ℕ
application_columns = 2 ∷ 3 ∷ 4 ∷ 5 ∷ 6 ∷ []

-- the gauge in a column of alHost
abbrev pub traffic_in : ℕ → Traffic → ℕ
traffic_in column traffic =
    if nat_eq column 2 then traffic.in_pkts
    else if nat_eq column 3 then traffic.out_pkts
    else if nat_eq column 4 then traffic.in_octets
    else traffic.out_octets

-- and in one of nlHost, where each of these stands one column later
abbrev pub gauge_in : ℕ → NetworkCounts → ℕ
gauge_in column counts = if nat_eq column 7 then counts.out_non_unicast_pkts else traffic_in (column - 1) counts.traffic
