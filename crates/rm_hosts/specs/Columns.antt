-- The columns of host and hostTime (RFC 1757, section 5).
use Rattle.std.specs.Prelude.{ℕ, List, [], ◌∷◌, nat_eq, if◌then◌else◌}
use Rattle.rm_hosts.specs.declared.host_counts.HostCounts.{HostCounts}

-- the numbers of the columns of host, and of hostTime
abbrev pub host_columns : List ℕ
host_columns = 1 ∷ 2 ∷ 3 ∷ 4 ∷ 5 ∷ 6 ∷ 7 ∷ 8 ∷ 9 ∷ 10 ∷ []

-- the counter in a column from 4 to 10 of these
abbrev pub counter_in : ℕ → HostCounts → ℕ
counter_in column counts =
    if nat_eq column 4 then counts.in_pkts
    else if nat_eq column 5 then counts.out_pkts
    else if nat_eq column 6 then counts.in_octets
    else if nat_eq column 7 then counts.out_octets
    else if nat_eq column 8 then counts.out_errors
    else if nat_eq column 9 then counts.out_broadcast
    else counts.out_multicast
