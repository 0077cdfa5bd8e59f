-- A frame names two hosts at most, and the columns of hosts add up.
use Rattle.std.proofs.Common.{◌≡◌, ℕ, ◌+◌, ◌-◌, ◌%◌, ◌^◌, Bool, true, false, cond, nat_eq, refl, arith}
use Rattle.std.specs.Str.{bytes_eq}
use Rattle.std.proofs.lemmas.Slice.Eq.{bytes_eq-Decides}
use Rattle.rm_evicting.specs.Held.{IsExact}
use Rattle.rm_layer_hosts.specs.declared.counts.NetworkCounts.{NetworkCounts}
use Rattle.rm_layer_hosts.specs.declared.counts.Traffic.{Traffic}
use Rattle.rm_layer_hosts.specs.Counts.{no_counts, no_traffic, plus, more_traffic, host_tally}
use Rattle.rm_layer_tables.specs.Layer.{NamesFew}
use Rattle.rm_layer_tables.specs.Shown.{AddsUp}
use Rattle.rm_layer_tables.specs.Tables.{CanShow}
use Rattle.rm_hl_hosts.specs.Columns.{traffic_in, gauge_in}
use Rattle.rm_hl_hosts.specs.Hosts.{host_layer, nl_host, al_host}

pub names_few : NamesFew host_layer
names_few facts pair = omega arith

-- two addresses are one where they are alike
pub exact : IsExact bytes_eq
exact = record {
  itself = λ address. (bytes_eq-Decides address address).1 refl;
  same = λ one other alike. (bytes_eq-Decides one other).0 alike;
}

-- the gauge of a column by its tests
abbrev chosen : (c2 c3 c4 : Bool) → Traffic → ℕ
chosen c2 c3 c4 traffic = cond c2 traffic.in_pkts (cond c3 traffic.out_pkts (cond c4 traffic.in_octets traffic.out_octets))

chosen_adds : (c2 c3 c4 : Bool) (traffic more : Traffic) → chosen c2 c3 c4 (more_traffic traffic more) ≡ (chosen c2 c3 c4 traffic + chosen c2 c3 c4 more) % 2 ^ 64
chosen_adds true c3 c4 traffic more = refl
chosen_adds false true c4 traffic more = refl
chosen_adds false false true traffic more = refl
chosen_adds false false false traffic more = refl

chosen_none : (c2 c3 c4 : Bool) → chosen c2 c3 c4 no_traffic ≡ 0
chosen_none true c3 c4 = refl
chosen_none false true c4 = refl
chosen_none false false true = refl
chosen_none false false false = refl

traffic_adds : (column : ℕ) (traffic more : Traffic) → traffic_in column (more_traffic traffic more) ≡ (traffic_in column traffic + traffic_in column more) % 2 ^ 64
traffic_adds column = chosen_adds (nat_eq column 2) (nat_eq column 3) (nat_eq column 4)

traffic_none : (column : ℕ) → traffic_in column no_traffic ≡ 0
traffic_none column = chosen_none (nat_eq column 2) (nat_eq column 3) (nat_eq column 4)

gauge_adds : (column : ℕ) (counts gain : NetworkCounts) → gauge_in column (plus counts gain) ≡ (gauge_in column counts + gauge_in column gain) % 2 ^ 64
gauge_adds column counts gain = by_test (nat_eq column 7)
  where
    by : Bool → NetworkCounts → ℕ
    by c7 some = cond c7 some.out_non_unicast_pkts (traffic_in (column - 1) some.traffic)

    by_test : (c7 : Bool) → by c7 (plus counts gain) ≡ (by c7 counts + by c7 gain) % 2 ^ 64
    by_test true = refl
    by_test false = traffic_adds (column - 1) counts.traffic gain.traffic

gauge_none : (column : ℕ) → gauge_in column no_counts ≡ 0
gauge_none column = by_test (nat_eq column 7)
  where
    by_test : (c7 : Bool) → cond c7 0 (traffic_in (column - 1) no_traffic) ≡ 0
    by_test true = refl
    by_test false = traffic_none (column - 1)

-- what the columns of nlHost add up, and those of alHost
pub networks_add : AddsUp host_tally.blank host_tally.add gauge_in nl_host.count
unfolding host_tally
networks_add = record { none = gauge_none; adds = gauge_adds }

pub applications_add : AddsUp host_tally.none host_tally.more traffic_in al_host.count
unfolding host_tally
applications_add = record { none = traffic_none; adds = λ column traffic gain. traffic_adds column traffic gain.traffic }

-- their cells can be named
pub networks_shown : CanShow nl_host 7
networks_shown = record { rising = refl; named = refl; fits = omega arith }

pub applications_shown : CanShow al_host 8
applications_shown = record { rising = refl; named = refl; fits = omega arith }
