-- Which counter of hosts a report compares (RFC 1757, hostTopNRateBase).
use Rattle.std.specs.Prelude.{ℕ, [], ◌∷◌, refl}
use Rattle.rm_columns.specs.Field.{FieldOf}
use Rattle.rm_columns.specs.Kinds.{variants}
use Rattle.rm_columns.specs.Numbering.{Numbering}
use Rattle.rm_hosts.specs.declared.host_counts.HostCounts.{HostCounts}
use Rattle.rm_report.specs.declared.rate_base.RateBase.{RateBase}
use Rattle.rm_report.specs.declared.rate_base.RateBase.TheVariants.{InPkts, OutPkts, InOctets, OutOctets, OutErrors, OutBroadcastPkts, OutMulticastPkts}

-- that counter of a host
abbrev pub count_of : RateBase → HostCounts → ℕ
count_of InPkts counts = counts.in_pkts
count_of OutPkts counts = counts.out_pkts
count_of InOctets counts = counts.in_octets
count_of OutOctets counts = counts.out_octets
count_of OutErrors counts = counts.out_errors
count_of OutBroadcastPkts counts = counts.out_broadcast
count_of OutMulticastPkts counts = counts.out_multicast

-- its number
abbrev pub base_number : RateBase → ℕ
base_number InPkts = 1
base_number OutPkts = 2
base_number InOctets = 3
base_number OutOctets = 4
base_number OutErrors = 5
base_number OutBroadcastPkts = 6
base_number OutMulticastPkts = 7

-- the counters, the good frames to a host by default
abbrev pub numbering : Numbering RateBase
numbering = record {
  number_of = base_number;
  first = InPkts;
  others = OutPkts ∷ InOctets ∷ OutOctets ∷ OutErrors ∷ OutBroadcastPkts ∷ OutMulticastPkts ∷ [];
}

-- the counter as a column
abbrev pub rate_bases : FieldOf RateBase
rate_bases = variants numbering 7 (refl, (refl, (refl, (refl, (refl, (refl, (refl, tt)))))))
