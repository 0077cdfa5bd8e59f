-- What counts add up to.
use Rattle.std.proofs.Common.{◌≡◌, ℕ, ◌+◌, ◌%◌, ◌^◌, Bool, true, false, cond, refl, nat_eq}
use Rattle.rm_hosts.specs.declared.host_counts.HostCounts.{HostCounts}
use Rattle.rm_hosts.specs.Columns.{counter_in}
use Rattle.rm_hosts.specs.Counts.{no_counts, with_gain}

-- a gain adds to the counter in each column
abbrev chosen : (c4 c5 c6 c7 c8 c9 : Bool) → HostCounts → ℕ
chosen c4 c5 c6 c7 c8 c9 counts =
    cond c4 counts.in_pkts (cond c5 counts.out_pkts (cond c6 counts.in_octets (cond c7 counts.out_octets (cond c8 counts.out_errors (cond c9 counts.out_broadcast counts.out_multicast)))))

chosen_adds : (c4 c5 c6 c7 c8 c9 : Bool) (counts gain : HostCounts) → chosen c4 c5 c6 c7 c8 c9 (with_gain counts gain) ≡ (chosen c4 c5 c6 c7 c8 c9 counts + chosen c4 c5 c6 c7 c8 c9 gain) % 2 ^ 64
chosen_adds true c5 c6 c7 c8 c9 counts gain = refl
chosen_adds false true c6 c7 c8 c9 counts gain = refl
chosen_adds false false true c7 c8 c9 counts gain = refl
chosen_adds false false false true c8 c9 counts gain = refl
chosen_adds false false false false true c9 counts gain = refl
chosen_adds false false false false false true counts gain = refl
chosen_adds false false false false false false counts gain = refl

chosen_none : (c4 c5 c6 c7 c8 c9 : Bool) → chosen c4 c5 c6 c7 c8 c9 no_counts ≡ 0
chosen_none true c5 c6 c7 c8 c9 = refl
chosen_none false true c6 c7 c8 c9 = refl
chosen_none false false true c7 c8 c9 = refl
chosen_none false false false true c8 c9 = refl
chosen_none false false false false true c9 = refl
chosen_none false false false false false true = refl
chosen_none false false false false false false = refl

module _ (column : ℕ) where
  pub adds : (counts gain : HostCounts) → counter_in column (with_gain counts gain) ≡ (counter_in column counts + counter_in column gain) % 2 ^ 64
  adds = chosen_adds (nat_eq column 4) (nat_eq column 5) (nat_eq column 6) (nat_eq column 7) (nat_eq column 8) (nat_eq column 9)

  pub none : counter_in column no_counts ≡ 0
  none = chosen_none (nat_eq column 4) (nat_eq column 5) (nat_eq column 6) (nat_eq column 7) (nat_eq column 8) (nat_eq column 9)
