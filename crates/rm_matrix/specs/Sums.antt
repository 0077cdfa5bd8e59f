-- What counts add up to.
use Rattle.std.proofs.Common.{◌≡◌, ℕ, ◌+◌, ◌%◌, ◌^◌, Bool, true, false, cond, refl, nat_eq}
use Rattle.rm_matrix.specs.declared.pair_counts.PairCounts.{PairCounts}
use Rattle.rm_matrix.specs.Columns.{counter_in}
use Rattle.rm_matrix.specs.Counts.{no_counts, with_gain}

-- a gain adds to the counter in each column
abbrev chosen : (c4 c5 : Bool) → PairCounts → ℕ
chosen c4 c5 counts = cond c4 counts.pkts (cond c5 counts.octets counts.errors)

chosen_adds : (c4 c5 : Bool) (counts gain : PairCounts) → chosen c4 c5 (with_gain counts gain) ≡ (chosen c4 c5 counts + chosen c4 c5 gain) % 2 ^ 64
chosen_adds true c5 counts gain = refl
chosen_adds false true counts gain = refl
chosen_adds false false counts gain = refl

chosen_none : (c4 c5 : Bool) → chosen c4 c5 no_counts ≡ 0
chosen_none true c5 = refl
chosen_none false true = refl
chosen_none false false = refl

module _ (column : ℕ) where
  pub adds : (counts gain : PairCounts) → counter_in column (with_gain counts gain) ≡ (counter_in column counts + counter_in column gain) % 2 ^ 64
  adds = chosen_adds (nat_eq column 4) (nat_eq column 5)

  pub none : counter_in column no_counts ≡ 0
  none = chosen_none (nat_eq column 4) (nat_eq column 5)
