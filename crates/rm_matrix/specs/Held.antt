-- The pairs of hosts that a control row holds after a journal. It has room for so many as the probe was set to.
use Rattle.std.specs.Prelude.{ℕ, sum_by}
use Rattle.rm_model.specs.Counting.{Counting}
use Rattle.rm_model.specs.Journal.{Journal}
use Rattle.rm_evicting.specs.Held.{shares}
use Rattle.rm_keyed.specs.declared.address_pair.AddressPair.{AddressPair}
use Rattle.rm_keyed.specs.Addresses.{pair_eq}
use Rattle.rm_matrix.specs.declared.pair_counts.PairCounts.{PairCounts}
use Rattle.rm_matrix.specs.Mentions.{mentions_of}

module _ (settings : Counting) (journal : Journal) (row : ℕ) where
  -- a count of a pair: the sum of what its mentions add to it, from its entry on
  abbrev pub sum_of : (PairCounts → ℕ) → AddressPair → ℕ
  sum_of count pair = sum_by count (shares pair_eq settings.pairs pair (mentions_of settings journal row))
