-- The hosts that a control row holds after a journal. It has room for so many as the probe was set to.
use Rattle.std.specs.Prelude.{ℕ, List, Bool, sum_by}
use Rattle.std.specs.Str.{bytes_eq}
use Rattle.rm_model.specs.Counting.{Counting}
use Rattle.rm_model.specs.Journal.{Journal}
use Rattle.rm_evicting.specs.Mention.{keys}
use Rattle.rm_evicting.specs.Held.{held, order, shares}
use Rattle.rm_hosts.specs.declared.host_counts.HostCounts.{HostCounts}
use Rattle.rm_hosts.specs.Mentions.{mentions_of}

module _ (settings : Counting) (journal : Journal) (row : ℕ) where
  -- the addresses referred to, the newest first
  abbrev pub addresses : List (List ℕ)
  addresses = keys (mentions_of settings journal row)

  -- whether a host is held
  abbrev pub is_held : (address : List ℕ) → Bool
  is_held address = held bytes_eq settings.hosts address addresses

  -- its rank in the order of entry, from 1
  abbrev pub rank_of : (address : List ℕ) → ℕ
  rank_of address = order bytes_eq settings.hosts address (mentions_of settings journal row)

  -- a count of it: the sum of what its mentions add to it, from its entry on
  abbrev pub sum_of : (HostCounts → ℕ) → (address : List ℕ) → ℕ
  sum_of count address = sum_by count (shares bytes_eq settings.hosts address (mentions_of settings journal row))
