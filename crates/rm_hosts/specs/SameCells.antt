-- The hosts of a row that are those of a journal show what the tables do.
use Rattle.std.proofs.Common.{◌≡◌, ℕ, ◌%◌, ◌^◌, List, [], ◌∷◌, true, cond, Some, None, ◌∙◌, ap, drop, nat_eq}
use Rattle.std.specs.Prelude.{pos, unwrap_or}
use Rattle.std.specs.Str.{bytes_eq}
use Rattle.rm_val.specs.Val.{int, counter, octets}
use Rattle.rm_model.specs.Counting.{Counting}
use Rattle.rm_model.specs.Journal.{Journal}
use Rattle.rm_evicting.specs.Mention.{keys}
use Rattle.rm_evicting.specs.Held.{held, order}
use Rattle.rm_rows.specs.Table.{order_of}
use Rattle.rm_keyed.specs.Held.{key_of_index}
use Rattle.rm_keyed.proofs.Found.{index_held}
use Rattle.rm_keyed.proofs.HeldRows.{rank_here}
use Rattle.rm_sourced.specs.Counters.{kept_count}
use Rattle.rm_sourced.specs.Held.{held_with}
use Rattle.rm_sourced.proofs.Counting.{count_is}
use Rattle.rm_sourced.proofs.Ranks.{ranked_held}
use Rattle.rm_hosts.specs.Columns.{counter_in}
use Rattle.rm_hosts.specs.Control.{named_entry}
use Rattle.rm_hosts.specs.Counts.{no_counts, with_gain}
use Rattle.rm_hosts.specs.Mentions.{HostMention, mentions_of}
use Rattle.rm_hosts.specs.Held.{rank_of, sum_of}
use Rattle.rm_hosts.specs.Host.{host_index, host_value}
use Rattle.rm_hosts.specs.HostTime.{time_index}
use Rattle.rm_hosts.specs.Tables.{HostTable, IsTable, host_sourcing}
use Rattle.rm_hosts.specs.Shown.{Entries, entries_of, kept_value, with_address, with_rank}
use Rattle.rm_hosts.specs.Indexed.{exact}
use Rattle.rm_hosts.specs.Sums.{none, adds}

module _ (settings : Counting) (journal : Journal) (row : ℕ) (table : HostTable) (is : IsTable settings journal row table) where
  abbrev entries : Entries
  entries = entries_of table.rows

  abbrev mentions : List HostMention
  mentions = mentions_of settings journal row

  abbrev capacity : ℕ
  capacity = table.rows.keyed.rows.capacity

  -- what a column shows of a host that is held
  pub value_is : (address : List ℕ) → held bytes_eq settings.hosts address (keys mentions) ≡ true → (column : ℕ) → kept_value row table.rows address column ≡ host_value settings journal row address column
  value_is address there column = λ d.
      cond (nat_eq column 1) (octets address)
      (cond (nat_eq column 2) (int (pos (order_is d)))
      (cond (nat_eq column 3) (int (pos row)) (counter (sum_is d))))
    where
      comes : held bytes_eq capacity address (keys mentions) ≡ true
      comes = ap (λ room. held bytes_eq room address (keys mentions)) is.capacity ∙ there

      order_is : unwrap_or (order_of bytes_eq address entries) 0 ≡ rank_of settings journal row address
      order_is =
          ap (λ o. unwrap_or o 0) (rank_here bytes_eq exact no_counts with_gain capacity mentions entries is.means.rows address)
          ∙ ap (λ t. unwrap_or (cond t (Some (order bytes_eq capacity address mentions)) None) 0) comes
          ∙ ap (λ room. order bytes_eq room address mentions) is.capacity

      sum_is : kept_count bytes_eq (counter_in column) entries address % 2 ^ 32 ≡ sum_of settings journal row (counter_in column) address % 2 ^ 32
      sum_is = count_is bytes_eq exact no_counts with_gain (counter_in column) (none column) (adds column) capacity mentions entries is.means.rows address comes settings.hosts is.capacity

  -- the host with an index: its address, or its rank
  pub address_is : (numbers : List ℕ) → with_address table.rows numbers ≡ held_with named_entry host_sourcing settings journal row (host_index settings journal row) numbers
  address_is numbers =
      index_held (host_index settings journal row) (λ one other same. ap (drop 1) same) numbers bytes_eq exact no_counts with_gain capacity mentions entries is.means.rows
      ∙ ap (λ room. key_of_index bytes_eq room mentions (host_index settings journal row) numbers) is.capacity

  pub rank_is : (numbers : List ℕ) → with_rank table.rows numbers ≡ held_with named_entry host_sourcing settings journal row (time_index settings journal row) numbers
  rank_is numbers =
      ranked_held bytes_eq exact no_counts with_gain capacity mentions entries is.means.rows numbers
      ∙ ap (λ room. key_of_index bytes_eq room mentions (λ address. order bytes_eq room address mentions ∷ []) numbers) is.capacity
