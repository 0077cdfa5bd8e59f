-- The pairs of a row that are those of a journal show what the tables do.
use Rattle.std.proofs.Common.{◌≡◌, ℕ, ◌%◌, ◌^◌, List, true, cond, refl, ◌∙◌, ap, nat_eq}
use Rattle.std.specs.Prelude.{pos}
use Rattle.rm_val.specs.Val.{int, counter, octets}
use Rattle.rm_model.specs.Counting.{Counting}
use Rattle.rm_model.specs.Journal.{Journal}
use Rattle.rm_evicting.specs.Mention.{keys}
use Rattle.rm_evicting.specs.Held.{held}
use Rattle.rm_keyed.specs.declared.address_pair.AddressPair.{AddressPair}
use Rattle.rm_keyed.specs.Addresses.{pair_eq, pair_index, reversed}
use Rattle.rm_keyed.specs.Held.{key_of_index}
use Rattle.rm_keyed.proofs.Found.{index_held}
use Rattle.rm_keyed.proofs.ReversedKeys.{reversed_held}
use Rattle.rm_keyed.proofs.Pairs.{exact_pair, pair_apart, reversed_apart}
use Rattle.rm_sourced.specs.Counters.{kept_count}
use Rattle.rm_sourced.specs.Held.{held_with}
use Rattle.rm_sourced.proofs.Counting.{count_is}
use Rattle.rm_matrix.specs.Columns.{counter_in}
use Rattle.rm_matrix.specs.Control.{named_entry}
use Rattle.rm_matrix.specs.Counts.{no_counts, with_gain}
use Rattle.rm_matrix.specs.Mentions.{PairMention, mentions_of}
use Rattle.rm_matrix.specs.Held.{sum_of}
use Rattle.rm_matrix.specs.Pairs.{pair_value}
use Rattle.rm_matrix.specs.SourceDestination.{source_index}
use Rattle.rm_matrix.specs.DestinationSource.{destination_index}
use Rattle.rm_matrix.specs.Tables.{MatrixTable, IsTable, pair_sourcing}
use Rattle.rm_matrix.specs.Shown.{Entries, entries_of, kept_value, by_source, by_destination}
use Rattle.rm_matrix.specs.Sums.{none, adds}

module _ (settings : Counting) (journal : Journal) (row : ℕ) (table : MatrixTable) (is : IsTable settings journal row table) where
  abbrev entries : Entries
  entries = entries_of table.rows

  abbrev mentions : List PairMention
  mentions = mentions_of settings journal row

  abbrev capacity : ℕ
  capacity = table.rows.pairs.rows.capacity

  -- what a column shows of a pair that is held
  pub value_is : (pair : AddressPair) → held pair_eq settings.pairs pair (keys mentions) ≡ true → (column : ℕ) → kept_value row table.rows pair column ≡ pair_value settings journal row pair column
  value_is pair there column = λ d.
      cond (nat_eq column 1) (octets pair.first)
      (cond (nat_eq column 2) (octets pair.second)
      (cond (nat_eq column 3) (int (pos row)) (counter (sum_is d))))
    where
      comes : held pair_eq capacity pair (keys mentions) ≡ true
      comes = ap (λ room. held pair_eq room pair (keys mentions)) is.capacity ∙ there

      sum_is : kept_count pair_eq (counter_in column) entries pair % 2 ^ 32 ≡ sum_of settings journal row (counter_in column) pair % 2 ^ 32
      sum_is = count_is pair_eq exact_pair no_counts with_gain (counter_in column) (none column) (adds column) capacity mentions entries is.means.rows pair comes settings.pairs is.capacity

  -- the pair with an index
  pub source_is : (numbers : List ℕ) → by_source table.rows numbers ≡ held_with named_entry pair_sourcing settings journal row (source_index settings journal row) numbers
  source_is numbers =
      index_held pair_index pair_apart numbers pair_eq exact_pair no_counts with_gain capacity mentions entries is.means.rows
      ∙ ap (λ room. key_of_index pair_eq room mentions (source_index settings journal row) numbers) is.capacity

  pub destination_is : (numbers : List ℕ) → by_destination table.rows numbers ≡ held_with named_entry pair_sourcing settings journal row (destination_index settings journal row) numbers
  destination_is numbers =
      reversed_held pair_eq exact_pair reversed (λ pair. refl) pair_index reversed_apart numbers no_counts with_gain capacity mentions entries is.means.rows table.rows.reverse.keys table.rows.alike
      ∙ ap (λ room. key_of_index pair_eq room mentions (destination_index settings journal row) numbers) is.capacity
