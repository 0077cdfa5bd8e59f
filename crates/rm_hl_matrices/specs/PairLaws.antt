-- A frame names one pair, the pairs by destination are those by source the other way round, and the columns of pairs add up.
use Rattle.std.proofs.Common.{◌≡◌, ℕ, ◌+◌, ◌%◌, ◌^◌, Bool, true, false, cond, nat_eq, refl, arith}
use Rattle.std.specs.Str.{bytes_eq}
use Rattle.std.proofs.lemmas.Bool.{and_parts}
use Rattle.std.proofs.lemmas.Slice.Eq.{bytes_eq-Decides}
use Rattle.rm_model.specs.Counting.{Counting}
use Rattle.rm_model.specs.Journal.{Journal}
use Rattle.rm_evicting.specs.Held.{IsExact}
use Rattle.rm_upper.specs.LayerTable.{LayerTable}
use Rattle.rm_reversed.specs.Reversed.{reversed_table}
use Rattle.rm_order.proofs.ReversedLemmas.{alike_of}
use Rattle.rm_layer_matrices.specs.AddressPairs.{reversed}
use Rattle.rm_layer_matrices.specs.declared.pair_counts.PairCounts.{PairCounts}
use Rattle.rm_layer_matrices.specs.PairCounts.{no_counts, plus, pair_tally}
use Rattle.rm_layer_tables.specs.Layer.{NamesFew}
use Rattle.rm_layer_tables.specs.Reversing.{held_reversed}
use Rattle.rm_layer_tables.specs.Standing.{IsHeld}
use Rattle.rm_layer_tables.specs.Shown.{AddsUp}
use Rattle.rm_layer_tables.specs.Tables.{CanShow}
use Rattle.rm_hl_matrices.specs.Columns.{count_in, network_count, application_count}
use Rattle.rm_hl_matrices.specs.Pairs.{Pair, source_layer, destination_layer, nl_matrix_sd, nl_matrix_ds, al_matrix_sd, al_matrix_ds}
use Rattle.rm_hl_matrices.specs.PairCells.{same_pair}

pub source_named : NamesFew source_layer
source_named facts pair = omega arith

pub destination_named : NamesFew destination_layer
destination_named facts pair = omega arith

-- two pairs are one where their addresses are alike
pub exact : IsExact same_pair
exact = record {
  itself = λ pair. rw ((bytes_eq-Decides pair.first pair.first).1 refl, (bytes_eq-Decides pair.second pair.second).1 refl) refl;
  same = λ one other alike.
      let parts = and_parts (bytes_eq one.first other.first) (bytes_eq one.second other.second) alike in
      λ d. record { first = (bytes_eq-Decides one.first other.first).0 parts.0 d; second = (bytes_eq-Decides one.second other.second).0 parts.1 d };
}

-- the pairs that a row has by source, it has by destination with each the other way round
pub destinations_held : (settings : Counting) (journal : Journal) (row : ℕ) (pairs : LayerTable Pair PairCounts PairCounts)
    → IsHeld source_layer pair_tally same_pair settings journal row pairs → IsHeld destination_layer pair_tally same_pair settings journal row (reversed_table reversed pairs)
destinations_held settings journal row pairs is =
    held_reversed source_layer pair_tally same_pair reversed (λ pair. refl) (alike_of same_pair exact reversed (λ pair. refl)) settings journal row pairs is

count_adds : (packets column : ℕ) (counts gain : PairCounts) → count_in packets column (plus counts gain) ≡ (count_in packets column counts + count_in packets column gain) % 2 ^ 64
count_adds packets column counts gain = by_test (nat_eq column packets)
  where
    by : Bool → PairCounts → ℕ
    by t some = cond t some.pkts some.octets

    by_test : (t : Bool) → by t (plus counts gain) ≡ (by t counts + by t gain) % 2 ^ 64
    by_test true = refl
    by_test false = refl

abbrev nothing : Bool → ℕ
nothing t = cond t 0 0

count_none : (packets column : ℕ) → count_in packets column no_counts ≡ 0
count_none packets column = by_test (nat_eq column packets)
  where
    by_test : (t : Bool) → nothing t ≡ 0
    by_test true = refl
    by_test false = refl

-- what the columns of pairs add up, and those of their protocols
pub networks_add : AddsUp pair_tally.blank pair_tally.add network_count network_count
unfolding pair_tally
networks_add = record { none = count_none 4; adds = count_adds 4 }

pub applications_add : AddsUp pair_tally.none pair_tally.more application_count application_count
unfolding pair_tally
applications_add = record { none = count_none 2; adds = count_adds 2 }

-- their cells can be named
pub nl_source_shown : CanShow nl_matrix_sd 12
nl_source_shown = record { rising = refl; named = refl; fits = omega arith }

pub nl_destination_shown : CanShow nl_matrix_ds 12
nl_destination_shown = record { rising = refl; named = refl; fits = omega arith }

pub al_source_shown : CanShow al_matrix_sd 13
al_source_shown = record { rising = refl; named = refl; fits = omega arith }

pub al_destination_shown : CanShow al_matrix_ds 13
al_destination_shown = record { rising = refl; named = refl; fits = omega arith }
