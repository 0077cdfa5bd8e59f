-- What the rows of hlMatrixControl count, and the tables that show it (RFC 2021, section 6): nlMatrixSD and alMatrixSD by source and destination,
-- nlMatrixDS and alMatrixDS by destination and source.
use Rattle.std.specs.Prelude.{ℕ, List, [], ◌∷◌}
use Rattle.rm_proto.specs.declared.datagram.IpPair.{IpPair}
use Rattle.rm_proto.specs.declared.known.Facts.{Facts}
use Rattle.rm_layer_matrices.specs.declared.address_pair.AddressPair.{AddressPair}
use Rattle.rm_layer_matrices.specs.declared.pair_counts.PairCounts.{PairCounts}
use Rattle.rm_layer_matrices.specs.PairCounts.{carried}
use Rattle.rm_layer_slots.specs.declared.slots.TableKind.TheVariants.{Matrices}
use Rattle.rm_layer_tables.specs.Layer.{Layer}
use Rattle.rm_layer_tables.specs.Tables.{MarkedTable}
use Rattle.rm_hl_matrices.specs.Columns.{network_columns, application_columns, network_count, application_count}
use Rattle.rm_hl_matrices.specs.Control.{control_entry}

-- two addresses
abbrev pub Pair : Type 0
Pair = AddressPair (List ℕ)

-- a good frame with these addresses names one pair: its source and its destination, in either order
abbrev pub source_first : Facts → IpPair → List (Pair × PairCounts)
source_first facts pair = (record { first = pair.source; second = pair.dest }, carried facts) ∷ []

abbrev pub destination_first : Facts → IpPair → List (Pair × PairCounts)
destination_first facts pair = (record { first = pair.dest; second = pair.source }, carried facts) ∷ []

-- what is counted: pairs, for the rows of hlMatrixControl
abbrev pub source_layer : Layer Pair PairCounts
source_layer = record { control = control_entry; kind = Matrices; named = source_first }

abbrev pub destination_layer : Layer Pair PairCounts
destination_layer = record { control = control_entry; kind = Matrices; named = destination_first }

-- a table of pairs, and one of the protocols above ip that they use, by its entry
abbrev pub table_of_pairs : (entry : List ℕ) → MarkedTable PairCounts
table_of_pairs entry = record { entry = entry; columns = network_columns; created = 6; count = network_count }

abbrev pub table_of_protocols : (entry : List ℕ) → MarkedTable PairCounts
table_of_protocols entry = record { entry = entry; columns = application_columns; created = 4; count = application_count }

-- by source and destination
abbrev pub nl_matrix_sd : MarkedTable PairCounts
nl_matrix_sd = table_of_pairs (1 ∷ 3 ∷ 6 ∷ 1 ∷ 2 ∷ 1 ∷ 16 ∷ 15 ∷ 2 ∷ 1 ∷ [])

abbrev pub al_matrix_sd : MarkedTable PairCounts
al_matrix_sd = table_of_protocols (1 ∷ 3 ∷ 6 ∷ 1 ∷ 2 ∷ 1 ∷ 16 ∷ 17 ∷ 1 ∷ 1 ∷ [])

-- and by destination and source
abbrev pub nl_matrix_ds : MarkedTable PairCounts
nl_matrix_ds = table_of_pairs (1 ∷ 3 ∷ 6 ∷ 1 ∷ 2 ∷ 1 ∷ 16 ∷ 15 ∷ 3 ∷ 1 ∷ [])

abbrev pub al_matrix_ds : MarkedTable PairCounts
al_matrix_ds = table_of_protocols (1 ∷ 3 ∷ 6 ∷ 1 ∷ 2 ∷ 1 ∷ 16 ∷ 17 ∷ 2 ∷ 1 ∷ [])
