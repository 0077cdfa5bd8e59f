-- The cells of hlMatrixControl, nlMatrixSD, nlMatrixDS, alMatrixSD and alMatrixDS.
use Rattle.std.specs.Prelude.{ℕ, Bool}
use Rattle.std.specs.Option.{option_or}
use Rattle.std.specs.Str.{bytes_eq}
use Rattle.rm_model.specs.Counting.{Counting}
use Rattle.rm_model.specs.Journal.{Journal}
use Rattle.rm_model.specs.Cells.{Cells, Table, cells_of}
use Rattle.rm_keyed.specs.TwoTables.{cells_of_two}
use Rattle.rm_layer_matrices.specs.AddressPairs.{pair_eq}
use Rattle.rm_layer_matrices.specs.declared.pair_counts.PairCounts.{PairCounts}
use Rattle.rm_layer_tables.specs.Addresses.{pair_form}
use Rattle.rm_layer_tables.specs.ControlCells.{control_table as layer_table}
use Rattle.rm_layer_tables.specs.Layer.{Layer}
use Rattle.rm_layer_tables.specs.Tables.{MarkedTable, networks_after, applications_after}
use Rattle.rm_hl_matrices.specs.Pairs.{Pair, source_layer, destination_layer, nl_matrix_sd, nl_matrix_ds, al_matrix_sd, al_matrix_ds}

-- whether two pairs of addresses are one
abbrev pub same_pair : Pair → Pair → Bool
same_pair = pair_eq bytes_eq

-- hlMatrixControl after a journal. Each frame refers to one pair in either order, so both orders enter as many
abbrev pub control_table : Counting → Journal → Table
control_table settings journal = layer_table source_layer same_pair settings journal

-- a table of pairs, and one of their protocols, at a moment in milliseconds
abbrev pub pairs_table : Layer Pair PairCounts → MarkedTable PairCounts → Counting → Journal → (now : ℕ) → Table
pairs_table layer table settings journal now = networks_after layer same_pair pair_form table settings journal now

abbrev pub protocols_table : Layer Pair PairCounts → MarkedTable PairCounts → Counting → Journal → (now : ℕ) → Table
protocols_table layer table settings journal now = applications_after layer same_pair pair_form table settings journal now

-- the cells of the network layer, and of the application layer
abbrev pub network_cells : Counting → Journal → (now : ℕ) → Cells
network_cells settings journal now = cells_of_two (pairs_table source_layer nl_matrix_sd settings journal now) (pairs_table destination_layer nl_matrix_ds settings journal now)

abbrev pub application_cells : Counting → Journal → (now : ℕ) → Cells
application_cells settings journal now =
    cells_of_two (protocols_table source_layer al_matrix_sd settings journal now) (protocols_table destination_layer al_matrix_ds settings journal now)

-- and of all five tables
abbrev pub pair_cells : Counting → Journal → (now : ℕ) → Cells
pair_cells settings journal now name = option_or (cells_of (control_table settings journal) name) (option_or (network_cells settings journal now name) (application_cells settings journal now name))
