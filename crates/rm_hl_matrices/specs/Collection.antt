-- What the active rows of hlMatrixControl collect: each has pairs of hosts, which are shown in two orders.
use Rattle.std.specs.Prelude.{ℕ, List, [], ◌∷◌, Option}
use Rattle.std.specs.Option.{option_or}
use Rattle.rm_val.specs.Val.{Val}
use Rattle.rm_val.specs.declared.error.ErrorStatus.{ErrorStatus}
use Rattle.rm_model.specs.Cells.{Cells}
use Rattle.rm_group.specs.Listed.{ListedTable}
use Rattle.rm_pool.specs.declared.slot.Slot.{Slot}
use Rattle.rm_keyed.specs.TwoTables.{cells_of_two, alone_of_two}
use Rattle.rm_collect.specs.Collection.{Collection}
use Rattle.rm_upper.specs.LayerTable.{LayerTable}
use Rattle.rm_reversed.specs.Reversed.{reversed_table}
use Rattle.rm_layer_matrices.specs.AddressPairs.{reversed}
use Rattle.rm_layer_matrices.specs.declared.pair_counts.PairCounts.{PairCounts}
use Rattle.rm_layer_matrices.specs.PairCounts.{pair_tally}
use Rattle.rm_layer_tables.specs.declared.layer_columns.LayerColumns.{LayerColumns}
use Rattle.rm_layer_tables.specs.declared.shared.LayerShared.{LayerShared}
use Rattle.rm_layer_tables.specs.Addresses.{pair_form}
use Rattle.rm_layer_tables.specs.Collection.{ShownTables, layer_collection}
use Rattle.rm_layer_tables.specs.Columns.{control_columns}
use Rattle.rm_layer_tables.specs.Kept.{kept_networks, kept_applications}
use Rattle.rm_layer_tables.specs.Parts.{Holding}
use Rattle.rm_layer_tables.specs.Tables.{listed}
use Rattle.rm_hl_matrices.specs.declared.control.MatrixControl.{MatrixControl}
use Rattle.rm_hl_matrices.specs.declared.part.PairPart.{PairPart}
use Rattle.rm_hl_matrices.specs.Columns.{network_count, application_count}
use Rattle.rm_hl_matrices.specs.Control.{control_entry}
use Rattle.rm_hl_matrices.specs.Pairs.{Pair, source_layer, nl_matrix_sd, nl_matrix_ds, al_matrix_sd, al_matrix_ds}
use Rattle.rm_hl_matrices.specs.PairCells.{same_pair, pair_cells}

-- the pairs of a part, each a source and its destination, and each the other way round
abbrev pub by_source : PairPart → LayerTable Pair PairCounts PairCounts
by_source part = part.pairs

abbrev pub by_destination : PairPart → LayerTable Pair PairCounts PairCounts
by_destination part = reversed_table reversed part.pairs

-- parts hold pairs by source and destination
abbrev pub pair_parts : Holding PairPart Pair PairCounts PairCounts
pair_parts = record { layer = source_layer; tally = pair_tally; eq = same_pair; source_of = λ part. part.source; table_of = by_source }

-- the tables
abbrev pub pair_tables : List ListedTable
pair_tables = record { entry = control_entry; columns = control_columns } ∷ listed nl_matrix_sd ∷ listed nl_matrix_ds ∷ listed al_matrix_sd ∷ listed al_matrix_ds ∷ []

-- the tables of pairs, and those of their protocols, at a moment in milliseconds
abbrev pub networks_shown : List (Slot PairPart) → (now : ℕ) → Cells
networks_shown parts now =
    cells_of_two (kept_networks pair_form same_pair by_source parts nl_matrix_sd network_count now) (kept_networks pair_form same_pair by_destination parts nl_matrix_ds network_count now)

abbrev pub applications_shown : List (Slot PairPart) → (now : ℕ) → Cells
applications_shown parts now =
    cells_of_two (kept_applications pair_form same_pair by_source parts al_matrix_sd application_count now)
    (kept_applications pair_form same_pair by_destination parts al_matrix_ds application_count now)

abbrev pub inner_shown : List (Slot PairPart) → (now : ℕ) → Cells
inner_shown parts now asked = option_or (networks_shown parts now asked) (applications_shown parts now asked)

-- what is wrong with a binding of one of them alone
abbrev pub inner_alone : List ℕ → Val → Option ErrorStatus
inner_alone asked value = option_or (alone_of_two (listed nl_matrix_sd) (listed nl_matrix_ds) asked value) (alone_of_two (listed al_matrix_sd) (listed al_matrix_ds) asked value)

-- how the tables show parts
abbrev pub pair_shown : ShownTables PairPart
pair_shown = record { tables = pair_tables; inner = inner_shown; cells = pair_cells; inner_alone = inner_alone }

-- what the rows collect
unfoldable pub pair_collection : Collection (LayerColumns MatrixControl) PairPart LayerShared ℕ
pair_collection = layer_collection pair_parts pair_shown
