-- What the rows and the pairs show is what the tables show after the journal, and the cells are finitely many.
use Rattle.std.proofs.Common.{◌≡◌, ℕ, List}
use Rattle.std.specs.Option.{option_or}
use Rattle.rm_model.specs.Counting.{Counting}
use Rattle.rm_model.specs.Journal.{Journal}
use Rattle.rm_model.specs.Cells.{cells_of}
use Rattle.rm_model.specs.ControlRows.{no_rows}
use Rattle.rm_model.specs.Finite.{AreFinite}
use Rattle.rm_model.proofs.Finite.{both_finite}
use Rattle.rm_status.specs.declared.row.Row.{Row}
use Rattle.rm_status.specs.Rows.{AreControlRows}
use Rattle.rm_status.specs.RowsAfter.{AreRowsAfter}
use Rattle.rm_pool.specs.declared.slot.Slot.{Slot}
use Rattle.rm_pool.specs.Slots.{part_in}
use Rattle.rm_collect.specs.Rows.{IsKept}
use Rattle.rm_collect.specs.Collection.{kept}
use Rattle.rm_layer_matrices.specs.PairCounts.{pair_tally}
use Rattle.rm_layer_tables.specs.declared.layer_columns.LayerColumns.{LayerColumns}
use Rattle.rm_layer_tables.specs.AddressLaws.{pair_numbered}
use Rattle.rm_layer_tables.specs.Addresses.{pair_form}
use Rattle.rm_layer_tables.specs.Control.{layer_control}
use Rattle.rm_layer_tables.specs.ControlColumns.{set_to, layer_rows}
use Rattle.rm_layer_tables.specs.Finite.{control_finite, networks_finite, applications_finite}
use Rattle.rm_layer_tables.specs.Parts.{IsPart}
use Rattle.rm_layer_tables.specs.SameCells.{same_control, same_networks, same_applications}
use Rattle.rm_hl_matrices.specs.declared.control.MatrixControl.{MatrixControl}
use Rattle.rm_hl_matrices.specs.declared.part.PairPart.{PairPart}
use Rattle.rm_hl_matrices.specs.Columns.{network_count, application_count}
use Rattle.rm_hl_matrices.specs.Control.{control_entry, control_rows}
use Rattle.rm_hl_matrices.specs.Pairs.{source_layer, destination_layer, nl_matrix_sd, nl_matrix_ds, al_matrix_sd, al_matrix_ds}
use Rattle.rm_hl_matrices.specs.PairCells.{same_pair, control_table, pairs_table, protocols_table, network_cells, application_cells, pair_cells}
use Rattle.rm_hl_matrices.specs.PairLaws.{source_named, destination_named, exact, destinations_held, networks_add, applications_add}
use Rattle.rm_hl_matrices.specs.Collection.{by_source, by_destination, pair_parts, networks_shown, applications_shown, pair_collection}

module _ (parts : List (Slot PairPart)) (settings : Counting) (journal : Journal) (are : (row : ℕ) → IsKept (layer_control control_entry) (IsPart pair_parts) settings journal row (part_in parts row)) (now : ℕ) where
  same_pairs : (name : List ℕ) → networks_shown parts now name ≡ network_cells settings journal now name
  same_pairs name = λ d. option_or
      (same_networks source_layer source_named pair_tally same_pair exact pair_form by_source (IsPart pair_parts) settings journal (λ row part of. of.held) parts are nl_matrix_sd network_count networks_add now name d)
      (same_networks destination_layer destination_named pair_tally same_pair exact pair_form by_destination (IsPart pair_parts) settings journal (λ row part of. destinations_held settings journal row part.pairs of.held) parts are nl_matrix_ds network_count networks_add now name d)

  same_protocols : (name : List ℕ) → applications_shown parts now name ≡ application_cells settings journal now name
  same_protocols name = λ d. option_or
      (same_applications source_layer source_named pair_tally same_pair exact pair_form by_source (IsPart pair_parts) settings journal (λ row part of. of.held) parts are al_matrix_sd application_count applications_add now name d)
      (same_applications destination_layer destination_named pair_tally same_pair exact pair_form by_destination (IsPart pair_parts) settings journal (λ row part of. destinations_held settings journal row part.pairs of.held) parts are al_matrix_ds application_count applications_add now name d)

  module _ (rows : List (Row (LayerColumns MatrixControl))) (held : AreControlRows (layer_control control_entry) rows) (is : AreRowsAfter (layer_control control_entry) no_rows set_to rows journal) where
    pub same_cells : (name : List ℕ) → kept control_rows pair_collection rows parts now name ≡ pair_cells settings journal now name
    unfolding pair_collection layer_rows
    same_cells name = λ d. option_or
        (same_control source_layer source_named pair_tally same_pair exact pair_form by_source (IsPart pair_parts) settings journal (λ row part of. of.held) parts are rows held is name d)
        (option_or (same_pairs name d) (same_protocols name d))

pub all_finite : (settings : Counting) (journal : Journal) (now : ℕ) → AreFinite (pair_cells settings journal now)
all_finite settings journal now =
    both_finite (cells_of (control_table settings journal)) (λ name. option_or (network_cells settings journal now name) (application_cells settings journal now name))
    (control_finite source_layer same_pair settings journal)
    (both_finite (network_cells settings journal now) (application_cells settings journal now)
    (both_finite (cells_of (pairs_table source_layer nl_matrix_sd settings journal now)) (cells_of (pairs_table destination_layer nl_matrix_ds settings journal now))
    (networks_finite source_layer same_pair settings journal pair_form pair_numbered now nl_matrix_sd)
    (networks_finite destination_layer same_pair settings journal pair_form pair_numbered now nl_matrix_ds))
    (both_finite (cells_of (protocols_table source_layer al_matrix_sd settings journal now)) (cells_of (protocols_table destination_layer al_matrix_ds settings journal now))
    (applications_finite source_layer same_pair settings journal pair_form pair_numbered now al_matrix_sd)
    (applications_finite destination_layer same_pair settings journal pair_form pair_numbered now al_matrix_ds)))
