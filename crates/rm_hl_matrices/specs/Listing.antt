-- Each cell of the tables of pairs has a name that begins with an object of theirs, and what can't be set is notWritable.
use Rattle.std.proofs.Common.{◌≡◌, ℕ, [], ◌∷◌, Bool, true, false, ◌||◌, refl, sym, ◌∙◌}
use Rattle.std.specs.Option.{option_or}
use Rattle.rm_model.specs.Counting.{Counting}
use Rattle.rm_model.specs.Journal.{Journal}
use Rattle.rm_model.specs.Cells.{cells_of, is_of_column}
use Rattle.rm_model.specs.Judgement.{alone_fault, place_of}
use Rattle.rm_group.specs.Alone.{read_only}
use Rattle.rm_group.specs.Listed.{AreOfObjects, AreRefused, is_listed, is_settable, with_table, of_table, both_of_objects, both_refused, further_refused, read_only_listed}
use Rattle.rm_keyed.specs.TwoTables.{alone_of_two}
use Rattle.rm_keyed.proofs.TwoLaws.{beside_two}
use Rattle.rm_layer_tables.specs.Columns.{control_columns}
use Rattle.rm_layer_tables.specs.Control.{layer_control}
use Rattle.rm_layer_tables.specs.Tables.{listed}
use Rattle.rm_hl_matrices.specs.Control.{control_entry}
use Rattle.rm_hl_matrices.specs.Pairs.{source_layer, destination_layer, nl_matrix_sd, nl_matrix_ds, al_matrix_sd, al_matrix_ds}
use Rattle.rm_hl_matrices.specs.PairCells.{control_table, pairs_table, protocols_table, network_cells, application_cells, pair_cells}
use Rattle.rm_hl_matrices.specs.Collection.{pair_tables, inner_alone}

either : (a b c d : Bool) → ((a || (b || false)) || (c || (d || false))) ≡ (a || (b || (c || (d || false))))
either true b c d = refl
either false true c d = refl
either false false c d = refl

module _ (settings : Counting) (journal : Journal) (now : ℕ) where
  networks_listed : AreOfObjects (is_listed (listed nl_matrix_sd ∷ listed nl_matrix_ds ∷ [])) (network_cells settings journal now)
  networks_listed =
      with_table (pairs_table source_layer nl_matrix_sd settings journal now) (listed nl_matrix_ds ∷ []) (cells_of (pairs_table destination_layer nl_matrix_ds settings journal now))
      (of_table (pairs_table destination_layer nl_matrix_ds settings journal now))

  applications_listed : AreOfObjects (is_listed (listed al_matrix_sd ∷ listed al_matrix_ds ∷ [])) (application_cells settings journal now)
  applications_listed =
      with_table (protocols_table source_layer al_matrix_sd settings journal now) (listed al_matrix_ds ∷ []) (cells_of (protocols_table destination_layer al_matrix_ds settings journal now))
      (of_table (protocols_table destination_layer al_matrix_ds settings journal now))

  inner_listed : AreOfObjects (is_listed (listed nl_matrix_sd ∷ listed nl_matrix_ds ∷ listed al_matrix_sd ∷ listed al_matrix_ds ∷ []))
      (λ name. option_or (network_cells settings journal now name) (application_cells settings journal now name))
  inner_listed name has =
      sym (either (is_of_column nl_matrix_sd.entry nl_matrix_sd.columns name) (is_of_column nl_matrix_ds.entry nl_matrix_ds.columns name) (is_of_column al_matrix_sd.entry al_matrix_sd.columns name)
      (is_of_column al_matrix_ds.entry al_matrix_ds.columns name))
      ∙ both_of_objects (is_listed (listed nl_matrix_sd ∷ listed nl_matrix_ds ∷ [])) (is_listed (listed al_matrix_sd ∷ listed al_matrix_ds ∷ [])) (network_cells settings journal now) (application_cells settings journal now)
      networks_listed applications_listed name has

  pub all_listed : AreOfObjects (is_listed pair_tables) (pair_cells settings journal now)
  all_listed =
      with_table (control_table settings journal) (listed nl_matrix_sd ∷ listed nl_matrix_ds ∷ listed al_matrix_sd ∷ listed al_matrix_ds ∷ [])
      (λ name. option_or (network_cells settings journal now name) (application_cells settings journal now name)) inner_listed

all_joined : (a b c d e : Bool) → ((a || (b || (c || false))) || ((d || false) || (e || false))) ≡ (a || (b || (c || (d || (e || false)))))
all_joined true b c d e = refl
all_joined false true c d e = refl
all_joined false false true d e = refl
all_joined false false false true e = refl
all_joined false false false false e = refl

applications_refused : AreRefused (λ name. is_listed (listed al_matrix_sd ∷ []) name || is_listed (listed al_matrix_ds ∷ []) name) (λ name. false) (alone_of_two (listed al_matrix_sd) (listed al_matrix_ds))
applications_refused =
    both_refused (is_listed (listed al_matrix_sd ∷ [])) (is_listed (listed al_matrix_ds ∷ [])) (λ name. false) (λ name. false)
    (read_only (is_of_column al_matrix_sd.entry al_matrix_sd.columns)) (read_only (is_of_column al_matrix_ds.entry al_matrix_ds.columns))
    (read_only_listed (listed al_matrix_sd)) (read_only_listed (listed al_matrix_ds))

pub all_refused : AreRefused (is_listed pair_tables) (is_settable (layer_control control_entry))
    (λ name value. option_or (alone_fault (layer_control control_entry) (place_of (layer_control control_entry) name) value) (inner_alone name value))
all_refused =
    further_refused (is_listed (record { entry = control_entry; columns = control_columns } ∷ listed nl_matrix_sd ∷ listed nl_matrix_ds ∷ []))
    (λ name. is_listed (listed al_matrix_sd ∷ []) name || is_listed (listed al_matrix_ds ∷ []) name) (is_listed pair_tables) (is_settable (layer_control control_entry))
    (λ name value. alone_fault (layer_control control_entry) (place_of (layer_control control_entry) name) value)
    (alone_of_two (listed nl_matrix_sd) (listed nl_matrix_ds)) (alone_of_two (listed al_matrix_sd) (listed al_matrix_ds))
    (λ name. all_joined (is_of_column control_entry control_columns name) (is_of_column nl_matrix_sd.entry nl_matrix_sd.columns name) (is_of_column nl_matrix_ds.entry nl_matrix_ds.columns name)
    (is_of_column al_matrix_sd.entry al_matrix_sd.columns name) (is_of_column al_matrix_ds.entry al_matrix_ds.columns name))
    (beside_two (layer_control control_entry) control_columns (listed nl_matrix_sd) (listed nl_matrix_ds)) applications_refused
