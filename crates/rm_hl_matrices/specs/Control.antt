-- The rows of hlMatrixControl (RFC 2021, section 6): each asks for the pairs of hosts of a data source, in the network and application layer.
use Rattle.std.specs.Prelude.{ℕ, List, [], ◌∷◌, refl}
use Rattle.rm_columns.specs.RowForm.{RowForm}
use Rattle.rm_keyed.specs.SourceControl.{TableEntry}
use Rattle.rm_layer_tables.specs.ControlColumns.{layer_rows}
use Rattle.rm_layer_tables.specs.declared.layer_columns.LayerColumns.{LayerColumns}
use Rattle.rm_hl_matrices.specs.declared.control.MatrixControl.{MatrixControl}

-- the identifier of hlMatrixControlEntry
abbrev pub control_entry : List ℕ
control_entry = 1 ∷ 3 ∷ 6 ∷ 1 ∷ 2 ∷ 1 ∷ 16 ∷ 15 ∷ 1 ∷ 1 ∷ []

-- by which cells can be named
abbrev pub named_entry : TableEntry
named_entry = record { numbers = control_entry; named = refl }

-- the form of the rows
abbrev pub control_rows : RowForm (LayerColumns MatrixControl)
control_rows = layer_rows named_entry
