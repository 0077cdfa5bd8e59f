-- The rows of hlHostControl (RFC 2021, section 6): each asks for the hosts of a data source, in the network and application layer.
use Rattle.std.specs.Prelude.{ℕ, List, [], ◌∷◌, refl}
use Rattle.rm_columns.specs.RowForm.{RowForm}
use Rattle.rm_keyed.specs.SourceControl.{TableEntry}
use Rattle.rm_layer_tables.specs.ControlColumns.{layer_rows}
use Rattle.rm_layer_tables.specs.declared.layer_columns.LayerColumns.{LayerColumns}
use Rattle.rm_hl_hosts.specs.declared.control.HostControl.{HostControl}

-- the identifier of hlHostControlEntry
abbrev pub control_entry : List ℕ
control_entry = 1 ∷ 3 ∷ 6 ∷ 1 ∷ 2 ∷ 1 ∷ 16 ∷ 14 ∷ 1 ∷ 1 ∷ []

-- by which cells can be named
abbrev pub named_entry : TableEntry
named_entry = record { numbers = control_entry; named = refl }

-- the form of the rows
abbrev pub control_rows : RowForm (LayerColumns HostControl)
control_rows = layer_rows named_entry
