-- What the active rows of hlHostControl collect: each has hosts, which nlHost and alHost show.
use Rattle.std.specs.Prelude.{ℕ, List, [], ◌∷◌}
use Rattle.std.specs.Str.{bytes_eq}
use Rattle.rm_keyed.specs.TwoTables.{cells_of_two, alone_of_two}
use Rattle.rm_collect.specs.Collection.{Collection}
use Rattle.rm_upper.specs.LayerTable.{LayerTable}
use Rattle.rm_layer_hosts.specs.declared.counts.NetworkCounts.{NetworkCounts}
use Rattle.rm_layer_hosts.specs.declared.counts.Traffic.{Traffic}
use Rattle.rm_layer_hosts.specs.Counts.{host_tally}
use Rattle.rm_layer_tables.specs.declared.layer_columns.LayerColumns.{LayerColumns}
use Rattle.rm_layer_tables.specs.declared.shared.LayerShared.{LayerShared}
use Rattle.rm_layer_tables.specs.Addresses.{address_form}
use Rattle.rm_layer_tables.specs.Collection.{ShownTables, layer_collection}
use Rattle.rm_layer_tables.specs.Columns.{control_columns}
use Rattle.rm_layer_tables.specs.Kept.{kept_networks, kept_applications}
use Rattle.rm_layer_tables.specs.Parts.{Holding}
use Rattle.rm_layer_tables.specs.Tables.{listed}
use Rattle.rm_hl_hosts.specs.declared.control.HostControl.{HostControl}
use Rattle.rm_hl_hosts.specs.declared.part.HostPart.{HostPart}
use Rattle.rm_hl_hosts.specs.Columns.{gauge_in, traffic_in}
use Rattle.rm_hl_hosts.specs.Control.{control_entry}
use Rattle.rm_hl_hosts.specs.Hosts.{host_layer, nl_host, al_host}
use Rattle.rm_hl_hosts.specs.HostCells.{host_cells}

-- the hosts of a part
abbrev pub hosts_of : HostPart → LayerTable (List ℕ) NetworkCounts Traffic
hosts_of part = part.hosts.table

-- parts hold hosts by their addresses
abbrev pub host_parts : Holding HostPart (List ℕ) NetworkCounts Traffic
host_parts = record { layer = host_layer; tally = host_tally; eq = bytes_eq; source_of = λ part. part.source; table_of = hosts_of }

-- and the tables show them
abbrev pub host_shown : ShownTables HostPart
host_shown = record {
  tables = record { entry = control_entry; columns = control_columns } ∷ listed nl_host ∷ listed al_host ∷ [];
  inner = λ parts now. cells_of_two (kept_networks address_form bytes_eq hosts_of parts nl_host gauge_in now) (kept_applications address_form bytes_eq hosts_of parts al_host traffic_in now);
  cells = host_cells;
  inner_alone = alone_of_two (listed nl_host) (listed al_host);
}

-- what the rows collect
unfoldable pub host_collection : Collection (LayerColumns HostControl) HostPart LayerShared ℕ
host_collection = layer_collection host_parts host_shown
