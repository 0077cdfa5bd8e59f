-- The laws of what the rows of hlHostControl collect.
use Rattle.rm_keyed.proofs.TwoLaws.{all_listed, beside_two}
use Rattle.rm_collect.specs.Collection.{IsLawful}
use Rattle.rm_layer_tables.specs.Columns.{control_columns}
use Rattle.rm_layer_tables.specs.Control.{layer_control}
use Rattle.rm_layer_tables.specs.ControlColumns.{layer_rows}
use Rattle.rm_layer_tables.specs.Lawful.{layer_lawful}
use Rattle.rm_layer_tables.specs.Tables.{listed}
use Rattle.rm_hl_hosts.specs.Control.{control_entry, control_rows, named_entry}
use Rattle.rm_hl_hosts.specs.Hosts.{nl_host, al_host}
use Rattle.rm_hl_hosts.specs.HostCells.{control_table, network_table, application_table}
use Rattle.rm_hl_hosts.specs.Collection.{host_parts, host_shown, host_collection}
use Rattle.rm_hl_hosts.specs.SameCells.{same_cells, all_finite}

pub host_lawful : IsLawful control_rows host_collection
unfolding host_collection layer_rows
host_lawful =
    layer_lawful host_parts host_shown named_entry.named same_cells all_finite
    (λ settings journal now. all_listed (network_table settings journal now) (application_table settings journal now) (control_table settings journal))
    (beside_two (layer_control control_entry) control_columns (listed nl_host) (listed al_host))
