-- The cells of hlHostControl, nlHost and alHost.
use Rattle.std.specs.Prelude.{ℕ}
use Rattle.std.specs.Option.{option_or}
use Rattle.std.specs.Str.{bytes_eq}
use Rattle.rm_model.specs.Counting.{Counting}
use Rattle.rm_model.specs.Journal.{Journal}
use Rattle.rm_model.specs.Cells.{Cells, Table, cells_of}
use Rattle.rm_keyed.specs.TwoTables.{cells_of_two}
use Rattle.rm_layer_tables.specs.Addresses.{address_form}
use Rattle.rm_layer_tables.specs.ControlCells.{control_table as layer_table}
use Rattle.rm_layer_tables.specs.Tables.{networks_after, applications_after}
use Rattle.rm_hl_hosts.specs.Hosts.{host_layer, nl_host, al_host}

-- hlHostControl after a journal
abbrev pub control_table : Counting → Journal → Table
control_table settings journal = layer_table host_layer bytes_eq settings journal

-- nlHost, and alHost, at a moment in milliseconds
abbrev pub network_table : Counting → Journal → (now : ℕ) → Table
network_table settings journal now = networks_after host_layer bytes_eq address_form nl_host settings journal now

abbrev pub application_table : Counting → Journal → (now : ℕ) → Table
application_table settings journal now = applications_after host_layer bytes_eq address_form al_host settings journal now

-- and all three tables
abbrev pub host_cells : Counting → Journal → (now : ℕ) → Cells
host_cells settings journal now name =
    option_or (cells_of (control_table settings journal) name) (cells_of_two (network_table settings journal now) (application_table settings journal now) name)
