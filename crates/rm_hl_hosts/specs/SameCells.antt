-- What the rows and the hosts show is what the tables show after the journal, and the cells are finitely many.
use Rattle.std.proofs.Common.{◌≡◌, ℕ, List}
use Rattle.std.specs.Option.{option_or}
use Rattle.std.specs.Str.{bytes_eq}
use Rattle.rm_model.specs.Counting.{Counting}
use Rattle.rm_model.specs.Journal.{Journal}
use Rattle.rm_model.specs.ControlRows.{no_rows}
use Rattle.rm_model.specs.Finite.{AreFinite}
use Rattle.rm_status.specs.declared.row.Row.{Row}
use Rattle.rm_status.specs.Rows.{AreControlRows}
use Rattle.rm_status.specs.RowsAfter.{AreRowsAfter}
use Rattle.rm_pool.specs.declared.slot.Slot.{Slot}
use Rattle.rm_pool.specs.Slots.{part_in}
use Rattle.rm_keyed.proofs.TwoLaws.{all_finite as all_of_three}
use Rattle.rm_collect.specs.Rows.{IsKept}
use Rattle.rm_collect.specs.Collection.{kept}
use Rattle.rm_layer_hosts.specs.Counts.{host_tally}
use Rattle.rm_layer_tables.specs.declared.layer_columns.LayerColumns.{LayerColumns}
use Rattle.rm_layer_tables.specs.AddressLaws.{address_numbered}
use Rattle.rm_layer_tables.specs.Addresses.{address_form}
use Rattle.rm_layer_tables.specs.Control.{layer_control}
use Rattle.rm_layer_tables.specs.ControlColumns.{set_to, layer_rows}
use Rattle.rm_layer_tables.specs.Finite.{control_finite, networks_finite, applications_finite}
use Rattle.rm_layer_tables.specs.Parts.{IsPart}
use Rattle.rm_layer_tables.specs.SameCells.{same_control, same_networks, same_applications}
use Rattle.rm_hl_hosts.specs.declared.control.HostControl.{HostControl}
use Rattle.rm_hl_hosts.specs.declared.part.HostPart.{HostPart}
use Rattle.rm_hl_hosts.specs.Columns.{gauge_in, traffic_in}
use Rattle.rm_hl_hosts.specs.Control.{control_entry, control_rows}
use Rattle.rm_hl_hosts.specs.Hosts.{host_layer, nl_host, al_host}
use Rattle.rm_hl_hosts.specs.HostCells.{control_table, network_table, application_table, host_cells}
use Rattle.rm_hl_hosts.specs.HostLaws.{names_few, exact, networks_add, applications_add}
use Rattle.rm_hl_hosts.specs.Collection.{hosts_of, host_parts, host_collection}

module _ (parts : List (Slot HostPart)) (settings : Counting) (journal : Journal) (are : (row : ℕ) → IsKept (layer_control control_entry) (IsPart host_parts) settings journal row (part_in parts row)) (now : ℕ)
    (rows : List (Row (LayerColumns HostControl))) (held : AreControlRows (layer_control control_entry) rows) (is : AreRowsAfter (layer_control control_entry) no_rows set_to rows journal) where
  pub same_cells : (name : List ℕ) → kept control_rows host_collection rows parts now name ≡ host_cells settings journal now name
  unfolding host_collection layer_rows
  same_cells name = λ d. option_or
      (same_control host_layer names_few host_tally bytes_eq exact address_form hosts_of (IsPart host_parts) settings journal (λ row part of. of.held) parts are rows held is name d)
      (option_or
      (same_networks host_layer names_few host_tally bytes_eq exact address_form hosts_of (IsPart host_parts) settings journal (λ row part of. of.held) parts are nl_host gauge_in networks_add now name d)
      (same_applications host_layer names_few host_tally bytes_eq exact address_form hosts_of (IsPart host_parts) settings journal (λ row part of. of.held) parts are al_host traffic_in applications_add now name d))

pub all_finite : (settings : Counting) (journal : Journal) (now : ℕ) → AreFinite (host_cells settings journal now)
all_finite settings journal now =
    all_of_three (network_table settings journal now) (application_table settings journal now) (control_table settings journal)
    (control_finite host_layer bytes_eq settings journal)
    (networks_finite host_layer bytes_eq settings journal address_form address_numbered now nl_host)
    (applications_finite host_layer bytes_eq settings journal address_form address_numbered now al_host)
