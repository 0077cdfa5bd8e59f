-- Each figure of a load is a number.
use Rattle.std.proofs.Common.{◌≡◌, ℕ, [], ◌∷◌, Bool, true, cond, Some, refl, ap, nat_le}
use Rattle.std.specs.Prelude.{not}
use Rattle.std.proofs.lemmas.Bool.{le-leb}
use Rattle.rm_model.specs.Cells.{Table, cell_at}
use Rattle.rm_model.specs.ControlRows.{is_absent}
use Rattle.rm_model.specs.Counting.{Counting}
use Rattle.rm_model.specs.Journal.{Journal}
use Rattle.rm_model.specs.declared.row.State.TheVariants.{Absent, Valid}
use Rattle.rm_ether.specs.EtherStats.{ether_table}
use Rattle.rm_history.specs.Collection.{history_collection}
use Rattle.rm_sourced.specs.Sourcing.{control_table}
use Rattle.rm_sourced.specs.Collection.{source_collection}
use Rattle.rm_hosts.specs.Control.{named_entry as host_entry}
use Rattle.rm_hosts.specs.Tables.{host_sourcing}
use Rattle.rm_matrix.specs.Control.{named_entry as matrix_entry}
use Rattle.rm_matrix.specs.Tables.{pair_sourcing}
use Rattle.rm_hl_hosts.specs.Collection.{host_collection as hl_host_collection}
use Rattle.rm_hl_hosts.specs.HostCells.{control_table as hl_host_table}
use Rattle.rm_hl_matrices.specs.Collection.{pair_collection}
use Rattle.rm_hl_matrices.specs.PairCells.{control_table as hl_matrix_table}
use Rattle.rm_collectors.specs.Group.{collected_cells}
use Rattle.rm_protocols.specs.Group.{protocol_cells}
use Rattle.rm_sources.specs.Group.{source_cells}
use Rattle.rm_settings.specs.declared.settings.Settings.{Settings}
use Rattle.rm_agent.specs.Groups.{cells}
use Rattle.rm_agent.specs.Known.{counting_by}
use Rattle.rm_load.specs.declared.figure.Figure.{Figure}
use Rattle.rm_load.specs.declared.figure.Figure.TheVariants.{EtherStatsPkts, EtherStatsOctets, HostControlTableSize, HostControlLastDeleteTime, MatrixControlTableSize, MatrixControlLastDeleteTime, HostNlInserts, HostNlDeletes, HostAlInserts, HostAlDeletes, MatrixNlInserts, MatrixNlDeletes, MatrixAlInserts, MatrixAlDeletes}
use Rattle.rm_load.specs.Acts.{rows_made, acts_of}
use Rattle.rm_load.specs.Names.{variable_of}
use Rattle.rm_load.specs.Text.{IsNumber}
use Rattle.rm_load.proofs.NumberLemmas.{in_row, in_three, in_four, in_five}

module _ (settings : Settings) (start count now : ℕ) where
  -- what the groups know of the settings, and all that has happened
  abbrev counting : Counting
  counting = counting_by settings

  abbrev acts : Journal
  acts = acts_of start count

  -- a column of row 1 of a table has a number where its value is one
  abbrev InRow : (Journal → Table) → Type 0
  InRow table = (column : ℕ) → IsNumber (Some ((table acts).value column (1 ∷ []))) → IsNumber (cell_at (table acts) (Some (record { column = column; index = 1 ∷ [] })))

  -- row 1 of etherStats is that of the monitor, since there is an interface
  has_first : nat_le 1 settings.interfaces ≡ true
  has_first = le-leb 1 settings.interfaces settings.interfaces_low

  first_there : (ether_table counting rows_made).is_row (1 ∷ []) ≡ true
  first_there = ap (λ (is_one : Bool). not (is_absent (cond is_one Valid Absent))) has_first

  in_ether : InRow (ether_table counting)
  in_ether = in_row (ether_table counting) first_there (λ frame earlier. refl) start count

  in_hosts : InRow (control_table host_entry host_sourcing counting)
  in_hosts = in_row (control_table host_entry host_sourcing counting) refl (λ frame earlier. refl) start count

  in_matrix : InRow (control_table matrix_entry pair_sourcing counting)
  in_matrix = in_row (control_table matrix_entry pair_sourcing counting) refl (λ frame earlier. refl) start count

  in_hl_hosts : InRow (hl_host_table counting)
  in_hl_hosts = in_row (hl_host_table counting) refl (λ frame earlier. refl) start count

  in_hl_matrix : InRow (hl_matrix_table counting)
  in_hl_matrix = in_row (hl_matrix_table counting) refl (λ frame earlier. refl) start count

  pub is_number : (figure : Figure) → IsNumber (cells settings acts now (variable_of figure))
  unfolding source_cells collected_cells history_collection source_collection protocol_cells hl_host_collection pair_collection
  is_number EtherStatsPkts = in_three _ _ _ _ (in_ether 5 tt)
  is_number EtherStatsOctets = in_three _ _ _ _ (in_ether 4 tt)
  is_number HostControlTableSize = in_four _ _ _ _ _ (in_hosts 3 tt)
  is_number HostControlLastDeleteTime = in_four _ _ _ _ _ (in_hosts 4 tt)
  is_number MatrixControlTableSize = in_five _ _ _ _ _ _ (in_matrix 3 tt)
  is_number MatrixControlLastDeleteTime = in_five _ _ _ _ _ _ (in_matrix 4 tt)
  is_number HostNlInserts = in_four _ _ _ _ _ (in_hl_hosts 4 tt)
  is_number HostNlDeletes = in_four _ _ _ _ _ (in_hl_hosts 5 tt)
  is_number HostAlInserts = in_four _ _ _ _ _ (in_hl_hosts 8 tt)
  is_number HostAlDeletes = in_four _ _ _ _ _ (in_hl_hosts 9 tt)
  is_number MatrixNlInserts = in_three _ _ _ _ (in_hl_matrix 4 tt)
  is_number MatrixNlDeletes = in_three _ _ _ _ (in_hl_matrix 5 tt)
  is_number MatrixAlInserts = in_three _ _ _ _ (in_hl_matrix 8 tt)
  is_number MatrixAlDeletes = in_three _ _ _ _ (in_hl_matrix 9 tt)
