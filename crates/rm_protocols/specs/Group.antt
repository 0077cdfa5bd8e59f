-- The directory of protocols and the tables that count by it as one group. Where more than one had a variable of a name, or found something wrong
-- with a binding, the first one's would count: the directory's, then the distribution's, then that of the hosts, then that of the pairs of hosts.
use Rattle.std.specs.Prelude.{ℕ, List, Bool, ◌⊎◌, max, Option}
use Rattle.rm_val.specs.Val.{Val}
use Rattle.rm_val.specs.declared.error.ErrorStatus.{ErrorStatus}
use Rattle.rm_model.specs.Counting.{Counting}
use Rattle.rm_model.specs.Journal.{Journal}
use Rattle.rm_model.specs.Cells.{Cells}
use Rattle.rm_model.specs.ControlRows.{no_rows}
use Rattle.rm_model.specs.Judgement.{Bindings, second_pass, rows_after}
use Rattle.rm_model.specs.Reserves.{Reserves}
use Rattle.rm_group.specs.Listed.{is_listed, is_settable}
use Rattle.rm_dir.specs.Group.{Stands as DirectoryStands, AreFine as IsDirectoryFine}
use Rattle.rm_dir.specs.Judging.{directory_alone, directory_together}
use Rattle.rm_dir.specs.ProtocolDir.{protocol_dir}
use Rattle.rm_dir.specs.Tables.{directory_cells, directory_tables}
use Rattle.rm_dist.specs.Control.{dist_control}
use Rattle.rm_dist.specs.DistStats.{dist_cells}
use Rattle.rm_dist.specs.Group.{Stands as DistributionStands, AreFine as IsDistributionFine, dist_alone, dist_tables}
use Rattle.rm_dist.specs.Shown.{cells_kept}
use Rattle.rm_collect.specs.Collection.{alone}
use Rattle.rm_collect.specs.Group.{Stands as HeldStands, AreFine as AreHeldFine, IsStocked as IsHeldStocked, IsPrepared, IsReleased, frames_given as held_frames, last_given as held_last}
use Rattle.rm_hl_hosts.specs.Control.{control_rows as host_rows}
use Rattle.rm_hl_hosts.specs.Collection.{host_collection}
use Rattle.rm_hl_matrices.specs.Control.{control_rows as pair_rows}
use Rattle.rm_hl_matrices.specs.Collection.{pair_collection}
use Rattle.rm_four.specs.Four.{first_of, any_of}
use Rattle.rm_protocols.specs.declared.protocol_tables.ProtocolTables.{ProtocolTables}

-- They stand for a journal where each of the four does.
pub record Stands (held : ProtocolTables) (settings : Counting) (journal : Journal) : Type 0 where
  pub directory : DirectoryStands held.directory journal
  pub distribution : DistributionStands held.distribution settings journal
  pub hosts : HeldStands host_rows host_collection held.hosts settings journal
  pub pairs : HeldStands pair_rows pair_collection held.pairs settings journal

-- how many frames they were given, and the moment of the frame or the Set that they were given last, 0 before the first
abbrev pub frames_given : ProtocolTables → ℕ
frames_given held = max (max held.distribution.frames (held_frames held.hosts)) (held_frames held.pairs)

abbrev pub last_given : ProtocolTables → ℕ
last_given held = max (max held.distribution.last (held_last held.hosts)) (held_last held.pairs)

-- there is the storage of one row of hlHostControl and of one of hlMatrixControl, whether it is spare or not
abbrev pub IsStocked : ProtocolTables → Type 0
IsStocked held = IsHeldStocked held.hosts × IsHeldStocked held.pairs

-- the cells of all tables
unfoldable pub protocol_cells : Counting → Journal → (now : ℕ) → Cells
protocol_cells settings journal now name =
    first_of (directory_cells journal name) (dist_cells settings journal name) (host_collection.cells settings journal now name) (pair_collection.cells settings journal now name)

-- those that alarms may sample, after a journal and by what is held: those of the distribution
unfoldable pub distributed_cells : Counting → Journal → Cells
distributed_cells settings journal = dist_cells settings journal

abbrev pub shown : ProtocolTables → Cells
shown held = cells_kept held.distribution.rows

-- whether a name begins with the identifier of an object of one of the tables, and whether that can be set
unfoldable pub protocol_objects : List ℕ → Bool
protocol_objects name = any_of (is_listed directory_tables name) (is_listed dist_tables name) (is_listed host_collection.tables name) (is_listed pair_collection.tables name)

unfoldable pub protocol_settable : List ℕ → Bool
protocol_settable name = any_of (is_settable protocol_dir name) (is_settable dist_control name) (is_settable host_rows.table name) (is_settable pair_rows.table name)

-- what is wrong with a binding alone, and together with the others of its row
unfoldable pub protocol_alone : List ℕ → Val → Option ErrorStatus
protocol_alone name value =
    first_of (directory_alone name value) (dist_alone name value) (alone host_rows host_collection name value) (alone pair_rows pair_collection name value)

unfoldable pub protocol_together : Journal → Bindings → (place : ℕ) → Option ErrorStatus
protocol_together journal bindings place =
    first_of (directory_together journal bindings place) (second_pass dist_control (rows_after dist_control no_rows journal) bindings place)
    (second_pass host_rows.table (rows_after host_rows.table no_rows journal) bindings place)
    (second_pass pair_rows.table (rows_after pair_rows.table no_rows journal) bindings place)

-- After a journal there may be no memory for the row that the binding with that number, from 1, makes active.
unfoldable pub ProtocolReserves : Journal → Bindings → (index : ℕ) → Type 0
ProtocolReserves journal bindings index =
    Reserves host_rows.table (rows_after host_rows.table no_rows journal) bindings index
    ⊎ Reserves pair_rows.table (rows_after pair_rows.table no_rows journal) bindings index

-- both passes find nothing wrong with a Set, by the rows that are held
pub record AreFine (held : ProtocolTables) (bindings : Bindings) : Type 0 where
  pub directory : IsDirectoryFine held.directory bindings
  pub distribution : IsDistributionFine held.distribution bindings
  pub hosts : AreHeldFine host_rows host_collection held.hosts bindings
  pub pairs : AreHeldFine pair_rows pair_collection held.pairs bindings

-- they do so, and there is storage for each row that is active after it, too
pub record ArePrepared (held : ProtocolTables) (bindings : Bindings) : Type 0 where
  pub directory : IsDirectoryFine held.directory bindings
  pub distribution : IsDistributionFine held.distribution bindings
  pub hosts : IsPrepared host_rows host_collection held.hosts bindings
  pub pairs : IsPrepared pair_rows pair_collection held.pairs bindings

-- there is storage for the active rows only, or for one row of each table where none is active
abbrev pub AreReleased : ProtocolTables → Type 0
AreReleased held = IsReleased host_rows held.hosts × IsReleased pair_rows held.pairs
