-- The laws of the directory and of the tables that count by it as one group.
use Rattle.std.specs.Prelude.{ℕ, [], ◌∷◌, refl}
use Rattle.rm_model.specs.Counting.{Counting}
use Rattle.rm_model.specs.Journal.{Journal}
use Rattle.rm_model.specs.Cells.{cells_of}
use Rattle.rm_model.specs.Finite.{AreFinite}
use Rattle.rm_acts.specs.Recurring.{ReadBefore}
use Rattle.rm_group.specs.Listed.{is_listed, is_settable, AreOfObjects, AreRefused, beside_listed, of_table, with_table}
use Rattle.rm_dir.specs.Finite.{directory_finite}
use Rattle.rm_dir.specs.Judging.{directory_alone}
use Rattle.rm_dir.specs.ProtocolDir.{protocol_dir}
use Rattle.rm_dir.specs.Tables.{directory_cells, directory_columns, directory_table, directory_tables, change_table, change_listed}
use Rattle.rm_dist.specs.Columns.{control_columns}
use Rattle.rm_dist.specs.Control.{dist_control}
use Rattle.rm_dist.specs.DistStats.{dist_cells, control_table, stats_table}
use Rattle.rm_dist.specs.Finite.{dist_finite}
use Rattle.rm_dist.specs.Group.{dist_alone, dist_tables, stats_listed}
use Rattle.rm_collect.specs.Collection.{alone}
use Rattle.rm_hl_hosts.specs.Control.{control_rows as host_rows}
use Rattle.rm_hl_hosts.specs.Collection.{host_collection}
use Rattle.rm_hl_hosts.specs.Lawful.{host_lawful}
use Rattle.rm_hl_matrices.specs.Control.{control_rows as pair_rows}
use Rattle.rm_hl_matrices.specs.Collection.{pair_collection}
use Rattle.rm_hl_matrices.specs.Lawful.{pair_lawful}
use Rattle.rm_four.specs.FourLaws.{four_finite, four_of_objects, four_refused}
use Rattle.rm_protocols.specs.Group.{protocol_cells, distributed_cells, protocol_objects, protocol_settable, protocol_alone}

-- the cells are finitely many
pub all_finite : (settings : Counting) (journal : Journal) (now : ℕ) → AreFinite (protocol_cells settings journal now)
unfolding protocol_cells
all_finite settings journal now =
    four_finite (directory_cells journal) (dist_cells settings journal) (host_collection.cells settings journal now) (pair_collection.cells settings journal now)
    (directory_finite journal) (dist_finite settings journal) (host_lawful.finite settings journal now) (pair_lawful.finite settings journal now)

-- what alarms may sample depends on nothing that they read
pub all_recurring : ReadBefore (λ settings journal now. distributed_cells settings journal)
unfolding distributed_cells
all_recurring settings one other journal alike now name = refl

-- each has a name that begins with one of the objects
pub all_listed : (settings : Counting) (journal : Journal) (now : ℕ) → AreOfObjects protocol_objects (protocol_cells settings journal now)
unfolding protocol_cells protocol_objects
all_listed settings journal now =
    four_of_objects (is_listed directory_tables) (is_listed dist_tables) (is_listed host_collection.tables) (is_listed pair_collection.tables)
    (directory_cells journal) (dist_cells settings journal) (host_collection.cells settings journal now) (pair_collection.cells settings journal now)
    (with_table (directory_table journal) (change_listed ∷ []) (cells_of (change_table journal)) (of_table (change_table journal)))
    (with_table (control_table journal) (stats_listed ∷ []) (cells_of (stats_table settings journal)) (of_table (stats_table settings journal)))
    (host_lawful.shows_listed settings journal now) (pair_lawful.shows_listed settings journal now)

-- an object that can't be set is notWritable
pub all_refused : AreRefused protocol_objects protocol_settable protocol_alone
unfolding protocol_objects protocol_settable protocol_alone
all_refused =
    four_refused (is_listed directory_tables) (is_listed dist_tables) (is_listed host_collection.tables) (is_listed pair_collection.tables)
    (is_settable protocol_dir) (is_settable dist_control) (is_settable host_rows.table) (is_settable pair_rows.table)
    directory_alone dist_alone (alone host_rows host_collection) (alone pair_rows pair_collection)
    (beside_listed protocol_dir directory_columns change_listed) (beside_listed dist_control control_columns stats_listed)
    host_lawful.refuses_listed pair_lawful.refuses_listed
