-- The control tables whose valid rows collect, as one group. Where more than one had a variable of a name, or found something wrong with a binding, the
-- first one's would count: the history's, then the matrix's, then the hosts', then that of their reports.
use Rattle.std.specs.Prelude.{◌≡◌, ◌⊎◌, ℕ, List, Bool, max, Option}
use Rattle.rm_val.specs.Val.{Val}
use Rattle.rm_val.specs.declared.error.ErrorStatus.{ErrorStatus}
use Rattle.rm_model.specs.Counting.{Counting}
use Rattle.rm_model.specs.Journal.{Journal}
use Rattle.rm_model.specs.Cells.{Cells}
use Rattle.rm_model.specs.ControlRows.{no_rows}
use Rattle.rm_model.specs.Judgement.{Bindings, second_pass, rows_after}
use Rattle.rm_model.specs.Reserves.{Reserves}
use Rattle.rm_group.specs.declared.due.Due.{Due}
use Rattle.rm_group.specs.Listed.{is_listed, is_settable}
use Rattle.rm_settings.specs.declared.settings.Settings.{Settings}
use Rattle.rm_collect.specs.Collection.{alone, sampled}
use Rattle.rm_collect.specs.Group.{Stands as HeldStands, IsStocked as IsHeldStocked, IsReleased as IsHeldReleased, AreFine as AreHeldFine, IsPrepared as IsHeldPrepared, frames_given as held_frames, last_given as held_last}
use Rattle.rm_history.specs.ControlColumns.{control_rows as history_rows}
use Rattle.rm_history.specs.Collection.{history_collection}
use Rattle.rm_matrix.specs.ControlColumns.{control_rows as matrix_rows}
use Rattle.rm_matrix.specs.Collection.{matrix_collection}
use Rattle.rm_hosts.specs.ControlColumns.{control_rows as host_rows}
use Rattle.rm_hosts.specs.Collection.{host_collection}
use Rattle.rm_topn.specs.Control.{top_control}
use Rattle.rm_topn.specs.Due.{IsEndDue, reports_left, ended_by as reports_ended_by}
use Rattle.rm_topn.specs.Group.{top_alone, top_tables, AreFine as AreReportsFine, IsPrepared as AreReportsPrepared, IsStocked as AreReportsStocked, IsReleased as AreReportsReleased}
use Rattle.rm_topn.specs.Held.{AreAskable}
use Rattle.rm_topn.specs.HostTop.{top_cells}
use Rattle.rm_topn.specs.Shown.{cells_kept}
use Rattle.rm_topn.specs.Standing.{Stands as ReportsStand}
use Rattle.rm_four.specs.Four.{first_of, any_of}
use Rattle.rm_collectors.specs.declared.collectors.Collectors.{Collectors}

-- what the probe is set to, as the tables need it
pub record IsSetTo (settings : Settings) (counting : Counting) : Type 0 where
  pub hosts : counting.hosts ≡ settings.hosts
  pub pairs : counting.pairs ≡ settings.pairs

-- They stand for a journal where each of the four does.
pub record Stands (held : Collectors) (settings : Counting) (journal : Journal) : Type 0 where
  pub history : HeldStands history_rows history_collection held.history settings journal
  pub matrix : HeldStands matrix_rows matrix_collection held.matrix settings journal
  pub hosts : HeldStands host_rows host_collection held.hosts settings journal
  pub reports : ReportsStand held.reports settings journal

-- they may be asked at a moment where the reports that are due have ended
abbrev pub IsAskable : Collectors → (moment : ℕ) → Type 0
IsAskable held moment = AreAskable held.reports.courses moment

-- What falls due is the end of a report that runs. So many are left that end up to a moment, and by that moment reports have ended.
abbrev pub FallsDue : Collectors → Due → Type 0
FallsDue held = IsEndDue held.reports

abbrev pub left_of : Collectors → (latest : ℕ) → ℕ
left_of held = reports_left held.reports

abbrev pub ended_by : Collectors → Journal → ℕ
ended_by held = reports_ended_by held.reports

-- how many frames they were given, and the moment of the frame, the Set or the end of a report that they were given last, 0 before the first
abbrev pub frames_given : Collectors → ℕ
frames_given held = max (max (max (held_frames held.history) (held_frames held.matrix)) (held_frames held.hosts)) held.reports.frames

abbrev pub last_given : Collectors → ℕ
last_given held = max (max (max (held_last held.history) (held_last held.matrix)) (held_last held.hosts)) held.reports.last

-- there is the storage of one row of each control table, whether it is spare or not
abbrev pub IsStocked : Collectors → Type 0
IsStocked held = IsHeldStocked held.history × IsHeldStocked held.matrix × IsHeldStocked held.hosts × AreReportsStocked held.reports

-- the cells of all tables
unfoldable pub collected_cells : Counting → Journal → (now : ℕ) → Cells
collected_cells settings journal now name =
    first_of (history_collection.cells settings journal now name) (matrix_collection.cells settings journal now name)
    (host_collection.cells settings journal now name) (top_cells settings journal now name)

-- what all tables show at a moment, by what is held: alarms may sample all of it
abbrev pub shown : Collectors → (now : ℕ) → Cells
shown held now name =
    first_of (sampled history_rows history_collection held.history.rows held.history.parts now name)
    (sampled matrix_rows matrix_collection held.matrix.rows held.matrix.parts now name)
    (sampled host_rows host_collection held.hosts.rows held.hosts.parts now name)
    (cells_kept held.reports.rows held.reports.courses now name)

-- whether a name begins with the identifier of an object of one of the tables, and whether that can be set
unfoldable pub collected_objects : List ℕ → Bool
collected_objects name = any_of (is_listed history_collection.tables name) (is_listed matrix_collection.tables name) (is_listed host_collection.tables name) (is_listed top_tables name)

unfoldable pub collected_settable : List ℕ → Bool
collected_settable name = any_of (is_settable history_rows.table name) (is_settable matrix_rows.table name) (is_settable host_rows.table name) (is_settable top_control name)

-- what is wrong with a binding alone
unfoldable pub collected_alone : List ℕ → Val → Option ErrorStatus
collected_alone name value =
    first_of (alone history_rows history_collection name value) (alone matrix_rows matrix_collection name value)
    (alone host_rows host_collection name value) (top_alone name value)

-- what is wrong with the binding at a place together with the others of its row, after a journal
unfoldable pub collected_together : Journal → Bindings → (place : ℕ) → Option ErrorStatus
collected_together journal bindings place =
    first_of (second_pass history_rows.table (rows_after history_rows.table no_rows journal) bindings place)
    (second_pass matrix_rows.table (rows_after matrix_rows.table no_rows journal) bindings place)
    (second_pass host_rows.table (rows_after host_rows.table no_rows journal) bindings place)
    (second_pass top_control (rows_after top_control no_rows journal) bindings place)

-- After a journal there may be no memory for the row that the binding with that number, from 1, makes valid: it isn't the only valid one
-- of its control table.
unfoldable pub CollectedReserves : Journal → Bindings → (index : ℕ) → Type 0
CollectedReserves journal bindings index =
    Reserves history_rows.table (rows_after history_rows.table no_rows journal) bindings index
    ⊎ Reserves matrix_rows.table (rows_after matrix_rows.table no_rows journal) bindings index
    ⊎ Reserves host_rows.table (rows_after host_rows.table no_rows journal) bindings index
    ⊎ Reserves top_control (rows_after top_control no_rows journal) bindings index

-- both passes find nothing wrong with a Set, by the rows that are held
pub record AreFine (held : Collectors) (bindings : Bindings) : Type 0 where
  pub history : AreHeldFine history_rows history_collection held.history bindings
  pub matrix : AreHeldFine matrix_rows matrix_collection held.matrix bindings
  pub hosts : AreHeldFine host_rows host_collection held.hosts bindings
  pub reports : AreReportsFine held.reports bindings

-- they do so, and there is storage for each row that is valid after it, too
pub record ArePrepared (held : Collectors) (bindings : Bindings) : Type 0 where
  pub history : IsHeldPrepared history_rows history_collection held.history bindings
  pub matrix : IsHeldPrepared matrix_rows matrix_collection held.matrix bindings
  pub hosts : IsHeldPrepared host_rows host_collection held.hosts bindings
  pub reports : AreReportsPrepared held.reports bindings

-- there is storage for the valid rows only, or for one row of each table where none is valid
abbrev pub AreReleased : Collectors → Type 0
AreReleased held =
    IsHeldReleased history_rows held.history × IsHeldReleased matrix_rows held.matrix × IsHeldReleased host_rows held.hosts × AreReportsReleased held.reports
