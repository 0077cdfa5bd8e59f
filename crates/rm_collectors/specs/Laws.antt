-- The laws of the tables as one group.
use Rattle.std.specs.Prelude.{◌≡◌, ◌↔◌, ◌≤◌, ℕ, [], ◌∷◌, Option, ℤ, refl}
use Rattle.rm_model.specs.Counting.{Counting}
use Rattle.rm_model.specs.Journal.{Journal, samples, last_moment}
use Rattle.rm_model.specs.Cells.{cells_of}
use Rattle.rm_model.specs.Finite.{AreFinite}
use Rattle.rm_acts.specs.Recurring.{ReadBefore}
use Rattle.rm_group.specs.Due.{HaveEnded}
use Rattle.rm_group.specs.Listed.{is_listed, is_settable, AreOfObjects, AreRefused, beside_listed, of_table, with_table}
use Rattle.rm_collect.specs.Collection.{alone}
use Rattle.rm_collect.specs.Sampled.{stands_sampled}
use Rattle.rm_history.specs.ControlColumns.{control_rows as history_rows}
use Rattle.rm_history.specs.Collection.{history_collection}
use Rattle.rm_history.specs.Lawful.{history_lawful}
use Rattle.rm_sourced.specs.Collection.{source_collection}
use Rattle.rm_matrix.specs.ControlColumns.{control_rows as matrix_rows}
use Rattle.rm_matrix.specs.Collection.{matrix_collection}
use Rattle.rm_matrix.specs.Lawful.{matrix_lawful}
use Rattle.rm_hosts.specs.ControlColumns.{control_rows as host_rows}
use Rattle.rm_hosts.specs.Collection.{host_collection}
use Rattle.rm_hosts.specs.Lawful.{host_lawful}
use Rattle.rm_topn.proofs.Dues.{end_is}
use Rattle.rm_topn.specs.Columns.{control_columns as top_columns}
use Rattle.rm_topn.specs.Control.{top_control}
use Rattle.rm_topn.specs.Due.{are_asked, end_after, end_in}
use Rattle.rm_topn.specs.Finite.{top_finite}
use Rattle.rm_topn.specs.Group.{report_listed, top_alone, top_tables}
use Rattle.rm_topn.specs.HostTop.{control_table, report_table, top_cells}
use Rattle.rm_topn.specs.Sampled.{stands_sampled as reports_sampled}
use Rattle.rm_four.specs.FourLaws.{four_finite, four_before, four_of_objects, four_refused}
use Rattle.rm_collectors.specs.Group.{Stands, IsAskable, FallsDue, ended_by, collected_cells, collected_objects, collected_settable, collected_alone}
use Rattle.rm_collectors.specs.declared.collectors.Collectors.{Collectors}

-- the cells are finitely many
pub all_finite : (settings : Counting) (journal : Journal) (now : ℕ) → AreFinite (collected_cells settings journal now)
unfolding collected_cells
all_finite settings journal now =
    four_finite (history_collection.cells settings journal now) (matrix_collection.cells settings journal now) (host_collection.cells settings journal now) (top_cells settings journal now)
    (history_lawful.finite settings journal now) (matrix_lawful.finite settings journal now) (host_lawful.finite settings journal now) (top_finite settings journal now)

-- they depend on what alarms read after earlier acts only
pub all_recurring : ReadBefore collected_cells
unfolding collected_cells history_collection source_collection
all_recurring =
    four_before history_collection.cells matrix_collection.cells host_collection.cells top_cells
    history_lawful.recurring matrix_lawful.recurring host_lawful.recurring (λ settings one other journal alike now name. refl)

-- each has a name that begins with one of the objects
pub all_listed : (settings : Counting) (journal : Journal) (now : ℕ) → AreOfObjects collected_objects (collected_cells settings journal now)
unfolding collected_cells collected_objects
all_listed settings journal now =
    four_of_objects (is_listed history_collection.tables) (is_listed matrix_collection.tables) (is_listed host_collection.tables) (is_listed top_tables)
    (history_collection.cells settings journal now) (matrix_collection.cells settings journal now) (host_collection.cells settings journal now) (top_cells settings journal now)
    (history_lawful.shows_listed settings journal now) (matrix_lawful.shows_listed settings journal now) (host_lawful.shows_listed settings journal now)
    (with_table (control_table journal now) (report_listed ∷ []) (cells_of (report_table settings journal now)) (of_table (report_table settings journal now)))

-- an object that can't be set is notWritable
pub all_refused : AreRefused collected_objects collected_settable collected_alone
unfolding collected_objects collected_settable collected_alone
all_refused =
    four_refused (is_listed history_collection.tables) (is_listed matrix_collection.tables) (is_listed host_collection.tables) (is_listed top_tables)
    (is_settable history_rows.table) (is_settable matrix_rows.table) (is_settable host_rows.table) (is_settable top_control)
    (alone history_rows history_collection) (alone matrix_rows matrix_collection) (alone host_rows host_collection) top_alone
    history_lawful.refuses_listed matrix_lawful.refuses_listed host_lawful.refuses_listed (beside_listed top_control top_columns report_listed)

-- they may be asked at a moment exactly where the reports have ended that are due by then
pub all_asked : (held : Collectors) (moment : ℕ) → IsAskable held moment ↔ HaveEnded (FallsDue held) moment
all_asked held moment = are_asked held.reports moment

-- the reports that run end when the journal says
pub ends_are : (held : Collectors) (settings : Counting) (journal : Journal) → Stands held settings journal → (row : ℕ) → end_in held.reports.courses row ≡ end_after (ended_by held journal) journal row
ends_are held settings journal stands = end_is held.reports settings journal stands.reports

-- the sample of an alarm makes no difference to them
pub all_begin : (held : Collectors) (settings : Counting) (earlier : Journal) (moment alarm : ℕ) (reading : Option ℤ)
    → Stands held settings earlier → last_moment earlier ≤ moment → IsAskable held moment → Stands held settings (samples moment alarm reading ∷ earlier)
all_begin held settings earlier moment alarm reading stands later asked = record {
  history = stands_sampled history_rows history_collection history_lawful settings earlier moment alarm reading later held.history stands.history;
  matrix = stands_sampled matrix_rows matrix_collection matrix_lawful settings earlier moment alarm reading later held.matrix stands.matrix;
  hosts = stands_sampled host_rows host_collection host_lawful settings earlier moment alarm reading later held.hosts stands.hosts;
  reports = reports_sampled settings earlier moment alarm reading later held.reports asked stands.reports;
}
