-- The group of reports, as a caller sees it.
use Rattle.std.specs.Prelude.{ℕ, List, [], ◌∷◌, Option}
use Rattle.rm_val.specs.Val.{Val}
use Rattle.rm_val.specs.declared.error.ErrorStatus.{ErrorStatus}
use Rattle.rm_model.specs.Judgement.{Bindings}
use Rattle.rm_group.specs.Listed.{ListedTable, alone_beside}
use Rattle.rm_status.specs.Fine as rows
use Rattle.rm_pool.specs.Room as pool
use Rattle.rm_topn.specs.declared.reports.Reports.{Reports}
use Rattle.rm_topn.specs.Columns.{control_columns, report_columns}
use Rattle.rm_topn.specs.Control.{control_entry, top_control}
use Rattle.rm_topn.specs.ControlColumns.{control_rows}
use Rattle.rm_topn.specs.HostTop.{report_entry}

-- hostTopN, as the group lists it, and the tables of the group
abbrev pub report_listed : ListedTable
report_listed = record { entry = report_entry; columns = report_columns }

abbrev pub top_tables : List ListedTable
top_tables = record { entry = control_entry; columns = control_columns } ∷ report_listed ∷ []

-- what is wrong with a binding alone: the columns of hostTopN are read only
abbrev pub top_alone : List ℕ → Val → Option ErrorStatus
top_alone = alone_beside top_control report_listed

-- both passes find nothing wrong with a Set, by the rows that are kept
abbrev pub AreFine : Reports → Bindings → Type 0
AreFine reports = rows.AreFine control_rows reports.rows

-- there is the storage of one row
abbrev pub IsStocked : Reports → Type 0
IsStocked reports = pool.IsStocked reports.courses

-- nothing is wrong with a Set, and there is storage for it
abbrev pub IsPrepared : Reports → Bindings → Type 0
IsPrepared reports = pool.IsPrepared control_rows reports.rows reports.courses

-- there is no more storage than that of the valid rows, or that of one row
abbrev pub IsReleased : Reports → Type 0
IsReleased reports = pool.IsReleased control_rows reports.rows reports.courses
