-- The group event, as a caller sees it.
use Rattle.std.specs.Prelude.{ℕ, List, [], ◌∷◌, Option}
use Rattle.std.specs.Option.{option_or}
use Rattle.rm_val.specs.Val.{Val}
use Rattle.rm_val.specs.declared.error.ErrorStatus.{ErrorStatus}
use Rattle.rm_model.specs.Counting.{Counting}
use Rattle.rm_model.specs.Journal.{Journal}
use Rattle.rm_model.specs.Cells.{Cells, cells_of}
use Rattle.rm_model.specs.Judgement.{Bindings}
use Rattle.rm_group.specs.Listed.{ListedTable, alone_beside}
use Rattle.rm_pool.specs.Room as pool
use Rattle.rm_event.specs.declared.events.Events.{Events}
use Rattle.rm_event.specs.Columns.{event_columns}
use Rattle.rm_event.specs.EventTable.{event_entry, event_table}
use Rattle.rm_event.specs.EventRows.{event_rows}
use Rattle.rm_event.specs.Tables.{events_table, log_table, log_listed}

-- the cells of eventTable and logTable after a journal
abbrev pub event_cells : Counting → Journal → Cells
event_cells settings journal name =
    option_or (cells_of (events_table settings journal) name) (cells_of (log_table settings journal) name)

-- the tables of the group
abbrev pub event_tables : List ListedTable
event_tables = record { entry = event_entry; columns = event_columns } ∷ log_listed ∷ []

-- what is wrong with a binding alone: the columns of logTable are read only
abbrev pub event_alone : List ℕ → Val → Option ErrorStatus
event_alone = alone_beside event_table log_listed

-- there is the storage of one row
abbrev pub IsStocked : Events → Type 0
IsStocked events = pool.IsStocked events.logs

-- nothing is wrong with a Set, and there is storage for it
abbrev pub IsPrepared : Events → Bindings → Type 0
IsPrepared events = pool.IsPrepared event_rows events.rows events.logs

-- there is no more storage than that of the valid rows, or that of one row
abbrev pub IsReleased : Events → Type 0
IsReleased events = pool.IsReleased event_rows events.rows events.logs
