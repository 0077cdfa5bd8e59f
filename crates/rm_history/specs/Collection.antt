-- What the valid rows of historyControl collect: each has a history, of which etherHistory shows the last complete buckets.
use Rattle.std.specs.Prelude.{ℕ, List, [], ◌∷◌, Option}
use Rattle.std.specs.Option.{option_or}
use Rattle.rm_val.specs.Val.{Val}
use Rattle.rm_val.specs.declared.error.ErrorStatus.{ErrorStatus}
use Rattle.rm_model.specs.Counting.{Counting}
use Rattle.rm_model.specs.Journal.{Journal}
use Rattle.rm_model.specs.Cells.{Cells, cells_of, is_of_column}
use Rattle.rm_group.specs.Alone.{read_only}
use Rattle.rm_group.specs.Listed.{ListedTable}
use Rattle.rm_collect.specs.Collection.{Collection}
use Rattle.rm_collect.specs.declared.sampled_tables.SampledTables.TheVariants.{AllTables}
use Rattle.rm_history.specs.declared.control_columns.ControlColumns.{ControlColumns}
use Rattle.rm_history.specs.declared.run.Run.{Run}
use Rattle.rm_history.specs.Columns.{control_columns, sample_columns}
use Rattle.rm_history.specs.HistoryControl.{control_entry, control_table}
use Rattle.rm_history.specs.ControlColumns.{AreInRange}
use Rattle.rm_history.specs.EtherHistory.{sample_entry, sample_listed, sample_table}
use Rattle.rm_history.specs.Runs.{Fits, Counts}
use Rattle.rm_history.specs.Shown.{kept_other, runs_table}
use Rattle.rm_history.specs.Standing.{IsRun}
use Rattle.rm_history.specs.WellHeld.{in_range_prop}

-- the tables
abbrev pub history_tables : List ListedTable
history_tables = record { entry = control_entry; columns = control_columns } ∷ sample_listed ∷ []

-- what is wrong with a binding alone in etherHistory, of which no column is writable
abbrev pub samples_alone : List ℕ → Val → Option ErrorStatus
samples_alone = read_only (is_of_column sample_entry sample_columns)

-- the cells of both tables
abbrev pub history_cells : Counting → Journal → (now : ℕ) → Cells
history_cells settings journal now name = option_or (cells_of (control_table journal) name) (cells_of (sample_table settings journal now) name)

-- Rows share nothing.
unfoldable pub history_collection : Collection ControlColumns Run (Unit {0}) (Unit {0})
history_collection = record {
  suits = λ shared settings journal. Unit {0};
  in_range = AreInRange;
  in_range_prop = in_range_prop;
  fits = Fits;
  is_of = IsRun;
  has_begun = λ settings act earlier. IsRun settings (act ∷ earlier);
  judges = λ settings journal frame judged. Unit {0};
  within = λ seen. Unit {0};
  takes = λ judged seen before. Counts seen.facts seen.moment;
  others = λ rows runs. kept_other rows;
  inner = λ rows runs now. cells_of (runs_table runs now);
  cells = history_cells;
  sampled_tables = AllTables;
  sampleable = history_cells;
  tables = history_tables;
  inner_alone = samples_alone;
}
