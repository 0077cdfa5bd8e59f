-- The columns of a row of etherStats, as they are kept.
use Rattle.std.specs.Prelude.{ℕ, [], nat_eq, Option, None, refl, ◌&&◌, if◌then◌else◌, codes}
use Rattle.rm_val.specs.Val.{Val}
use Rattle.rm_model.specs.ControlTable.{source_column, owner_column}
use Rattle.rm_model.specs.ControlRows.{is_valid}
use Rattle.rm_model.specs.declared.row.State.{State}
use Rattle.rm_proto.specs.declared.known.Facts.{Facts}
use Rattle.rm_columns.specs.Kinds.{sources, texts}
use Rattle.rm_columns.specs.RowForm.{RowForm}
use Rattle.rm_columns.proofs.ColumnLaws.{no_columns, one_more}
use Rattle.rm_columns.proofs.RowForms.{row_form}
use Rattle.rm_ether.specs.declared.row.StatisticsRow.{StatisticsRow}
use Rattle.rm_ether.specs.Columns.{ether_columns}
use Rattle.rm_ether.specs.EtherStats.{ether_stats}
use Rattle.rm_ether.specs.Standing.{no_sums, with_frame}

-- what the columns were set to
abbrev pub set_to : StatisticsRow → ℕ → Option Val
set_to row n = if nat_eq 2 n then sources.shown row.source else if nat_eq 20 n then (texts 127).shown row.owner else None

-- a row with a column set
abbrev pub with_column : StatisticsRow → ℕ → Val → StatisticsRow
with_column row n value = record {
  source = if nat_eq 2 n then sources.taken value else row.source;
  owner = if nat_eq 20 n then (texts 127).taken value else row.owner;
  statistics = row.statistics;
}

-- a new row
abbrev pub blank_row : StatisticsRow
blank_row = record { source = 1; owner = record { items = [] }; statistics = no_sums }

-- the row of an interface that is there from before the first act
abbrev pub monitor_row : ℕ → StatisticsRow
monitor_row interface = record { source = interface; owner = record { items = codes "monitor" }; statistics = no_sums }

-- the form of the rows
abbrev pub statistics_rows : RowForm StatisticsRow
statistics_rows =
    row_form ether_stats ether_columns set_to blank_row with_column (λ n. refl)
    (λ row n value.
    one_more sources (source_column 2) refl _ n value row.source _ _
    (one_more (texts 127) (owner_column 20) refl [] n value row.owner _ _ (no_columns n value)))
    refl refl refl refl refl

-- a row with one more frame counted, where it is valid and the frame is of its interface
abbrev pub counting : Facts → State → StatisticsRow → StatisticsRow
counting facts state row =
    if is_valid state && nat_eq row.source facts.interface then record row { statistics = with_frame facts row.statistics } else row

-- a row without its sums, where it isn't valid
abbrev pub resting : State → StatisticsRow → StatisticsRow
resting state row = if is_valid state then row else record row { statistics = no_sums }
