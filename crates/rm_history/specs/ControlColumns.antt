-- What is kept of the columns of a row of historyControl.
use Rattle.std.specs.Prelude.{ℕ, ◌≤◌, [], nat_eq, if◌then◌else◌, Option, None, refl}
use Rattle.rm_val.specs.Val.{Val}
use Rattle.rm_model.specs.ControlTable.{source_column, owner_column}
use Rattle.rm_columns.specs.Kinds.{sources, naturals, texts}
use Rattle.rm_columns.specs.RowForm.{RowForm}
use Rattle.rm_columns.proofs.ColumnLaws.{no_columns, one_more}
use Rattle.rm_columns.proofs.RowForms.{row_form}
use Rattle.rm_history.specs.declared.control_columns.ControlColumns.{ControlColumns}
use Rattle.rm_history.specs.Columns.{control_columns}
use Rattle.rm_history.specs.HistoryControl.{history_control, requested_column, interval_column}

-- what each column was set to; those that weren't set count as set to their default
abbrev pub set_to : ControlColumns → ℕ → Option Val
set_to columns n =
    if nat_eq 2 n then sources.shown columns.source
    else if nat_eq 3 n then (naturals 1 65535).shown columns.requested
    else if nat_eq 5 n then (naturals 1 3600).shown columns.interval
    else if nat_eq 6 n then (texts 127).shown columns.owner
    else None

-- the columns of a new row
abbrev pub blank_columns : ControlColumns
blank_columns = record { source = 1; requested = 50; interval = 1800; owner = record { items = [] } }

-- columns with one of them set
abbrev pub with_column : ControlColumns → ℕ → Val → ControlColumns
with_column columns n value = record {
  source = if nat_eq 2 n then sources.taken value else columns.source;
  requested = if nat_eq 3 n then (naturals 1 65535).taken value else columns.requested;
  interval = if nat_eq 5 n then (naturals 1 3600).taken value else columns.interval;
  owner = if nat_eq 6 n then (texts 127).taken value else columns.owner;
}

-- the form of the rows
abbrev pub control_rows : RowForm ControlColumns
control_rows =
    row_form history_control control_columns set_to blank_columns with_column (λ n. refl)
    (λ columns n value.
    one_more sources (source_column 2) refl _ n value columns.source _ _
    (one_more (naturals 1 65535) requested_column refl _ n value columns.requested _ _
    (one_more (naturals 1 3600) interval_column refl _ n value columns.interval _ _
    (one_more (texts 127) (owner_column 6) refl [] n value columns.owner _ _ (no_columns n value)))))
    refl refl refl refl refl

-- how many buckets are requested and the interval are among the numbers that the columns take
pub record AreInRange (columns : ControlColumns) : Type 0 where
  pub some_requested : 1 ≤ columns.requested
  pub most_requested : columns.requested ≤ 65535
  pub some_interval : 1 ≤ columns.interval
  pub most_interval : columns.interval ≤ 3600
