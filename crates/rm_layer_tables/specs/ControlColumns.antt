-- What is kept of a row of hlHostControl, or of hlMatrixControl.
use Rattle.std.specs.Prelude.{◌≡◌, ℕ, negsuc, [], ◌≤◌, nat_eq, if◌then◌else◌, Option, None, IfSome, refl}
use Rattle.std.proofs.Props.{props}
use Rattle.rm_val.specs.Val.{Val, int}
use Rattle.rm_model.specs.ControlTable.{source_column, owner_column, no_rules}
use Rattle.rm_model.specs.Indexing.{one_number}
use Rattle.rm_columns.specs.Kinds.{sources, numbers, texts}
use Rattle.rm_columns.specs.RowForm.{RowForm}
use Rattle.rm_columns.proofs.ColumnLaws.{no_columns, one_more}
use Rattle.rm_columns.proofs.RowForms.{row_form}
use Rattle.rm_keyed.specs.SourceControl.{TableEntry}
use Rattle.rm_layers.specs.Capacity.{capacity}
use Rattle.rm_layer_tables.specs.declared.layer_columns.LayerColumns.{LayerColumns}
use Rattle.rm_layer_tables.specs.Columns.{control_columns}
use Rattle.rm_layer_tables.specs.Control.{layer_control, desired_column, bound_of}

module _ {T : Type 0} where
  -- what each column was set to; those that weren't set count as set to their default
  abbrev pub set_to : LayerColumns T → ℕ → Option Val
  set_to row n =
      if nat_eq 2 n then sources.shown row.source
      else if nat_eq 6 n then numbers.shown row.network
      else if nat_eq 10 n then numbers.shown row.application
      else if nat_eq 11 n then (texts 127).shown row.owner
      else None

  -- a row with a column set
  abbrev pub with_column : LayerColumns T → ℕ → Val → LayerColumns T
  with_column row n value = record row {
    source = if nat_eq 2 n then sources.taken value else row.source;
    network = if nat_eq 6 n then numbers.taken value else row.network;
    application = if nat_eq 10 n then numbers.taken value else row.application;
    owner = if nat_eq 11 n then (texts 127).taken value else row.owner;
  }

  -- a new row, whatever its index
  abbrev pub blank_row : LayerColumns T
  blank_row = record { source = 1; network = negsuc 0; application = negsuc 0; owner = record { items = [] }; table = record {} }

  -- the form of the rows of the table with an entry
  unfoldable pub layer_rows : TableEntry → RowForm (LayerColumns T)
  layer_rows entry =
      row_form (layer_control entry.numbers) control_columns set_to blank_row with_column (λ n. refl)
      (λ row n value.
      one_more sources (source_column 2) refl _ n value row.source _ _
      (one_more numbers (desired_column 6 1) refl _ n value row.network _ _
      (one_more numbers (desired_column 10 32) refl _ n value row.application _ _
      (one_more (texts 127) (owner_column 11) refl [] n value row.owner _ _ (no_columns n value)))))
      refl refl refl refl entry.named

  -- how many network rows a row has room for
  abbrev pub room_of : (upper : ℕ) → LayerColumns T → ℕ
  room_of upper row = capacity upper (bound_of (int row.network)) (bound_of (int row.application))

  -- what a row asks for is within the ranges of its columns
  pub record IsInRange (row : LayerColumns T) : Type 0 where
    pub network : IfSome (bound_of (int row.network)) (λ most. 1 ≤ most)
    pub application : IfSome (bound_of (int row.application)) (λ most. 32 ≤ most)

  pub in_range_prop : (row : LayerColumns T) → IsProp (IsInRange row)
  in_range_prop row = hlevel props

-- they go by one number, and are all alike
pub layer_keyed : (T : Type 0) (entry : TableEntry) → ((layer_rows {T = T} entry).table.indexing ≡ one_number) × ((layer_rows {T = T} entry).table.rules ≡ no_rules)
unfolding layer_rows
layer_keyed T entry = (refl, refl)
