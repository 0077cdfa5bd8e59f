-- Control tables whose rows ask for the rows that frames of a data source enter.
use Rattle.std.specs.Prelude.{◌≡◌, ℕ, pos, List, [], ◌∷◌, length, Bool, true, nat_eq, if◌then◌else◌, Option, None, refl}
use Rattle.std.specs.Option.{option_map_or}
use Rattle.rm_val.specs.Val.{Val, int, ticks}
use Rattle.rm_model.specs.Indexing.{one_number}
use Rattle.rm_model.specs.ControlTable.{ControlTable, source_column, owner_column, entry_table, no_rules}
use Rattle.rm_columns.specs.Kinds.{sources, texts}
use Rattle.rm_columns.specs.RowForm.{RowForm, can_name}
use Rattle.rm_columns.proofs.ColumnLaws.{no_columns, one_more}
use Rattle.rm_columns.proofs.RowForms.{row_form}
use Rattle.rm_evicting.specs.Mention.{Mention, keys}
use Rattle.rm_evicting.specs.Held.{size, last_delete}
use Rattle.rm_keyed.specs.Entered.{Entered}
use Rattle.rm_keyed.specs.declared.source_columns.SourceColumns.{SourceColumns}

-- the numbers of the columns
abbrev pub source_columns : List ℕ
source_columns = 1 ∷ 2 ∷ 3 ∷ 4 ∷ 5 ∷ 6 ∷ []

-- the identifier of a table's entry, by which cells can be named
pub record TableEntry : Type 0 where
  pub numbers : List ℕ
  pub named : can_name 1 numbers ≡ true

-- the table with an entry: the data source and the owner can be set
abbrev pub source_control : TableEntry → ControlTable
source_control entry = entry_table entry.numbers 6 (source_column 2 ∷ owner_column 5 ∷ [])

module _ {T : Type 0} where
  -- what each column was set to; those that weren't set count as set to their default
  abbrev pub set_to : SourceColumns T → ℕ → Option Val
  set_to columns n =
      if nat_eq 2 n then sources.shown columns.source
      else if nat_eq 5 n then (texts 127).shown columns.owner
      else None

  -- the columns of a new row
  abbrev pub blank_columns : SourceColumns T
  blank_columns = record { source = 1; owner = record { items = [] }; table = record {} }

  -- columns with one of them set
  abbrev pub with_column : SourceColumns T → ℕ → Val → SourceColumns T
  with_column columns n value = record columns {
    source = if nat_eq 2 n then sources.taken value else columns.source;
    owner = if nat_eq 5 n then (texts 127).taken value else columns.owner;
  }

  -- the form of the rows
  unfoldable pub source_rows : TableEntry → RowForm (SourceColumns T)
  source_rows entry =
      row_form (source_control entry) source_columns set_to blank_columns with_column (λ n. refl)
      (λ columns n value.
      one_more sources (source_column 2) refl _ n value columns.source _ _
      (one_more (texts 127) (owner_column 5) refl [] n value columns.owner _ _ (no_columns n value)))
      refl refl refl refl entry.named

-- they go by one number, and are all alike
pub source_keyed : (T : Type 0) (entry : TableEntry) → ((source_rows {T = T} entry).table.indexing ≡ one_number) × ((source_rows {T = T} entry).table.rules ≡ no_rules)
unfolding source_rows
source_keyed T entry = (refl, refl)

-- by the rows that a control row holds, where it is valid
module _ {K V : Type 0} where
  -- how many they are, and when one last gave way to another, in hundredths of a second
  abbrev pub size_in : Option (Entered K V) → ℕ
  size_in rows = option_map_or (λ entered. length entered.rows.rows) rows 0

  abbrev pub deleted_in : Option (Entered K V) → ℕ
  deleted_in rows = option_map_or (λ entered. entered.last_delete) rows 0

  -- what the columns of the control row show that can't be set, the index left out
  abbrev pub source_value : Option (Entered K V) → (column : ℕ) → Val
  source_value rows column = if nat_eq column 3 then int (pos (size_in rows)) else ticks (deleted_in rows)

-- by the mentions of the keys of its rows, the newest first, where there is room for so many rows
module _ {K C : Type 0} (eq : K → K → Bool) (room : ℕ) (mentions : List (Mention K C)) where
  -- what these columns show: how many keys are held, and when one last gave way
  abbrev pub source_other : (column : ℕ) → Val
  source_other column = if nat_eq column 3 then int (pos (size eq room (keys mentions))) else ticks (last_delete eq room mentions)
