-- Tables of the network and application layer, as they are shown after a journal.
use Rattle.std.specs.Prelude.{ℕ, ◌+◌, ◌≤◌, ◌%◌, ◌^◌, List, [], ◌∷◌, length, Bool, false, nat_eq, if◌then◌else◌, Option, IsTrue}
use Rattle.std.specs.Option.{option_map_or}
use Rattle.rm_val.specs.Val.{Val, gauge, ticks, null}
use Rattle.rm_model.specs.Counting.{Counting}
use Rattle.rm_model.specs.Journal.{Journal}
use Rattle.rm_model.specs.Cells.{Table}
use Rattle.rm_group.specs.Listed.{ListedTable}
use Rattle.rm_group.specs.Search.{are_rising}
use Rattle.rm_columns.specs.RowForm.{can_name}
use Rattle.rm_nested.specs.InnerTable.{inner_table}
use Rattle.rm_layer_tables.specs.Held.{MarkedRows, has_row, sum_of, network_rows, application_rows}
use Rattle.rm_layer_tables.specs.Indexes.{KeyForm, network_place, application_place}
use Rattle.rm_layer_tables.specs.Layer.{Layer}

-- A table: the identifier of its entry and its columns. One shows when a row was made, and each other one a count of what has come to it.
pub record MarkedTable (G : Type 0) : Type 0 where
  pub entry : List ℕ
  pub columns : List ℕ
  pub created : ℕ
  pub count : (column : ℕ) → G → ℕ

-- as a group lists it
abbrev pub listed : {G : Type 0} → MarkedTable G → ListedTable
listed table = record { entry = table.entry; columns = table.columns }

-- its columns rise, and the names of its cells can be spelled, where no index has more numbers behind that of the control row
pub record CanShow {G : Type 0} (table : MarkedTable G) (longest : ℕ) : Type 0 where
  pub rising : IsTrue (are_rising table.columns)
  pub named : IsTrue (can_name 1 table.entry)
  pub fits : length table.entry + 2 + longest ≤ 128

-- What a column shows of a row. A Gauge32 is shown modulo 2 ^ 32.
abbrev pub row_value : {X G : Type 0} → MarkedTable G → MarkedRows X G → X → (column : ℕ) → Val
row_value table rows x column =
    if nat_eq column table.created then ticks (rows.created x) else gauge (sum_of (table.count column) (rows.contributions x) % 2 ^ 32)

-- `place_of` is the mark and the row that numbers name behind the number of a control row, and `rows` are the rows that a control row has
module _ {X G : Type 0} (table : MarkedTable G) (place_of : List ℕ → Option (ℕ × X)) (rows : (row : ℕ) → MarkedRows X G) where
  -- whether they name a row that stands at the mark at a moment in milliseconds
  abbrev pub is_index : (now row : ℕ) → List ℕ → Bool
  is_index now row numbers = option_map_or (λ place. has_row (rows row) now place.0 place.1) (place_of numbers) false

  -- what a column shows at an index
  abbrev pub value_at : (column : ℕ) → List ℕ → Val
  value_at column [] = null
  value_at column (row ∷ numbers) = option_map_or (λ place. row_value table (rows row) place.1 column) (place_of numbers) null

  -- the table at a moment in milliseconds
  abbrev pub marked_table : (now : ℕ) → Table
  marked_table now = inner_table table.entry table.columns (is_index now) value_at

-- a table of network rows after a journal, and one of application rows, by how keys stand in indexes
module _ {K G : Type 0} (layer : Layer K G) (eq : K → K → Bool) (form : KeyForm K) (table : MarkedTable G) (settings : Counting) (journal : Journal) where
  abbrev pub networks_after : (now : ℕ) → Table
  networks_after = marked_table table (network_place form) (network_rows layer eq settings journal)

  abbrev pub applications_after : (now : ℕ) → Table
  applications_after = marked_table table (application_place form) (application_rows layer eq settings journal)
