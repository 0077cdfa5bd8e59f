-- What is fixed of a control table: its columns, and the values that they take.
use Rattle.std.specs.Prelude.{ℕ, ℤ, pos, List, [], ◌∷◌, Bool, true, false, ◌&&◌, ◌||◌, not, nat_eq, Option, None, is_some, unwrap_or, find}
use Rattle.std.specs.List.{list_all}
use Rattle.std.specs.Option.{option_map_or}
use Rattle.rm_val.specs.Val.{Val, null, name, octets}
use Rattle.rm_model.specs.Indexing.{Indexing, IsIndexing, one_number, by_one_number}
use Rattle.rm_model.specs.Interfaces.{interface_name}
use Rattle.rm_model.specs.declared.row.StatusKind.{StatusKind}
use Rattle.rm_model.specs.declared.row.StatusKind.TheVariants.{EntryStatus}

-- the numbers from the least one to the greatest one
pub record Range : Type 0 where
  pub least : ℤ
  pub greatest : ℤ

-- the values that a column takes: the numbers of some ranges, the texts of at most so many octets, every name, or the
-- names of the interfaces alone
pub data Kind : Type 0 where
  number : List Range → Kind
  text : (longest : ℕ) → Kind
  any_name : Kind
  data_source : Kind

-- A writable column beside the status: its number, the values that it takes, whether it may be set while its row is
-- valid too, whether a row needs it to be set before it is ready, and what it shows until it is set.
pub record Column : Type 0 where
  pub number : ℕ
  pub kind : Kind
  pub always : Bool
  pub needed : Bool
  pub default : Val

-- the numbers from one to another
abbrev pub up_from : ℕ → ℕ → List Range
up_from least greatest = record { least = pos least; greatest = pos greatest } ∷ []

-- A column that may be set while its row is under creation alone; one that may be set while the row is valid too; and one that has to
-- be set before the row is ready.
abbrev pub plain_column : ℕ → Kind → (default : Val) → Column
plain_column column kind default = record { number = column; kind = kind; always = false; needed = false; default = default }

abbrev pub always_column : ℕ → Kind → (default : Val) → Column
always_column column kind default = record { number = column; kind = kind; always = true; needed = false; default = default }

abbrev pub needed_column : ℕ → Kind → (default : Val) → Column
needed_column column kind default = record { number = column; kind = kind; always = false; needed = true; default = default }

-- A data source, which is interface 1 until it is set; a text; and the owner of a row, who may be set at any time.
abbrev pub source_column : ℕ → Column
source_column column = plain_column column data_source (name (interface_name 1))

abbrev pub text_column : ℕ → Column
text_column column = plain_column column (text 127) (octets [])

abbrev pub owner_column : ℕ → Column
owner_column column = always_column column (text 127) (octets [])

-- What goes by the index of a row, where the rows of a table aren't all alike: what a column of a new row is set to at first, if it
-- doesn't begin with the column's default; which columns of a row can never be set; and which rows were there from the beginning and stay.
pub record RowRules : Type 0 where
  pub first : List ℕ → ℕ → Option Val
  pub is_fixed : List ℕ → ℕ → Bool
  pub stays : List ℕ → Bool

-- all rows are alike
abbrev pub no_rules : RowRules
no_rules = record { first = λ index column. None; is_fixed = λ index column. false; stays = λ index. false }

-- A control table: the identifier of its entry, which indexes its rows can have, its status column and which kind of status that has, how many
-- rows there are at most, its other writable columns, whether values of these go together in a row that is ready, and what goes by the index
-- of a row. The rows of a sampled table are alarms: a sample whose variable is gone takes its row away.
pub record ControlTable : Type 0 where
  pub entry : List ℕ
  pub indexing : Indexing
  pub indexed : IsIndexing indexing
  pub status : ℕ
  pub status_kind : StatusKind
  pub most : ℕ
  pub columns : List Column
  pub go_together : (ℕ → Val) → Bool
  pub rules : RowRules
  pub is_sampled : Bool

-- the index of the row that has a number
abbrev pub row_index : ControlTable → ℕ → List ℕ
row_index table row = table.indexing.index_of row

-- A control table of RFC 1757: an index is one number, its status is an EntryStatus, it has sixteen rows at most, which are all alike, and
-- all values of its columns go together.
abbrev pub entry_table : List ℕ → (status : ℕ) → List Column → ControlTable
entry_table entry status columns = record {
  entry = entry;
  indexing = one_number;
  indexed = by_one_number;
  status = status;
  status_kind = EntryStatus;
  most = 16;
  columns = columns;
  go_together = λ value. true;
  rules = no_rules;
  is_sampled = false;
}

-- the writable column with that number
abbrev pub column_of : ControlTable → ℕ → Option Column
column_of table column = find (λ c. nat_eq c.number column) table.columns

-- what a column shows until it is set
abbrev pub default_of : ControlTable → ℕ → Val
default_of table column = option_map_or (λ c. c.default) (column_of table column) null

-- whether a row with these values set is ready
abbrev pub is_ready : ControlTable → (ℕ → Option Val) → Bool
is_ready table set =
    list_all (λ c. not c.needed || is_some (set c.number)) table.columns
    && table.go_together (λ column. unwrap_or (set column) (default_of table column))
