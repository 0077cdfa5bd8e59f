-- The columns of a control table that a description of the code describes.
use Rattle.std.specs.Prelude.{List, [], ◌∷◌, Bool, true, false, not, ◌&&◌, nat_eq, map}
use Rattle.std.specs.List.{list_all}
use Rattle.rm_val.specs.Val.{Val, int, octets, name}
use Rattle.rm_model.specs.Interfaces.{interface_name}
use Rattle.rm_model.specs.ControlTable.{Range, Kind, number, text, any_name, data_source, Column}
use Rattle.rm_model.specs.declared.sheet.Span.{Span}
use Rattle.rm_model.specs.declared.sheet.ColumnKind.{ColumnKind}
use Rattle.rm_model.specs.declared.sheet.ColumnKind.TheVariants.{Number, Either, Text, AnyName, Source}
use Rattle.rm_model.specs.declared.sheet.Setting.{Setting}
use Rattle.rm_model.specs.declared.sheet.Setting.TheVariants as shows
use Rattle.rm_model.specs.declared.sheet.Settable.{Settable}
use Rattle.rm_model.specs.declared.sheet.Settable.TheVariants.{Always, UnderCreation}
use Rattle.rm_model.specs.declared.sheet.ColumnSheet.{ColumnSheet}

abbrev pub range_of : Span → Range
range_of span = record { least = span.least; greatest = span.greatest }

abbrev pub kind_of : ColumnKind → Kind
kind_of (Number span) = number (range_of span ∷ [])
kind_of (Either low high) = number (range_of low ∷ range_of high ∷ [])
kind_of (Text longest) = text longest
kind_of AnyName = any_name
kind_of Source = data_source

abbrev pub is_always : Settable → Bool
is_always Always = true
is_always UnderCreation = false

-- what a column shows until it is set
abbrev pub setting_value : Setting → Val
setting_value (shows.Number n) = int n
setting_value shows.Empty = octets []
setting_value shows.NoName = name (0 ∷ 0 ∷ [])
setting_value (shows.Interface n) = name (interface_name n)

abbrev pub column_of : ColumnSheet → Column
column_of column = record {
  number = column.number;
  kind = kind_of column.kind;
  always = is_always column.settable;
  needed = column.needed;
  default = setting_value column.default;
}

abbrev pub columns_of : List ColumnSheet → List Column
columns_of columns = map column_of columns

-- no two columns have one number
abbrev pub are_apart : List Column → Bool
are_apart [] = true
are_apart (column ∷ more) = list_all (λ other. not (nat_eq column.number other.number)) more && are_apart more
