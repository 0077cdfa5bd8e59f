-- The columns of a row of protocolDirTable, as they are kept.
use Rattle.std.proofs.Common.{◌≡◌, ℕ, [], nat_eq, Bool, true, false, Option, Some, None, refl, sym, subst}
use Rattle.std.specs.Prelude.{if◌then◌else◌, option_and_then}
use Rattle.rm_val.specs.Val.{Val, octets}
use Rattle.rm_model.specs.Alike.{HasSameColumns}
use Rattle.rm_model.specs.ControlTable.{text, plain_column, owner_column}
use Rattle.rm_columns.specs.Kinds.{texts}
use Rattle.rm_columns.specs.RowForm.{RowForm}
use Rattle.rm_columns.proofs.ColumnLaws.{Sets, no_columns, one_more, set_of}
use Rattle.rm_path.specs.declared.identifier.ProtocolIdentifier.{ProtocolIdentifier}
use Rattle.rm_dir.specs.declared.row.DirectoryRow.{DirectoryRow}
use Rattle.rm_dir.specs.declared.support.Support.{Support}
use Rattle.rm_dir.specs.declared.support.Support.TheVariants.{NotSupported, SupportedOn}
use Rattle.rm_dir.specs.Support.{supports_field}
use Rattle.rm_dir.specs.BuiltIn.{is_countable}
use Rattle.rm_dir.specs.DirectoryIndex.{directory_index, row_protocol, protocol_is}
use Rattle.rm_dir.specs.ProtocolDir.{protocol_dir, config_column, first_config, directory_rules}
use Rattle.rm_dir.specs.Tables.{directory_columns}

-- what the columns were set to
abbrev pub set_to : DirectoryRow → ℕ → Option Val
set_to row n =
    if nat_eq 4 n then (texts 64).shown row.descr
    else if nat_eq 7 n then supports_field.shown row.host
    else if nat_eq 8 n then supports_field.shown row.matrix
    else if nat_eq 9 n then (texts 127).shown row.owner
    else None

-- a row with a column set
abbrev pub with_column : DirectoryRow → ℕ → Val → DirectoryRow
with_column row n value = record {
  descr = if nat_eq 4 n then (texts 64).taken value else row.descr;
  host = if nat_eq 7 n then supports_field.taken value else row.host;
  matrix = if nat_eq 8 n then supports_field.taken value else row.matrix;
  owner = if nat_eq 9 n then (texts 127).taken value else row.owner;
  local = row.local;
  host_before = row.host_before;
  matrix_before = row.matrix_before;
}

-- whether tables count the protocol of a new row
abbrev pub support_at_first : Option ProtocolIdentifier → Support
support_at_first (Some protocol) = if is_countable protocol then SupportedOn else NotSupported
support_at_first None = SupportedOn

-- a new row of a protocol, without a local index
abbrev pub row_at_first : Option ProtocolIdentifier → DirectoryRow
row_at_first protocol = record {
  descr = record { items = [] };
  host = support_at_first protocol;
  matrix = support_at_first protocol;
  owner = record { items = [] };
  local = 0;
  host_before = support_at_first protocol;
  matrix_before = support_at_first protocol;
}

abbrev pub new_row : ℕ → DirectoryRow
new_row number = row_at_first (row_protocol number)

first_alike : (protocol : Option ProtocolIdentifier) → HasSameColumns protocol_dir (set_to (row_at_first protocol)) (λ column. option_and_then (λ one. first_config one column) protocol)
first_alike None = (
  record { shown = refl; needed = λ h. absurd (cc) },
  (record { shown = refl; needed = λ h. absurd (cc) }, (record { shown = refl; needed = λ h. absurd (cc) }, (record { shown = refl; needed = λ h. absurd (cc) }, tt))),
)
first_alike (Some protocol) = by_test (is_countable protocol) refl
  where
    by_test : (t : Bool) → is_countable protocol ≡ t → HasSameColumns protocol_dir (set_to (row_at_first (Some protocol))) (λ column. first_config protocol column)
    by_test true e = rw e (
      record { shown = refl; needed = λ h. absurd (cc) },
      (record { shown = refl; needed = λ h. absurd (cc) }, (record { shown = refl; needed = λ h. absurd (cc) }, (record { shown = refl; needed = λ h. absurd (cc) }, tt))),
    )
    by_test false e = rw e (
      record { shown = refl; needed = λ h. absurd (cc) },
      (record { shown = refl; needed = λ h. absurd (cc) }, (record { shown = refl; needed = λ h. absurd (cc) }, (record { shown = refl; needed = λ h. absurd (cc) }, tt))),
    )

pub new_alike : (number : ℕ) → HasSameColumns protocol_dir (set_to (new_row number)) (directory_rules.first (directory_index number))
new_alike number =
    let P : Option ProtocolIdentifier → Type 0 = λ protocol. HasSameColumns protocol_dir (set_to (new_row number)) (λ column. option_and_then (λ one. first_config one column) protocol) in
    subst P (sym (protocol_is number)) (first_alike (row_protocol number))

pub sets : (row : DirectoryRow) (n : ℕ) (value : Val) → Sets protocol_dir.columns n value (set_to row) (set_to (with_column row n value))
sets row n value =
    one_more (texts 64) (plain_column 4 (text 64) (octets [])) refl _ n value row.descr _ _
    (one_more supports_field (config_column 7) refl _ n value row.host _ _
    (one_more supports_field (config_column 8) refl _ n value row.matrix _ _
    (one_more (texts 127) (owner_column 9) refl [] n value row.owner _ _ (no_columns n value))))

-- the form of the rows
abbrev pub directory_rows : RowForm DirectoryRow
directory_rows = record {
  table = protocol_dir;
  shown = directory_columns;
  set_to = set_to;
  blank = new_row;
  with_column = with_column;
  blank_alike = new_alike;
  set_with = λ row n other value fine. set_of protocol_dir.columns n other value (set_to row) (set_to (with_column row n value)) (sets row n value) fine;
  sound = refl;
  apart = refl;
  rising = refl;
  named = refl;
}
