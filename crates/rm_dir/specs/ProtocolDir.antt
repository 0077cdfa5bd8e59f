-- protocolDirTable (RFC 2021, section 6): its columns, its rows, and what goes by the index of a row.
use Rattle.std.specs.Prelude.{ℕ, pos, List, [], ◌∷◌, Bool, true, false, ◌&&◌, ◌||◌, not, nat_eq, option_map, option_and_then, Option, Some, None, if◌then◌else◌, codes}
use Rattle.std.specs.Option.{option_map_or}
use Rattle.rm_val.specs.Val.{Val, int, octets}
use Rattle.rm_model.specs.Journal.{Journal}
use Rattle.rm_model.specs.ControlTable.{ControlTable, Column, RowRules, text, number, up_from, plain_column, always_column, owner_column}
use Rattle.rm_model.specs.ControlRows.{Beginning, state_of, value_of}
use Rattle.rm_model.specs.declared.row.StatusKind.TheVariants.{RowStatus}
use Rattle.rm_model.specs.declared.row.State.{State}
use Rattle.rm_model.specs.declared.row.State.TheVariants.{Absent, Valid}
use Rattle.rm_path.specs.declared.identifier.ProtocolIdentifier.{ProtocolIdentifier}
use Rattle.rm_dir.specs.DirectoryIndex.{protocol_of, directory_indexing, by_directory}
use Rattle.rm_dir.specs.BuiltIn.{built_in, is_built_in, is_countable}

-- the identifier of protocolDirEntry
abbrev pub directory_entry : List ℕ
directory_entry = 1 ∷ 3 ∷ 6 ∷ 1 ∷ 2 ∷ 1 ∷ 16 ∷ 11 ∷ 2 ∷ 1 ∷ []

-- the identifier of the group, below which protocolDirLastChange is the first object
abbrev pub change_entry : List ℕ
change_entry = 1 ∷ 3 ∷ 6 ∷ 1 ∷ 2 ∷ 1 ∷ 16 ∷ 11 ∷ []

-- whether a column says whether tables of hosts, or of matrices, count the protocol
abbrev pub is_config : ℕ → Bool
is_config column = nat_eq column 7 || nat_eq column 8

-- a protocol that can't be counted there begins as notSupported, which a column can't be set to
abbrev pub first_config : ProtocolIdentifier → ℕ → Option Val
first_config protocol column = if is_config column && not (is_countable protocol) then Some (int (pos 1)) else None

-- What goes by the protocol of a row: that, which can never be set; and the description of a row that was there from the beginning, which stays.
abbrev pub is_fixed_column : ProtocolIdentifier → ℕ → Bool
is_fixed_column protocol column = (is_config column && not (is_countable protocol)) || (nat_eq column 4 && is_built_in protocol)

abbrev pub directory_rules : RowRules
directory_rules = record {
  first = λ index column. option_and_then (λ protocol. first_config protocol column) (protocol_of index);
  is_fixed = λ index column. option_map_or (λ protocol. is_fixed_column protocol column) (protocol_of index) false;
  stays = λ index. option_map_or is_built_in (protocol_of index) false;
}

-- supportedOff or supportedOn, at first supportedOn
abbrev pub config_column : ℕ → Column
config_column column = always_column column (number (up_from 2 3)) (int (pos 3))

-- The control table: the description of a row, whether the tables of hosts and of matrices count its protocol, and its owner.
abbrev pub protocol_dir : ControlTable
protocol_dir = record {
  entry = directory_entry;
  indexing = directory_indexing;
  indexed = by_directory;
  status = 10;
  status_kind = RowStatus;
  most = 32;
  columns = plain_column 4 (text 64) (octets []) ∷ config_column 7 ∷ config_column 8 ∷ owner_column 9 ∷ [];
  go_together = λ value. true;
  rules = directory_rules;
  is_sampled = false;
}

-- what the columns of a row that is there from the beginning were set to
abbrev pub built_in_set : ProtocolIdentifier → ℕ → Option Val
built_in_set protocol column =
    if nat_eq column 4 then option_map (λ row. octets row.descr) (built_in protocol)
    else if nat_eq column 9 then Some (octets (codes "monitor"))
    else first_config protocol column

-- these rows are active from before the first act
abbrev pub directory_beginning : Beginning
directory_beginning = record {
  state = λ index. if option_map_or is_built_in (protocol_of index) false then Valid else Absent;
  set = λ index column. if option_map_or is_built_in (protocol_of index) false then option_and_then (λ protocol. built_in_set protocol column) (protocol_of index) else None;
}

-- the state of a row, and the value of a column that can be set
abbrev pub directory_state : Journal → List ℕ → State
directory_state journal index = state_of protocol_dir directory_beginning journal index

abbrev pub directory_value : Journal → List ℕ → ℕ → Val
directory_value journal index column = value_of protocol_dir directory_beginning journal index column
