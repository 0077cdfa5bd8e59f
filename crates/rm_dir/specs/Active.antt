-- Which protocols are active: those whose rows are (RFC 2021, protocolDirStatus).
use Rattle.std.specs.Prelude.{◌≡◌, ℕ, List, Bool, ◌&&◌, nat_eq, if◌then◌else◌, option_and_then, Option, Some, None}
use Rattle.rm_model.specs.Journal.{Journal}
use Rattle.rm_model.specs.ControlRows.{is_valid}
use Rattle.rm_model.specs.declared.row.State.{State}
use Rattle.rm_path.specs.declared.identifier.ProtocolIdentifier.{ProtocolIdentifier}
use Rattle.rm_path.specs.declared.protocol.Protocol.{Protocol}
use Rattle.rm_path.specs.Identifier.{number_of}
use Rattle.rm_status.specs.declared.row.Row.{Row}
use Rattle.rm_status.specs.Rows.{row_in}
use Rattle.rm_dir.specs.declared.row.DirectoryRow.{DirectoryRow}
use Rattle.rm_dir.specs.DirectoryIndex.{index_with, may_have_row}
use Rattle.rm_dir.specs.LastChange.{config_of}
use Rattle.rm_dir.specs.LocalIndexes.{local_index}
use Rattle.rm_dir.specs.ProtocolDir.{directory_state}
use Rattle.rm_dir.specs.Support.{support_number}

-- whether a configuration of a row is supportedOn
abbrev pub is_on : Journal → List ℕ → (column : ℕ) → Bool
is_on journal index column = nat_eq (config_of journal index column) 3

-- what is known of a protocol after a journal, if it is active
abbrev pub active_protocol : Journal → ProtocolIdentifier → Option Protocol
active_protocol journal identifier =
    if may_have_row identifier && is_valid (directory_state journal (index_with identifier))
    then Some (record {
      identifier = identifier;
      local = local_index journal (index_with identifier);
      host = is_on journal (index_with identifier) 7;
      matrix = is_on journal (index_with identifier) 8;
    })
    else None

-- the same by its row that is held
abbrev pub protocol_kept : ProtocolIdentifier → State → DirectoryRow → Option Protocol
protocol_kept identifier state columns =
    if is_valid state
    then Some (record {
      identifier = identifier;
      local = columns.local;
      host = nat_eq (support_number columns.host) 3;
      matrix = nat_eq (support_number columns.matrix) 3;
    })
    else None

-- the same by the rows that are held
abbrev pub held_protocol : List (Row DirectoryRow) → ProtocolIdentifier → Option Protocol
held_protocol rows identifier =
    if may_have_row identifier then option_and_then (λ row. protocol_kept identifier row.state row.columns) (row_in rows (number_of identifier)) else None

-- no two protocols that are active have the same local index
abbrev pub HaveOwnLocals : Journal → Type 0
HaveOwnLocals journal =
    (one other : ProtocolIdentifier) (known also : Protocol) → active_protocol journal one ≡ Some known → active_protocol journal other ≡ Some also
    → known.local ≡ also.local → one ≡ other
