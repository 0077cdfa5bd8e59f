-- Which protocols above ip tables of a kind count, by the directory of protocols (RFC 2021, section 6).
use Rattle.std.specs.Prelude.{◌≡◌, ◌≤◌, length, ℕ, Bool, false, ◌&&◌, List, [], ◌∷◌, ◌++◌, map, nat_eq, if◌then◌else◌, option_and_then, Option, Some, None}
use Rattle.std.specs.List.{list_any}
use Rattle.std.specs.Option.{option_map_or}
use Rattle.rm_model.specs.Journal.{Assignments, Frame, Journal, passes, assigns, samples}
use Rattle.rm_model.specs.Cells.{instance_of}
use Rattle.rm_path.specs.declared.identifier.ProtocolIdentifier.{ProtocolIdentifier}
use Rattle.rm_path.specs.declared.identifier.ProtocolIdentifier.TheVariants.{Ether}
use Rattle.rm_path.specs.declared.protocol.Protocol.{Protocol}
use Rattle.rm_path.specs.Identifier.{is_above_ip}
use Rattle.rm_dir.specs.Active.{active_protocol}
use Rattle.rm_dir.specs.BuiltIn.{built_in_rows}
use Rattle.rm_dir.specs.DirectoryIndex.{protocol_of}
use Rattle.rm_dir.specs.ProtocolDir.{directory_entry}
use Rattle.rm_layers.specs.Applications.{Slots}
use Rattle.rm_layer_events.specs.Side.{Side}
use Rattle.rm_layer_slots.specs.declared.slots.TableKind.{TableKind}
use Rattle.rm_layer_slots.specs.declared.slots.TableKind.TheVariants.{Hosts, Matrices}

abbrev pub counts : TableKind → Protocol → Bool
counts Hosts protocol = protocol.host
counts Matrices protocol = protocol.matrix

abbrev pub is_counted : TableKind → Protocol → Bool
is_counted kind protocol = is_above_ip protocol.identifier && counts kind protocol

-- the local index of a protocol above ip that is on
abbrev pub local_on : TableKind → Option Protocol → Option ℕ
local_on kind None = None
local_on kind (Some protocol) = if is_counted kind protocol then Some protocol.local else None

-- in each slot the one that is there
abbrev pub slots_on : TableKind → List (Option Protocol) → Slots
slots_on kind slots = map (local_on kind) slots

abbrev pub with_local : Option ℕ → List ℕ → List ℕ
with_local None locals = locals
with_local (Some local) locals = local ∷ locals

-- the protocol of whose row a name is the status, if it is of one
abbrev pub row_named : List ℕ → Option ProtocolIdentifier
row_named name = option_and_then (λ at. protocol_of at.index) (instance_of directory_entry (10 ∷ []) name)

abbrev pub with_named : Option ProtocolIdentifier → List ProtocolIdentifier → List ProtocolIdentifier
with_named None identifiers = identifiers
with_named (Some identifier) identifiers = identifier ∷ identifiers

abbrev pub rows_named : Assignments → List ProtocolIdentifier
rows_named [] = []
rows_named (assignment ∷ more) = with_named (row_named assignment.name) (rows_named more)

-- The protocols that may have a row after a journal: those that have one from the beginning, and those to whose status a Set gave a value.
unfoldable pub protocols_named : Journal → List ProtocolIdentifier
protocols_named [] = map (λ row. row.protocol) built_in_rows
protocols_named (passes frame ∷ earlier) = protocols_named earlier
protocols_named (assigns moment values ∷ earlier) = rows_named values ++ protocols_named earlier
protocols_named (samples moment alarm reading ∷ earlier) = protocols_named earlier

-- the local indexes of those of some protocols that are on after a journal
abbrev pub locals_among : TableKind → Journal → List ProtocolIdentifier → List ℕ
locals_among kind journal [] = []
locals_among kind journal (identifier ∷ more) = with_local (local_on kind (active_protocol journal identifier)) (locals_among kind journal more)

-- of all of them
abbrev pub locals_on : TableKind → Journal → List ℕ
locals_on kind journal = locals_among kind journal (protocols_named journal)

-- whether the protocol with a local index is on
abbrev pub is_on : TableKind → ℕ → Journal → Bool
is_on kind local journal = list_any (nat_eq local) (locals_on kind journal)

-- whether ip is, by its type (RFC 894)
abbrev pub is_ip_on : TableKind → Journal → Bool
is_ip_on kind journal = option_map_or (counts kind) (active_protocol journal (Ether 0x0800)) false

-- A side has those of the protocols that are on that tables of a kind count, and ip as they do. A frame has two references at most.
pub record CountsBy {K G : Type 0} (kind : TableKind) (side : Side K G) : Type 0 where
  pub few : (frame : Frame) (earlier : Journal) → length (side.references frame earlier) ≤ 2
  pub ip : (journal : Journal) → side.is_ip_on journal ≡ is_ip_on kind journal
  pub on : (local : ℕ) (journal : Journal) → side.is_on local journal ≡ is_on kind local journal
  pub locals : (journal : Journal) → side.protocols journal ≡ locals_on kind journal
