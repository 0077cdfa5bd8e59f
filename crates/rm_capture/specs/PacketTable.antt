-- captureBufferTable (RFC 1757, section 5): the packets that each valid row of bufferControlTable keeps.
use Rattle.std.specs.Prelude.{ℕ, ◌-◌, pos, min, List, [], ◌∷◌, Bool, ◌&&◌, nat_eq, if◌then◌else◌, find, is_some, reverse, Option}
use Rattle.std.specs.Option.{option_map_or, option_or}
use Rattle.rm_val.specs.Val.{Val, int, octets, null}
use Rattle.rm_model.specs.Counting.{Counting}
use Rattle.rm_model.specs.Journal.{Journal}
use Rattle.rm_model.specs.FrameFacts.{frame_facts}
use Rattle.rm_model.specs.Cells.{Cells, Table, cells_of}
use Rattle.rm_model.specs.ControlRows.{no_rows, activated}
use Rattle.rm_group.specs.Listed.{ListedTable}
use Rattle.rm_nested.specs.InnerTable.{numbered_table}
use Rattle.rm_acts.specs.Rows.{has_valid}
use Rattle.rm_acts.specs.Buffers.{Packet, buffer_table, kept_by, shown_octets}
use Rattle.rm_acts.specs.Shown.{buffers_shown}

-- the identifier of captureBufferEntry
abbrev pub packet_entry : List ℕ
packet_entry = 1 ∷ 3 ∷ 6 ∷ 1 ∷ 2 ∷ 1 ∷ 16 ∷ 8 ∷ 2 ∷ 1 ∷ []

-- captureBufferControlIndex, captureBufferIndex, captureBufferPacketID, captureBufferPacketData, captureBufferPacketLength,
-- captureBufferPacketTime, captureBufferPacketStatus
abbrev pub packet_columns : List ℕ
packet_columns = 1 ∷ 2 ∷ 3 ∷ 4 ∷ 5 ∷ 6 ∷ 7 ∷ []

-- the table, as the group lists it
abbrev pub packet_listed : ListedTable
packet_listed = record { entry = packet_entry; columns = packet_columns }

-- what an INTEGER shows of a number, which has no greater one than 2147483647
abbrev pub integer : ℕ → Val
integer n = int (pos (min n 2147483647))

-- whether a packet has a number
abbrev pub has_number : (number : ℕ) → Packet → Bool
has_number number packet = nat_eq packet.number number

-- the packets that a buffer keeps, the oldest first, and the one with a number
abbrev pub packets_kept : Counting → Journal → (buffer : ℕ) → List Packet
packets_kept settings journal buffer = reverse (kept_by settings journal buffer)

abbrev pub packet_of : Counting → Journal → (buffer number : ℕ) → Option Packet
packet_of settings journal buffer number = find (has_number number) (packets_kept settings journal buffer)

-- whether these numbers are those of a valid row of bufferControlTable and of a packet that it keeps
abbrev pub is_packet : Counting → Journal → (buffer number : ℕ) → Bool
is_packet settings journal buffer number = has_valid buffer_table journal buffer && is_some (packet_of settings journal buffer number)

-- What a column of a packet shows. Its time is that from the moment at which the buffer became valid to its own.
abbrev pub packet_shown : Counting → Journal → (buffer column : ℕ) → Packet → Val
packet_shown settings journal buffer column packet =
    if nat_eq column 1 then int (pos buffer)
    else if nat_eq column 2 then integer packet.number
    else if nat_eq column 3 then integer packet.frame.number
    else if nat_eq column 4 then octets (shown_octets journal buffer packet)
    else if nat_eq column 5 then integer (frame_facts settings packet.frame).length
    else if nat_eq column 6 then integer (packet.frame.moment - activated buffer_table no_rows journal (buffer ∷ []))
    else int (pos (frame_facts settings packet.frame).status)

-- the same by the number of the packet
abbrev pub packet_at : Counting → Journal → (buffer number column : ℕ) → Val
packet_at settings journal buffer number column =
    option_map_or (packet_shown settings journal buffer column) (packet_of settings journal buffer number) null

-- the table after a journal
abbrev pub packet_table : Counting → Journal → Table
packet_table settings journal = numbered_table packet_entry packet_columns (is_packet settings journal) (packet_at settings journal)

-- the cells of bufferControlTable and captureBufferTable
abbrev pub buffer_cells : Counting → Journal → Cells
buffer_cells settings journal name = option_or (cells_of (buffers_shown settings journal) name) (cells_of (packet_table settings journal) name)
