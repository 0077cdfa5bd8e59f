-- What bufferControlTable and captureBufferTable show, by the rows and the buffers that are kept.
use Rattle.std.specs.Prelude.{ℕ, ◌+◌, ◌-◌, ◌/◌, pos, List, length, Bool, ◌&&◌, nat_eq, nat_le, nat_lt, if◌then◌else◌, Option, Some, None}
use Rattle.std.specs.Option.{option_map_or}
use Rattle.rm_val.specs.Val.{Val, int, octets, ticks, null}
use Rattle.rm_val.specs.Contents.{natural_in}
use Rattle.rm_model.specs.Cells.{Table}
use Rattle.rm_status.specs.declared.row.Row.{Row}
use Rattle.rm_status.specs.Rows.{columns_in, row_number}
use Rattle.rm_pool.specs.declared.slot.Slot.{Slot}
use Rattle.rm_pool.specs.Slots.{part_in}
use Rattle.rm_nested.specs.InnerTable.{inner_table}
use Rattle.rm_nested.specs.NumberedRows.{is_kept_of, value_at}
use Rattle.rm_acts.specs.Shown.{natural}
use Rattle.rm_ring.specs.Kept.{Stored}
use Rattle.rm_capture.specs.declared.buffer.Buffer.{Buffer}
use Rattle.rm_capture.specs.declared.buffer_row.BufferRow.{BufferRow}
use Rattle.rm_capture.specs.declared.captured.PacketInfo.{PacketInfo}
use Rattle.rm_capture.specs.Kept.{oldest_in, packet_with}
use Rattle.rm_capture.specs.Downloads.{downloaded}
use Rattle.rm_capture.specs.PacketTable.{packet_entry, packet_columns, integer}

-- the number of bufferControlFullStatus: 2 where a packet that was accepted isn't kept
abbrev pub status_number : (is_lost : Bool) → ℕ
status_number is_lost = if is_lost then 2 else 1

-- what the columns of bufferControlTable show beside the index that can't be set, by the buffer that there may be of a row
abbrev pub other_of : (column : ℕ) → Option Buffer → Val
other_of column None = if nat_eq column 3 then natural 1 else if nat_eq column 9 then natural 0 else if nat_eq column 11 then ticks 0 else natural 0
other_of column (Some buffer) =
    if nat_eq column 3 then natural (status_number buffer.captured.lost)
    else if nat_eq column 9 then natural buffer.granted
    else if nat_eq column 11 then ticks (buffer.started / 10)
    else natural (length buffer.captured.ring.packets)

abbrev pub kept_other : List (Slot Buffer) → (column : ℕ) → List ℕ → Val
kept_other buffers column index = other_of column (part_in buffers (row_number index))

-- whether a buffer keeps the packet with a number, at any moment
abbrev pub shows : Buffer → (now number : ℕ) → Bool
shows buffer now number = nat_le (oldest_in buffer.captured) number && nat_lt number (oldest_in buffer.captured + length buffer.captured.ring.packets)

-- the octets of a packet that are shown, by the columns of its row
abbrev pub data_shown : Option BufferRow → (stored : List ℕ) → Val
data_shown None stored = null
data_shown (Some columns) stored =
    octets (downloaded (natural_in (int columns.download_offset)) (natural_in (int columns.download_slice_size)) stored)

-- what a column of a packet shows that is kept, by the moment at which its buffer became valid
abbrev pub stored_shown : Option BufferRow → (row started column : ℕ) → Stored PacketInfo → Val
stored_shown columns row started column packet =
    if nat_eq column 1 then int (pos row)
    else if nat_eq column 2 then integer packet.info.number
    else if nat_eq column 3 then integer packet.info.id
    else if nat_eq column 4 then data_shown columns packet.octets
    else if nat_eq column 5 then integer packet.info.length
    else if nat_eq column 6 then integer (packet.info.moment - started)
    else int (pos packet.info.status)

-- the same by the number of the packet
abbrev pub packet_value : List (Row BufferRow) → (row : ℕ) → Buffer → (number column : ℕ) → Val
packet_value rows row buffer number column = option_map_or (stored_shown (columns_in rows row) row buffer.started column) (packet_with buffer.captured number) null

-- captureBufferTable with these rows and buffers, at the moment 0 as at any other
abbrev pub packets_shown : List (Row BufferRow) → List (Slot Buffer) → Table
packets_shown rows buffers = inner_table packet_entry packet_columns (is_kept_of shows buffers 0) (value_at (packet_value rows) buffers)
