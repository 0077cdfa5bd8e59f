-- The control table of capture buffers (RFC 1757, section 5), and the packets that a buffer keeps.
use Rattle.std.specs.Prelude.{ℕ, ◌+◌, ◌-◌, min, max, pos, negsuc, List, [], ◌∷◌, length, map, filter, reverse, take, drop, Bool, true, false, nat_eq, nat_le, nat_lt, if◌then◌else◌}
use Rattle.rm_val.specs.Val.{Val, int}
use Rattle.rm_model.specs.Counting.{Counting}
use Rattle.rm_model.specs.Journal.{Frame, Journal}
use Rattle.rm_model.specs.Cells.{is_one_of}
use Rattle.rm_model.specs.ControlTable.{ControlTable, number, up_from, plain_column, always_column, needed_column, owner_column, entry_table}
use Rattle.rm_model.specs.ControlRows.{no_rows, value_of}
use Rattle.rm_acts.specs.Rows.{number_in}
use Rattle.rm_acts.specs.Seen.{Seen, seen_since}
use Rattle.rm_acts.specs.Fired.{fired, accepting}

abbrev pub buffer_entry : List ℕ
buffer_entry = 1 ∷ 3 ∷ 6 ∷ 1 ∷ 2 ∷ 1 ∷ 16 ∷ 8 ∷ 1 ∷ 1 ∷ []

-- bufferControlChannelIndex, bufferControlFullAction, bufferControlCaptureSliceSize, bufferControlDownloadSliceSize,
-- bufferControlDownloadOffset, bufferControlMaxOctetsRequested, bufferControlOwner
abbrev pub buffer_table : ControlTable
buffer_table =
    entry_table buffer_entry 13
    (needed_column 2 (number (up_from 1 65535)) (int (pos 0))
    ∷ plain_column 4 (number (up_from 1 2)) (int (pos 1))
    ∷ plain_column 5 (number (up_from 0 262144)) (int (pos 100)) ∷ always_column 6 (number (up_from 0 262144)) (int (pos 100))
    ∷ always_column 7 (number (up_from 0 2147483647)) (int (pos 0))
    ∷ plain_column 8 (number (record { least = negsuc 0; greatest = pos 2147483647 } ∷ [])) (int (negsuc 0))
    ∷ owner_column 12 ∷ [])

-- the channel of a buffer, whether it wraps where it is full, and how many octets of a packet it keeps, 0 for all
abbrev pub channel_captured : Journal → (buffer : ℕ) → ℕ
channel_captured journal buffer = number_in buffer_table journal buffer 2

abbrev pub does_wrap : Journal → (buffer : ℕ) → Bool
does_wrap journal buffer = nat_eq (number_in buffer_table journal buffer 4) 2

abbrev pub slice_of : Journal → (buffer : ℕ) → ℕ
slice_of journal buffer = number_in buffer_table journal buffer 5

-- a size, or another one where it is 0, which stands for all
abbrev pub all_or : (all size : ℕ) → ℕ
all_or all size = if nat_eq size 0 then all else size

-- the octets that are granted, by those requested and the size of a slice: room for one packet at least
abbrev pub granted_for : (slice : ℕ) → Val → ℕ
granted_for slice (int (pos requested)) = max (all_or 262144 slice + 32) (min requested 1048576)
granted_for slice other = 1048576

abbrev pub granted_of : Journal → (buffer : ℕ) → ℕ
granted_of journal buffer = granted_for (slice_of journal buffer) (value_of buffer_table no_rows journal (buffer ∷ []) 8)

-- how many octets of a frame are stored, and what a packet costs
abbrev pub stored_size : (slice : ℕ) → Frame → ℕ
stored_size slice frame = min (all_or (length frame.octets) slice) (length frame.octets)

abbrev pub cost_of : (slice : ℕ) → Frame → ℕ
cost_of slice frame = stored_size slice frame + 32

-- whether a buffer accepts a frame: its channel is one of those that are on and accept it
abbrev pub captures : Counting → (buffer : ℕ) → Seen → Bool
captures settings buffer seen =
    is_one_of (accepting settings seen.frame seen.before (fired settings seen.before)) (channel_captured seen.before buffer)

-- a packet: a frame that was accepted, and its number among those accepted
pub record Packet : Type 0 where
  pub number : ℕ
  pub frame : Frame

-- frames as packets, numbered from 1, the newest first
abbrev pub numbered : List Frame → List Packet
numbered [] = []
numbered (frame ∷ earlier) = record { number = length earlier + 1; frame = frame } ∷ numbered earlier

-- the packets that a buffer accepted since it became valid, the newest first
abbrev pub accepted_by : Counting → Journal → (buffer : ℕ) → List Packet
accepted_by settings journal buffer =
    numbered (map (λ seen. seen.frame) (filter (captures settings buffer) (seen_since buffer_table no_rows journal (buffer ∷ []))))

-- the longest front of some packets whose cost is at most a number
abbrev pub longest_front : (cost : Packet → ℕ) → (most : ℕ) → List Packet → List Packet
longest_front cost most [] = []
longest_front cost most (packet ∷ more) =
    if nat_le (cost packet) most then packet ∷ longest_front cost (most - cost packet) more else []

-- the packets that are kept: those accepted last where it wraps, and else those accepted first
abbrev pub kept_of : (does_wrap : Bool) → (cost : Packet → ℕ) → (most : ℕ) → List Packet → List Packet
kept_of true cost most packets = longest_front cost most packets
kept_of false cost most packets = reverse (longest_front cost most (reverse packets))

abbrev pub kept_by : Counting → Journal → (buffer : ℕ) → List Packet
kept_by settings journal buffer =
    kept_of (does_wrap journal buffer) (λ packet. cost_of (slice_of journal buffer) packet.frame) (granted_of journal buffer)
    (accepted_by settings journal buffer)

-- bufferControlFullStatus: 2 exactly where a packet that was accepted isn't kept
abbrev pub full_status : Counting → Journal → (buffer : ℕ) → ℕ
full_status settings journal buffer =
    if nat_lt (length (kept_by settings journal buffer)) (length (accepted_by settings journal buffer)) then 2 else 1

-- captureBufferTable: what a column of a packet shows that is kept
abbrev pub shown_octets : Journal → (buffer : ℕ) → Packet → List ℕ
shown_octets journal buffer packet =
    let stored = take (stored_size (slice_of journal buffer) packet.frame) packet.frame.octets in
    let from = drop (number_in buffer_table journal buffer 7) stored in
    take (all_or (length from) (number_in buffer_table journal buffer 6)) from
