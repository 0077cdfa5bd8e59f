-- The control table of filters (RFC 1757, section 5), and the frames that a filter matches.
use Rattle.std.specs.Prelude.{ℕ, ◌%◌, pos, List, [], ◌∷◌, Bool, ◌&&◌, drop}
use Rattle.rm_val.specs.Val.{int, octets}
use Rattle.rm_model.specs.Counting.{Counting}
use Rattle.rm_model.specs.Journal.{Frame, Journal}
use Rattle.rm_model.specs.FrameFacts.{frame_facts}
use Rattle.rm_model.specs.ControlTable.{Column, ControlTable, number, text, up_from, plain_column, needed_column, owner_column, entry_table}
use Rattle.rm_acts.specs.Bits.{test_of, pass}
use Rattle.rm_acts.specs.Rows.{number_in, text_in}

abbrev pub filter_entry : List ℕ
filter_entry = 1 ∷ 3 ∷ 6 ∷ 1 ∷ 2 ∷ 1 ∷ 16 ∷ 7 ∷ 1 ∷ 1 ∷ []

-- a column with octets of a packet, and one with bits of a status
abbrev pub packet_column : ℕ → Column
packet_column column = plain_column column (text 128) (octets [])

abbrev pub natural_column : ℕ → Column
natural_column column = plain_column column (number (up_from 0 2147483647)) (int (pos 0))

-- filterChannelIndex, filterPktDataOffset, filterPktData, filterPktDataMask, filterPktDataNotMask, filterPktStatus,
-- filterPktStatusMask, filterPktStatusNotMask, filterOwner
abbrev pub filter_table : ControlTable
filter_table =
    entry_table filter_entry 11
    (needed_column 2 (number (up_from 1 65535)) (int (pos 0))
    ∷ natural_column 3 ∷ packet_column 4 ∷ packet_column 5 ∷ packet_column 6
    ∷ natural_column 7 ∷ natural_column 8 ∷ natural_column 9 ∷ owner_column 10 ∷ [])

-- the channel of a filter
abbrev pub channel_of : Journal → (filter : ℕ) → ℕ
channel_of journal filter = number_in filter_table journal filter 2

-- whether the captured octets of a frame pass: those from the offset on, as many as the data has
abbrev pub passes_data : Journal → (filter : ℕ) → Frame → Bool
passes_data journal filter frame =
    let text : ℕ → List ℕ = text_in filter_table journal filter in
    pass (test_of (text 4) (text 5) (text 6)) (drop (number_in filter_table journal filter 3) frame.octets)

-- whether its status passes: of each number its three lowest bits count
abbrev pub passes_status : Counting → Journal → (filter : ℕ) → Frame → Bool
passes_status settings journal filter frame =
    let bits : ℕ → ℕ = λ column. number_in filter_table journal filter column % 8 in
    pass (record { wanted = bits 7; mask = bits 8; not_mask = bits 9 } ∷ []) ((frame_facts settings frame).status ∷ [])

-- whether a filter matches a frame
abbrev pub matches : Counting → Journal → (filter : ℕ) → Frame → Bool
matches settings journal filter frame = passes_data journal filter frame && passes_status settings journal filter frame
