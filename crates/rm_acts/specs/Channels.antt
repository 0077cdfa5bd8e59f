-- The control table of channels (RFC 1757, section 5), and the frames that a channel accepts.
use Rattle.std.specs.Prelude.{ℕ, pos, List, [], ◌∷◌, length, Bool, ◌&&◌, not, nat_eq, if◌then◌else◌, filter}
use Rattle.std.specs.List.{list_any}
use Rattle.rm_val.specs.Val.{int}
use Rattle.rm_model.specs.Counting.{Counting}
use Rattle.rm_model.specs.Journal.{Frame, Journal}
use Rattle.rm_model.specs.ControlTable.{Column, ControlTable, number, up_from, plain_column, always_column, text_column, owner_column, entry_table}
use Rattle.rm_model.specs.ControlRows.{no_rows}
use Rattle.rm_model.specs.declared.interface.TheConstants.{INTERFACES}
use Rattle.rm_acts.specs.Rows.{number_in, valid_rows}
use Rattle.rm_acts.specs.Seen.{seen_since}
use Rattle.rm_acts.specs.Filters.{filter_table, channel_of, matches}

abbrev pub channel_entry : List ℕ
channel_entry = 1 ∷ 3 ∷ 6 ∷ 1 ∷ 2 ∷ 1 ∷ 16 ∷ 7 ∷ 2 ∷ 1 ∷ []

-- a column with the index of an event, 0 for none
abbrev pub event_column : ℕ → Column
event_column column = plain_column column (number (up_from 0 65535)) (int (pos 0))

-- channelIfIndex, channelAcceptType, channelDataControl, channelTurnOnEventIndex, channelTurnOffEventIndex, channelEventIndex,
-- channelEventStatus, channelDescription, channelOwner
abbrev pub channel_table : ControlTable
channel_table =
    entry_table channel_entry 12
    (plain_column 2 (number (up_from 1 INTERFACES)) (int (pos 1))
    ∷ plain_column 3 (number (up_from 1 2)) (int (pos 1))
    ∷ always_column 4 (number (up_from 1 2)) (int (pos 2))
    ∷ event_column 5 ∷ event_column 6 ∷ event_column 7
    ∷ always_column 8 (number (up_from 1 3)) (int (pos 1))
    ∷ text_column 10 ∷ owner_column 11 ∷ [])

-- the interface whose frames it judges, how it accepts, which events turn it on and off, and the one that it fires
abbrev pub interface_of : Journal → (channel : ℕ) → ℕ
interface_of journal channel = number_in channel_table journal channel 2

abbrev pub accepts_matched : Journal → (channel : ℕ) → Bool
accepts_matched journal channel = nat_eq (number_in channel_table journal channel 3) 1

abbrev pub turn_on_event : Journal → (channel : ℕ) → ℕ
turn_on_event journal channel = number_in channel_table journal channel 5

abbrev pub turn_off_event : Journal → (channel : ℕ) → ℕ
turn_off_event journal channel = number_in channel_table journal channel 6

abbrev pub event_of : Journal → (channel : ℕ) → ℕ
event_of journal channel = number_in channel_table journal channel 7

-- whether a valid filter of a channel matches a frame
abbrev pub is_matched : Counting → Journal → (channel : ℕ) → Frame → Bool
is_matched settings journal channel frame =
    list_any (λ each. nat_eq (channel_of journal each) channel && matches settings journal each frame) (valid_rows filter_table journal)

-- Whether a channel accepts a frame of its interface after a journal: of acceptType 1 where a valid filter of it matches, of 2
-- where none does.
abbrev pub accepts : Counting → Journal → (channel : ℕ) → Frame → Bool
accepts settings journal channel frame =
    let matched = is_matched settings journal channel frame in
    nat_eq frame.interface (interface_of journal channel) && (if accepts_matched journal channel then matched else not matched)

-- channelMatches: the frames since it became valid that it accepted, each by what was set when the frame came
abbrev pub match_count : Counting → Journal → (channel : ℕ) → ℕ
match_count settings journal channel =
    length (filter (λ seen. accepts settings seen.before channel seen.frame) (seen_since channel_table no_rows journal (channel ∷ [])))
