-- Which events fire, and what becomes of channels by it (RFC 1757, section 5). The firings of each act follow from the state
-- before it, and that from the firings of the acts before. So they are one recursion, act by act, and all else is read off a
-- journal and its firings.
use Rattle.std.specs.Prelude.{ℕ, List, [], ◌∷◌, ◌++◌, map, filter, Bool, true, false, ◌&&◌, ◌||◌, nat_eq, if◌then◌else◌, Some, None}
use Rattle.std.specs.Option.{option_map_or}
use Rattle.rm_val.specs.Contents.{natural_in}
use Rattle.rm_model.specs.Counting.{Counting}
use Rattle.rm_model.specs.Journal.{Act, Frame, Journal, passes, assigns, samples, moment_of, value_given}
use Rattle.rm_model.specs.ControlTable.{default_of}
use Rattle.rm_model.specs.ControlRows.{no_rows, is_absent, cell_name, stays_valid}
use Rattle.rm_acts.specs.Alarms.{sampled}
use Rattle.rm_acts.specs.declared.firing.Firing.{Firing}
use Rattle.rm_acts.specs.Rows.{row_state, has_valid, valid_rows}
use Rattle.rm_acts.specs.Events.{event_table, event_asked}
use Rattle.rm_acts.specs.Channels.{channel_entry, channel_table, turn_on_event, turn_off_event, event_of, accepts}

-- whether an act is a Set, which fires no event
abbrev pub is_set : Act → Bool
is_set (assigns moment values) = true
is_set (passes frame) = false
is_set (samples moment alarm reading) = false

-- the firings of each act of a journal, in the order in which they come, the newest act's first
abbrev pub Fired : Type 0
Fired = List (List Firing)

-- the firings of the newest act, and those of the acts before it
abbrev pub of_newest : Fired → List Firing
of_newest [] = []
of_newest (some ∷ earlier) = some

abbrev pub of_earlier : Fired → Fired
of_earlier [] = []
of_earlier (some ∷ earlier) = earlier

-- a column of a channel that can be set and that firings change: its number, and what a firing makes of it, by the rows
-- that there are
pub record Turned : Type 0 where
  pub column : ℕ
  pub by : Journal → (channel : ℕ) → Firing → ℕ → ℕ

-- what firings make of it, one after the other
abbrev pub turned_by : Turned → Journal → (channel : ℕ) → List Firing → ℕ → ℕ
turned_by turned journal channel [] value = value
turned_by turned journal channel (firing ∷ more) value = turned_by turned journal channel more (turned.by journal channel firing value)

-- its default, and what a Set makes of it: what it gives, and in a row that it makes the default
abbrev pub unset : Turned → ℕ
unset turned = natural_in (default_of channel_table turned.column)

abbrev pub set_by : Turned → Act → Journal → (channel : ℕ) → ℕ → ℕ
set_by turned (passes frame) earlier channel value = value
set_by turned (samples moment alarm reading) earlier channel value = value
set_by turned (assigns moment values) earlier channel value =
    option_map_or natural_in (value_given values (cell_name channel_entry turned.column (channel ∷ [])))
    (if is_absent (row_state channel_table earlier channel) then unset turned else value)

-- Its value after a journal with these firings: what it was last set to since the row was made, changed by each later firing.
abbrev pub present : Turned → Journal → Fired → (channel : ℕ) → ℕ
present turned [] fired channel = unset turned
present turned (act ∷ earlier) fired channel =
    turned_by turned earlier channel (of_newest fired) (set_by turned act earlier channel (present turned earlier (of_earlier fired) channel))

-- channelDataControl, 1 on or 2 off: while the row is valid, off becomes on by its turn-on event, and on becomes off by its
-- turn-off event
abbrev pub switched : Journal → (channel : ℕ) → Firing → ℕ → ℕ
switched journal channel firing value =
    if has_valid channel_table journal channel && (nat_eq value 2 && nat_eq firing.event (turn_on_event journal channel)) then 1
    else if has_valid channel_table journal channel && (nat_eq value 1 && nat_eq firing.event (turn_off_event journal channel)) then 2
    else value

abbrev pub data_control : Turned
data_control = record { column = 4; by = switched }

-- whether a firing is by a channel
abbrev pub is_by : (channel : ℕ) → Firing → Bool
is_by channel firing = option_map_or (λ other. nat_eq other channel) firing.channel false

-- channelEventStatus, 1 ready, 2 fired or 3 always ready: ready becomes fired by a firing of this channel
abbrev pub spent : Journal → (channel : ℕ) → Firing → ℕ → ℕ
spent journal channel firing value = if is_by channel firing && nat_eq value 1 then 2 else value

abbrev pub event_status : Turned
event_status = record { column = 8; by = spent }

-- whether a channel is on
abbrev pub is_on : Journal → Fired → (channel : ℕ) → Bool
is_on journal fired channel = nat_eq (present data_control journal fired channel) 1

-- The valid channels that are on and accept a frame, in the order of their indexes. All judge the frame before any fires.
abbrev pub accepting : Counting → Frame → Journal → Fired → List ℕ
accepting settings frame journal fired =
    filter (λ channel. is_on journal fired channel && accepts settings journal channel frame) (valid_rows channel_table journal)

-- whether a channel that is one of these fires its event: it is ready or always ready, and the event is valid
abbrev pub is_ready : Journal → Fired → (channel : ℕ) → Bool
is_ready journal fired channel =
    nat_eq (present event_status journal fired channel) 1 || nat_eq (present event_status journal fired channel) 3

abbrev pub may_fire : Journal → Fired → (channel : ℕ) → Bool
may_fire journal fired channel = is_ready journal fired channel && has_valid event_table journal (event_of journal channel)

-- the firing by a channel, and the one that a sample asks for, if that event is valid
abbrev pub by_channel : Journal → (channel : ℕ) → Firing
by_channel journal channel = record { event = event_of journal channel; channel = Some channel }

abbrev pub by_sample : Journal → (event : ℕ) → List Firing
by_sample journal event = if has_valid event_table journal event then record { event = event; channel = None } ∷ [] else []

-- The firings of an act, by the journal before it and the firings of that. A frame fires in the order of the channels' indexes.
abbrev pub act_fires : Counting → Act → Journal → Fired → List Firing
act_fires settings (passes frame) earlier before =
    map (by_channel earlier) (filter (may_fire earlier before) (accepting settings frame earlier before))
act_fires settings (assigns moment values) earlier before = []
act_fires settings (samples moment alarm reading) earlier before =
    by_sample earlier (event_asked earlier alarm (sampled settings earlier moment alarm reading))

-- the firings of each act of a journal
abbrev pub fired : Counting → Journal → Fired
fired settings [] = []
fired settings (act ∷ earlier) = act_fires settings act earlier (fired settings earlier) ∷ fired settings earlier

-- a moment, as often as an event is among some firings
abbrev pub moments_in : (moment event : ℕ) → List Firing → List ℕ
moments_in moment event some = map (λ each. moment) (filter (λ firing. nat_eq firing.event event) some)

-- The moments at which an event has fired, by those before an act and what the act has fired: an event fires only while its row is
-- valid, and begins anew where that becomes valid.
abbrev pub firings_with : Act → Journal → (event : ℕ) → (some : List Firing) → (before : List ℕ) → List ℕ
firings_with act earlier event some before =
    if stays_valid event_table no_rows act earlier (event ∷ []) then moments_in (moment_of act) event some ++ before else []

-- The moments at which it fired since its row became valid, the newest first, by a journal and its firings.
abbrev pub firings_of : Journal → Fired → (event : ℕ) → List ℕ
firings_of [] fired event = []
firings_of (act ∷ earlier) fired event = firings_with act earlier event (of_newest fired) (firings_of earlier (of_earlier fired) event)

-- the same by a journal
abbrev pub firings : Counting → Journal → (event : ℕ) → List ℕ
firings settings journal event = firings_of journal (fired settings journal) event
