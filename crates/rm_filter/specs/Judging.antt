-- Which channels accept a frame, by the rows that are kept.
use Rattle.std.specs.Prelude.{◌≡◌, ◌++◌, ℕ, List, [], ◌∷◌, Bool, true, false, ◌&&◌, ◌||◌, nat_eq, if◌then◌else◌, Option, Some, None, map, filter, filter_map}
use Rattle.std.specs.List.{list_any}
use Rattle.std.specs.Option.{option_map}
use Rattle.rm_model.specs.Counting.{Counting}
use Rattle.rm_model.specs.Journal.{Act, Frame, Journal, passes, assigns, samples}
use Rattle.rm_model.specs.ControlRows.{is_valid}
use Rattle.rm_status.specs.declared.row.Row.{Row}
use Rattle.rm_acts.specs.declared.firing.Firing.{Firing}
use Rattle.rm_acts.specs.Rows.{has_valid, valid_rows}
use Rattle.rm_acts.specs.Events.{event_table}
use Rattle.rm_acts.specs.Channels.{channel_table, accepts}
use Rattle.rm_acts.specs.Fired.{fired, accepting, act_fires}
use Rattle.rm_filter.specs.declared.accepted.Accepted.{Accepted}
use Rattle.rm_filter.specs.declared.channel.Channel.{Channel}
use Rattle.rm_filter.specs.declared.data_control.DataControl.{DataControl}
use Rattle.rm_filter.specs.declared.data_control.DataControl.TheVariants.{On, Off}
use Rattle.rm_filter.specs.EventStatus.{status_number}

-- whether a channel is on
abbrev pub is_on : DataControl → Bool
is_on On = true
is_on Off = false

-- the event that it fires where it accepts a frame, if the row of that is valid: it has to be on, and ready or always ready
abbrev pub event_asked : Bool → Channel → Option ℕ
event_asked on channel =
    if on && (nat_eq (status_number channel.status) 1 || nat_eq (status_number channel.status) 3) then Some channel.set.event else None

-- a channel that accepts a frame, by its present state
abbrev pub accepted_by : Row Channel → Accepted
accepted_by row = record {
  channel = row.index;
  is_on = is_on row.columns.control;
  event = event_asked (is_on row.columns.control) row.columns;
}

-- a channel if it is valid and accepts a frame after a journal
abbrev pub judged : Counting → Journal → Frame → Row Channel → Option Accepted
judged settings journal frame row =
    if is_valid row.state && accepts settings journal row.index frame then Some (accepted_by row) else None

-- the firings by such channels, if the rows of their events are valid
abbrev pub firing_asked : Accepted → Option Firing
firing_asked accepted = option_map (λ event. record { event = event; channel = Some accepted.channel }) accepted.event

-- These are the valid channels that accept a frame after a journal, in the order of their indexes. Those that are on are such as
-- buffers keep it for, and the events that they ask for fire where their rows are valid.
pub record AreAccepting (settings : Counting) (frame : Frame) (journal : Journal) (list : List Accepted) : Type 0 where
  pub all : map (λ each. each.channel) list ≡ filter (λ channel. accepts settings journal channel frame) (valid_rows channel_table journal)
  pub on : map (λ each. each.channel) (filter (λ each. each.is_on) list) ≡ accepting settings frame journal (fired settings journal)
  pub firings : filter (λ firing. has_valid event_table journal firing.event) (filter_map firing_asked list) ≡ act_fires settings (passes frame) journal (fired settings journal)

-- so are they where an act is a frame that passes
abbrev pub AreAcceptingIn : Counting → Act → Journal → List Accepted → Type 0
AreAcceptingIn settings (passes frame) journal list = AreAccepting settings frame journal list
AreAcceptingIn settings (assigns moment values) journal list = Unit {0}
AreAcceptingIn settings (samples moment alarm reading) journal list = Unit {0}

-- whether a channel is among them
abbrev pub is_among : List Accepted → (channel : ℕ) → Bool
is_among list channel = list_any (λ each. nat_eq each.channel channel) list

-- some channels with one more, if there is one
abbrev pub with_one : List Accepted → Option Accepted → List Accepted
with_one list None = list
with_one list (Some one) = list ++ one ∷ []
