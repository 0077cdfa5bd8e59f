-- What acts make of each channel that is kept.
use Rattle.std.specs.Prelude.{ℕ, ◌+◌, ◌%◌, ◌^◌, List, Bool, true, nat_eq, if◌then◌else◌}
use Rattle.rm_model.specs.ControlRows.{is_valid}
use Rattle.rm_model.specs.declared.row.State.{State}
use Rattle.rm_acts.specs.declared.firing.Firing.{Firing}
use Rattle.rm_acts.specs.Fired.{is_by}
use Rattle.rm_filter.specs.declared.accepted.Accepted.{Accepted}
use Rattle.rm_filter.specs.declared.channel.Channel.{Channel}
use Rattle.rm_filter.specs.declared.channel_row.ChannelRow.{ChannelRow}
use Rattle.rm_filter.specs.declared.data_control.DataControl.{DataControl}
use Rattle.rm_filter.specs.declared.data_control.DataControl.TheVariants.{On, Off}
use Rattle.rm_filter.specs.declared.event_status.EventStatus.{EventStatus}
use Rattle.rm_filter.specs.declared.event_status.EventStatus.TheVariants.{Ready, Fired}
use Rattle.rm_filter.specs.Judging.{is_among}

-- a Set: one that isn't valid has accepted nothing
abbrev pub resting : State → Channel → Channel
resting state channel = if is_valid state then channel else record channel { matches = 0 }

-- a frame that these channels accept
abbrev pub counting : List Accepted → (index : ℕ) → Channel → Channel
counting accepting index channel =
    if is_among accepting index then record channel { matches = (channel.matches + 1) % 2 ^ 32 } else channel

-- what an event turns a channel to that is on or off, by what its columns were set to
abbrev pub turned : ChannelRow → DataControl → (event : ℕ) → DataControl
turned set Off event = if nat_eq event set.turn_on_event then On else Off
turned set On event = if nat_eq event set.turn_off_event then Off else On

-- what becomes of the status of a channel where an event fires, by it or not
abbrev pub status_after : EventStatus → Bool → EventStatus
status_after Ready true = Fired
status_after status by = status

-- a firing
abbrev pub taking : Firing → (index : ℕ) → State → Channel → Channel
taking firing index state channel = record channel {
  control = if is_valid state then turned channel.set channel.control firing.event else channel.control;
  status = status_after channel.status (is_by index firing);
}
