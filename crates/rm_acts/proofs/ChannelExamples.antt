-- Channels that fire and are turned, worked out by hand.
use Rattle.std.proofs.Common.{◌≡◌, ℕ, List, [], ◌∷◌, ◌++◌, true, false, Some, refl}
use Rattle.std.specs.Prelude.{length}
use Rattle.rm_val.specs.Val.{octets}
use Rattle.rm_proto.specs.Ethernet.{is_tagged}
use Rattle.rm_model.specs.Journal.{Assignment, Frame, assigns, Journal}
use Rattle.rm_acts.specs.Events.{event_entry}
use Rattle.rm_acts.specs.Filters.{filter_entry}
use Rattle.rm_acts.specs.Channels.{channel_entry, match_count, accepts}
use Rattle.rm_acts.specs.Fired.{Turned, fired, of_newest, present, data_control, event_status, firings_of}
use Rattle.rm_acts.proofs.ExampleActs.{settings, given, number, frame_at, frames_at}

abbrev value_of : Turned → Journal → (channel : ℕ) → ℕ
value_of turned journal channel = present turned journal (fired settings journal) channel

-- A channel that accepts all, with these columns, under creation; and one event under creation.
abbrev channel_made : (channel : ℕ) → (control turn_on turn_off event status : ℕ) → List Assignment
channel_made channel control turn_on turn_off event status =
    number channel_entry channel 3 2 ∷ number channel_entry channel 4 control ∷ number channel_entry channel 5 turn_on
    ∷ number channel_entry channel 6 turn_off ∷ number channel_entry channel 7 event ∷ number channel_entry channel 8 status
    ∷ number channel_entry channel 12 2 ∷ []

-- a channel that is on, whose event isn't valid, fires nothing: its event status stays ready, and it counts the frame
abbrev lacking : Journal
lacking =
    frame_at 1500 1 ∷ assigns 1000 (number channel_entry 1 12 1 ∷ [])
    ∷ assigns 1000 (channel_made 1 1 0 0 1 1 ++ number event_entry 1 7 2 ∷ []) ∷ []

lacking_fires : of_newest (fired settings lacking) ≡ []
lacking_fires = refl

lacking_is_ready : value_of event_status lacking 1 ≡ 1
lacking_is_ready = refl

lacking_counts : match_count settings lacking 1 ≡ 1
lacking_counts = refl

-- where the event is valid, it fires once, and is ready again where that is set
abbrev having : Journal
having =
    assigns 1000 (number channel_entry 1 12 1 ∷ number event_entry 1 7 1 ∷ [])
    ∷ assigns 1000 (channel_made 1 1 0 0 1 1 ++ number event_entry 1 7 2 ∷ []) ∷ []

by_channel_1 : of_newest (fired settings (frame_at 1500 1 ∷ having)) ≡ record { event = 1; channel = Some 1 } ∷ []
by_channel_1 = refl

spent : value_of event_status (frame_at 1500 1 ∷ having) 1 ≡ 2
spent = refl

once : firings_of (frames_at 1500 3 ++ having) (fired settings (frames_at 1500 3 ++ having)) 1 ≡ 1500 ∷ []
once = refl

abbrev made_ready : Journal
made_ready = frame_at 1700 4 ∷ assigns 1600 (number channel_entry 1 8 1 ∷ []) ∷ frames_at 1500 3 ++ having

again : firings_of made_ready (fired settings made_ready) 1 ≡ 1700 ∷ 1500 ∷ []
again = refl

-- one that is always ready fires for each of 33 frames
abbrev always : Journal
always =
    frames_at 1500 33 ++ assigns 1000 (number channel_entry 1 12 1 ∷ number event_entry 1 7 1 ∷ [])
    ∷ assigns 1000 (channel_made 1 1 0 0 1 3 ++ number event_entry 1 3 2 ∷ number event_entry 1 7 2 ∷ []) ∷ []

fires_33 : length (firings_of always (fired settings always) 1) ≡ 33
fires_33 = refl

always_ready : value_of event_status always 1 ≡ 3
always_ready = refl

-- An event that turns a channel on and off: each firing turns it. Channel 1 fires it while it is on, and channel 2 for each frame.
abbrev toggling : Journal
toggling =
    assigns 1000 (number channel_entry 1 12 1 ∷ number channel_entry 2 12 1 ∷ number event_entry 1 7 1 ∷ [])
    ∷ assigns 1000 (channel_made 1 2 1 1 1 3 ++ channel_made 2 1 0 0 1 3 ++ number event_entry 1 7 2 ∷ []) ∷ []

-- off: channel 2 alone fires
first_frame : of_newest (fired settings (frame_at 1100 1 ∷ toggling)) ≡ record { event = 1; channel = Some 2 } ∷ []
first_frame = refl

is_on_then : value_of data_control (frame_at 1100 1 ∷ toggling) 1 ≡ 1
is_on_then = refl

-- on: both fire, in the order of their indexes, and the channel is turned twice
second_frame : of_newest (fired settings (frames_at 1100 2 ++ toggling)) ≡ record { event = 1; channel = Some 1 } ∷ record { event = 1; channel = Some 2 } ∷ []
second_frame = refl

is_on_still : value_of data_control (frames_at 1100 2 ++ toggling) 1 ≡ 1
is_on_still = refl

-- Channel 1's event turns itself and channel 2 off: channel 2 judged the frame while it was on, and fires its own event for it.
abbrev silencing : Journal
silencing =
    assigns 1000 (number channel_entry 1 12 1 ∷ number channel_entry 2 12 1 ∷ number event_entry 1 7 1 ∷ number event_entry 2 7 1 ∷ [])
    ∷ assigns 1000 (channel_made 1 1 0 1 1 1 ++ channel_made 2 1 0 1 2 1 ++ number event_entry 1 7 2 ∷ number event_entry 2 7 2 ∷ []) ∷ []

both_fire : of_newest (fired settings (frame_at 1100 1 ∷ silencing)) ≡ record { event = 1; channel = Some 1 } ∷ record { event = 2; channel = Some 2 } ∷ []
both_fire = refl

both_off : (value_of data_control (frame_at 1100 1 ∷ silencing) 1 ≡ 2) × (value_of data_control (frame_at 1100 1 ∷ silencing) 2 ≡ 2)
both_off = (refl, refl)

none_fires : of_newest (fired settings (frames_at 1100 2 ++ silencing)) ≡ []
none_fires = refl

-- A filter of channel 1, made valid between two frames: a channel of acceptType 2 counts the first and not the second, though
-- both are judged afterwards.
abbrev filtered : Journal
filtered =
    frame_at 1300 2 ∷ assigns 1200 (number filter_entry 1 11 1 ∷ []) ∷ assigns 1200 (number filter_entry 1 2 1 ∷ number filter_entry 1 11 2 ∷ [])
    ∷ frame_at 1100 1 ∷ having

counted : match_count settings filtered 1 ≡ 1
unfolding is_tagged
counted = refl

-- a row that was removed and made anew has the defaults of both columns
abbrev made_anew : Journal
made_anew =
    assigns 1700 (number channel_entry 1 12 2 ∷ []) ∷ assigns 1600 (number channel_entry 1 12 4 ∷ []) ∷ frame_at 1500 1 ∷ having

anew : (value_of data_control made_anew 1 ≡ 2) × (value_of event_status made_anew 1 ≡ 1)
anew = (refl, refl)

-- The data test and the status test on frames: PktData 0102 with not-mask 00ff; PktStatus 1 with mask 1, so that only frames
-- match that are longer than good ones.
abbrev filters : Journal
filters =
    assigns 1000 (number filter_entry 1 11 1 ∷ number filter_entry 2 11 1 ∷ [])
    ∷ assigns 1000 (
    number filter_entry 1 2 1 ∷ given filter_entry 1 4 (octets (1 ∷ 2 ∷ [])) ∷ given filter_entry 1 6 (octets (0 ∷ 255 ∷ [])) ∷ number filter_entry 1 11 2
    ∷ number filter_entry 2 2 2 ∷ number filter_entry 2 7 1 ∷ number filter_entry 2 8 1 ∷ number filter_entry 2 11 2 ∷ []
    )
    ∷ []

abbrev seen : List ℕ → ℕ → Frame
seen bytes original = record { interface = 1; moment = 2000; number = 1; octets = bytes; original = original }

matching : (accepts settings filters 1 (seen (1 ∷ 3 ∷ []) 60) ≡ true) × (accepts settings filters 1 (seen (1 ∷ 2 ∷ []) 60) ≡ false)
    × (accepts settings filters 1 (seen (2 ∷ 3 ∷ []) 60) ≡ false) × (accepts settings filters 1 (seen (1 ∷ []) 60) ≡ false)
unfolding is_tagged
matching = (refl, refl, refl, refl)

by_status : (accepts settings filters 2 (seen [] 1515) ≡ true) × (accepts settings filters 2 (seen [] 1514) ≡ false)
unfolding is_tagged
by_status = (refl, refl)

-- Event 1 of channel 1 turns channel 3 on, and event 2 of channel 2 turns it off: it is off after a frame for which both fire, since
-- channel 2 fires last.
abbrev in_order : Journal
in_order =
    assigns 1000 (
    number channel_entry 1 12 1 ∷ number channel_entry 2 12 1 ∷ number channel_entry 3 12 1 ∷ number event_entry 1 7 1 ∷ number event_entry 2 7 1 ∷ []
    )
    ∷ assigns 1000 (
    channel_made 1 1 0 0 1 1 ++ channel_made 2 1 0 0 2 1 ++ channel_made 3 2 1 2 0 1 ++ number event_entry 1 7 2 ∷ number event_entry 2 7 2 ∷ []
    )
    ∷ []

off_at_last : value_of data_control (frame_at 1100 1 ∷ in_order) 3 ≡ 2
off_at_last = refl
