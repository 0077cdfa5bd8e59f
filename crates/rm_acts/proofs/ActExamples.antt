-- Alarms, events and channels after some acts, worked out by hand.
use Rattle.std.proofs.Common.{◌≡◌, ℕ, List, [], ◌∷◌, ◌++◌, true, false, Some, None, refl}
use Rattle.std.specs.Prelude.{pos, replicate}
use Rattle.rm_val.specs.Val.{name}
use Rattle.rm_model.specs.Journal.{Act, assigns, samples, Journal}
use Rattle.rm_model.specs.ControlRows.{cell_name}
use Rattle.rm_model.proofs.ExampleSettings.{plain}
use Rattle.rm_acts.specs.Alarms.{alarm_entry, alarm_value, base_of}
use Rattle.rm_acts.specs.Events.{event_entry}
use Rattle.rm_acts.specs.Channels.{channel_entry}
use Rattle.rm_acts.specs.Fired.{fired, act_fires, present, data_control}
use Rattle.rm_acts.specs.Recurring.{readings_after}
use Rattle.rm_acts.proofs.ExampleActs.{pkts, sampleable, settings, given, number, frames_at, alarm_made}

-- an alarm turns a channel on: the delta of etherStatsPkts.1 is the 10 packets since it became valid and not all 110
abbrev made : Act
made = assigns 1000 (
    alarm_made pkts 50 1 0
    ++ (number channel_entry 1 3 2 ∷ number channel_entry 1 5 1 ∷ number channel_entry 1 12 2 ∷ number event_entry 1 7 2 ∷ [])
    )

abbrev valid : Act
valid = assigns 2000 (number alarm_entry 1 12 1 ∷ number channel_entry 1 12 1 ∷ number event_entry 1 7 1 ∷ [])

abbrev at_3000 : Journal
at_3000 = frames_at 2500 10 ++ valid ∷ frames_at 1500 100 ++ made ∷ []

base : base_of settings at_3000 1 ≡ Some (record { value = pos 100; counter = true })
base = refl

value : alarm_value settings (samples 3000 1 (Some (pos 110)) ∷ at_3000) 1 ≡ pos 10
value = refl

nothing_fires : act_fires settings (samples 3000 1 (Some (pos 110))) at_3000 (fired settings at_3000) ≡ []
nothing_fires = refl

stays_off : present data_control (samples 3000 1 (Some (pos 110)) ∷ at_3000) (fired settings (samples 3000 1 (Some (pos 110)) ∷ at_3000)) 1 ≡ 2
stays_off = refl

-- Had its rising threshold been 10, the channel would be on after the sample, which a second alarm of that moment sees: it
-- samples channelDataControl.1.
abbrev switch_1 : List ℕ
switch_1 = cell_name channel_entry 4 (1 ∷ [])

abbrev made_lower : Act
made_lower = assigns 1000 (
    alarm_made pkts 10 1 0
    ++ (number channel_entry 1 3 2 ∷ number channel_entry 1 5 1 ∷ number channel_entry 1 12 2 ∷ number event_entry 1 7 2 ∷ [])
    )

abbrev lower_at_3000 : Journal
lower_at_3000 = frames_at 2500 10 ++ valid ∷ frames_at 1500 100 ++ made_lower ∷ []

abbrev rises : Act
rises = samples 3000 1 (Some (pos 110))

fires_event_1 : fired settings (rises ∷ valid ∷ frames_at 1500 100 ++ made_lower ∷ []) ≡ (record { event = 1; channel = None } ∷ []) ∷ replicate 102 []
fires_event_1 = refl

turned_on : present data_control (rises ∷ lower_at_3000) (fired settings (rises ∷ lower_at_3000)) 1 ≡ 1
turned_on = refl

read_off : readings_after sampleable plain lower_at_3000 3000 switch_1 ≡ Some (record { value = pos 2; counter = false })
read_off = refl

read_on : readings_after sampleable plain (rises ∷ lower_at_3000) 3000 switch_1 ≡ Some (record { value = pos 1; counter = false })
read_on = refl

-- an alarm on channelDataControl.1 that becomes valid right after that sample has 1 as its base
abbrev made_after : Act
made_after = assigns 3000 (
    number alarm_entry 2 2 1 ∷ given alarm_entry 2 3 (name switch_1) ∷ number alarm_entry 2 4 2 ∷ number alarm_entry 2 12 2 ∷ []
    )

abbrev valid_after : Act
valid_after = assigns 3000 (number alarm_entry 2 12 1 ∷ [])

base_of_switch : base_of settings (valid_after ∷ made_after ∷ rises ∷ lower_at_3000) 2 ≡ Some (record { value = pos 1; counter = false })
base_of_switch = refl

-- So it is where the first alarm's rising threshold is 50: its value is 10, the channel stays off, and the second alarm's base is 2.
-- Were the readings of the first alarm's base left out, its value would be 110, and the second alarm's base 1.
base_of_switch_off : base_of settings (valid_after ∷ made_after ∷ rises ∷ at_3000) 2 ≡ Some (record { value = pos 2; counter = false })
base_of_switch_off = refl
