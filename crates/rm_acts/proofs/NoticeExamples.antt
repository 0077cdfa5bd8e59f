-- An alarm that crosses both thresholds, worked out by hand.
use Rattle.std.proofs.Common.{◌≡◌, [], ◌∷◌, ◌++◌, Some, refl}
use Rattle.std.specs.Prelude.{pos}
use Rattle.rm_val.specs.Val.{name}
use Rattle.rm_model.specs.Journal.{assigns, samples, Journal}
use Rattle.rm_acts.specs.Alarms.{alarm_entry}
use Rattle.rm_acts.specs.Events.{event_entry}
use Rattle.rm_acts.specs.Fired.{fired, firings_of}
use Rattle.rm_acts.proofs.ExampleActs.{pkts, settings, given, number, frames_at}

-- The delta of etherStatsPkts.1 each second, rising 10, falling 5, startup alarm falling, both events 1, from 2000 on: 12, 7, 11,
-- 5 and 10 frames come.
abbrev five : Journal
five =
    samples 7000 1 (Some (pos 45)) ∷ frames_at 6500 10 ++ samples 6000 1 (Some (pos 35)) ∷ frames_at 5500 5
    ++ samples 5000 1 (Some (pos 30)) ∷ frames_at 4500 11 ++ samples 4000 1 (Some (pos 19)) ∷ frames_at 3500 7
    ++ samples 3000 1 (Some (pos 12)) ∷ frames_at 2500 12
    ++ assigns 2000 (number alarm_entry 1 12 1 ∷ number event_entry 1 7 1 ∷ [])
    ∷ assigns 1900 (
    number alarm_entry 1 2 1 ∷ given alarm_entry 1 3 (name pkts) ∷ number alarm_entry 1 4 2 ∷ number alarm_entry 1 6 2
    ∷ number alarm_entry 1 7 10 ∷ number alarm_entry 1 8 5 ∷ number alarm_entry 1 9 1 ∷ number alarm_entry 1 10 1
    ∷ number alarm_entry 1 12 2 ∷ number event_entry 1 3 3 ∷ number event_entry 1 7 2 ∷ []
    )
    ∷ []

firings : firings_of five (fired settings five) 1 ≡ 7000 ∷ 6000 ∷ 5000 ∷ []
firings = refl
