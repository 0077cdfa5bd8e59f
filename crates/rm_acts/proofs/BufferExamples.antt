-- Capture buffers, worked out by hand.
use Rattle.std.proofs.Common.{◌≡◌, ℕ, List, [], ◌∷◌, ◌++◌, Some, refl}
use Rattle.std.specs.Prelude.{pos, map, replicate}
use Rattle.rm_model.specs.Journal.{Act, passes, assigns, samples, Journal}
use Rattle.rm_acts.specs.Alarms.{alarm_entry}
use Rattle.rm_acts.specs.Events.{event_entry}
use Rattle.rm_acts.specs.Channels.{channel_entry}
use Rattle.rm_acts.specs.Buffers.{Packet, buffer_entry, kept_by, full_status, granted_of}
use Rattle.rm_acts.proofs.ExampleActs.{pkts, settings, number, frame_at, frames_at, alarm_made}

-- a frame of 200 octets
abbrev long_at : (moment number : ℕ) → Act
long_at moment number = passes (record { interface = 1; moment = moment; number = number; octets = replicate 200 0; original = 200 })

-- A buffer of channel 1 with 264 octets requested and slices of 100, which locks or wraps; channel 1 is on and accepts all.
abbrev buffer : (action : ℕ) → Journal
buffer action =
    assigns 1000 (number channel_entry 1 12 1 ∷ number buffer_entry 1 13 1 ∷ [])
    ∷ assigns 1000 (
    number channel_entry 1 3 2 ∷ number channel_entry 1 4 1 ∷ number channel_entry 1 12 2
    ∷ number buffer_entry 1 2 1 ∷ number buffer_entry 1 4 action ∷ number buffer_entry 1 8 264 ∷ number buffer_entry 1 13 2 ∷ []
    )
    ∷ []

abbrev filled : (action : ℕ) → Journal
filled action = long_at 1300 3 ∷ long_at 1200 2 ∷ long_at 1100 1 ∷ buffer action

abbrev numbers : List Packet → List ℕ
numbers packets = map (λ packet. packet.number) packets

granted : granted_of (filled 2) 1 ≡ 264
granted = refl

wraps : numbers (kept_by settings (filled 2) 1) ≡ 3 ∷ 2 ∷ []
wraps = refl

locks : numbers (kept_by settings (filled 1) 1) ≡ 2 ∷ 1 ∷ []
locks = refl

full : (full_status settings (filled 2) 1 ≡ 2) × (full_status settings (filled 1) 1 ≡ 2)
full = (refl, refl)

not_full : full_status settings (long_at 1200 2 ∷ long_at 1100 1 ∷ buffer 1) 1 ≡ 1
not_full = refl

-- An alarm at 6000 fires event 2, which turns channel 1 on: its buffer has the frame of that moment, and not the one before.
abbrev turned : Journal
turned =
    frame_at 6000 5 ∷ samples 6000 1 (Some (pos 4)) ∷ frame_at 5999 4 ∷ frames_at 5500 3
    ++ assigns 5000 (number alarm_entry 1 12 1 ∷ number channel_entry 1 12 1 ∷ number buffer_entry 1 13 1 ∷ number event_entry 2 7 1 ∷ [])
    ∷ assigns 4000 (
    alarm_made pkts 4 2 0 ++
    (number channel_entry 1 3 2 ∷ number channel_entry 1 5 2 ∷ number channel_entry 1 12 2
    ∷ number buffer_entry 1 2 1 ∷ number buffer_entry 1 13 2 ∷ number event_entry 2 7 2 ∷ [])
    )
    ∷ []

captured : map (λ packet. packet.frame.number) (kept_by settings turned 1) ≡ 5 ∷ []
captured = refl
