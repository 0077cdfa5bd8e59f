-- Acts from which examples are made.
use Rattle.std.proofs.Common.{ℕ, List, [], ◌∷◌, Some, None}
use Rattle.std.specs.Prelude.{pos, length, replicate, if◌then◌else◌}
use Rattle.std.specs.Option.{option_or}
use Rattle.std.specs.Str.{bytes_eq}
use Rattle.rm_val.specs.Val.{Val, int, name, counter}
use Rattle.rm_model.specs.Counting.{Counting}
use Rattle.rm_model.specs.Journal.{Act, Assignment, passes, Journal, frames_in}
use Rattle.rm_model.specs.Cells.{Cells, cells_of}
use Rattle.rm_model.specs.ControlRows.{cell_name}
use Rattle.rm_model.proofs.ExampleSettings.{plain}
use Rattle.rm_acts.specs.Alarms.{alarm_entry}
use Rattle.rm_acts.specs.Recurring.{Sampleable, sampling}
use Rattle.rm_acts.specs.Shown.{channels_shown, buffers_shown}

-- etherStatsPkts.1, which counts every frame, and the channels and buffers are what alarms may sample here
abbrev pub pkts : List ℕ
pkts = 1 ∷ 3 ∷ 6 ∷ 1 ∷ 2 ∷ 1 ∷ 16 ∷ 1 ∷ 1 ∷ 1 ∷ 5 ∷ 1 ∷ []

abbrev pub pkts_cell : Journal → Cells
pkts_cell journal variable = if bytes_eq variable pkts then Some (counter (length (frames_in journal))) else None

abbrev pub sampleable : Sampleable
sampleable settings journal now variable =
    option_or (pkts_cell journal variable)
    (option_or (cells_of (channels_shown settings journal) variable) (cells_of (buffers_shown settings journal) variable))

abbrev pub settings : Counting
settings = sampling sampleable plain

-- what a Set gives to a column of a row
abbrev pub given : List ℕ → (row column : ℕ) → Val → Assignment
given entry row column value = record { name = cell_name entry column (row ∷ []); value = value }

abbrev pub number : List ℕ → (row column n : ℕ) → Assignment
number entry row column n = given entry row column (int (pos n))

-- a frame of 60 octets at a moment
abbrev pub frame_at : (moment number : ℕ) → Act
frame_at moment number = passes (record { interface = 1; moment = moment; number = number; octets = replicate 60 0; original = 60 })

-- frames of one moment
abbrev pub frames_at : (moment count : ℕ) → Journal
frames_at moment count = replicate count (frame_at moment 1)

-- Alarm 1 samples a variable each second as a delta, with a rising threshold, event and falling threshold 0: made and made valid.
abbrev pub alarm_made : List ℕ → (rising rising_event falling_event : ℕ) → List Assignment
alarm_made variable rising rising_event falling_event =
    number alarm_entry 1 2 1 ∷ given alarm_entry 1 3 (name variable) ∷ number alarm_entry 1 4 2 ∷ number alarm_entry 1 6 1
    ∷ number alarm_entry 1 7 rising ∷ number alarm_entry 1 9 rising_event ∷ number alarm_entry 1 10 falling_event
    ∷ number alarm_entry 1 12 2 ∷ []
