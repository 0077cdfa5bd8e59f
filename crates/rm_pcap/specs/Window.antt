-- What the window of a capture has of its records.
use Rattle.std.specs.Prelude.{◌≡◌, ◌≤◌, ◌+◌, length, Option, Some}
use Rattle.rm_window.specs.declared.window.Window.{Window}
use Rattle.rm_window.specs.Window.{octets_of, kept_of}
use Rattle.rm_pcap.specs.declared.record.Record.{Record}
use Rattle.rm_pcap.specs.declared.record.Seen.{Seen}
use Rattle.rm_pcap.specs.declared.record.Seen.TheVariants.{Whole as SeenWhole, End as SeenEnd, Cut as SeenCut}

-- a record that was seen, if one was, is whole in the window
abbrev pub IsHeld : Window → Option Seen → Type 0
IsHeld window seen = (whole : Record) → seen ≡ Some (SeenWhole whole) → 16 + whole.included ≤ length (octets_of window)

-- the octets of a record were passed
abbrev pub IsPassed : Window → Seen → Type 0
IsPassed window (SeenWhole seen) = seen.included ≤ kept_of window
IsPassed window SeenEnd = Unit {0}
IsPassed window SeenCut = Unit {0}
