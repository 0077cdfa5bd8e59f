-- The captures of a run are judged in two rounds, in each one by one in order of their interfaces: in the first the file header of each and the
-- lengths of its first record, in the second the whole of each.
use Rattle.std.specs.Prelude.{◌≡◌, ◌⊎◌, ℕ, ◌+◌, min, List, [], ◌∷◌, Option, Some, None, Result, Ok, Err, ⊤}
use Rattle.rm_model.specs.Journal.{Frame}
use Rattle.rm_pcap.specs.declared.fault.PcapFault.{PcapFault}
use Rattle.rm_pcap.specs.declared.form.Form.{Form}
use Rattle.rm_pcap.specs.declared.start.Start.{Start}
use Rattle.rm_pcap.specs.Header.{header_of}
use Rattle.rm_pcap.specs.Records.{Stop, Ended, Broken, ReadsAs}
use Rattle.rm_pcap.specs.First.{first_of}
use Rattle.rm_captures.specs.Merge.{merge}
use Rattle.rm_captures.specs.declared.fault.CaptureFault.{CaptureFault}

-- where the frames of one of the captures stand: on its interface, and a time at the lead, once that is known
abbrev pub standing : Option ℕ → ℕ → ℕ → Start
standing base lead interface = record { interface = interface; lead = lead; base = base }

-- what the first round finds of a file, by its header: the time of its first record in nanoseconds, where that is whole, or a fault
abbrev pub first_by : Start → List ℕ → Result Form PcapFault → Result (Option ℕ) PcapFault
first_by start bytes (Ok form) = first_of form start bytes
first_by start bytes (Err fault) = Err fault

abbrev pub first_found : ℕ → ℕ → List ℕ → Result (Option ℕ) PcapFault
first_found lead interface bytes = first_by (standing None lead interface) bytes (header_of bytes)

-- the lesser of two times, where there are both
abbrev pub earlier : Option ℕ → Option ℕ → Option ℕ
earlier None other = other
earlier (Some time) None = Some time
earlier (Some time) (Some other) = Some (min time other)

-- what the first round finds of a file and of those behind it: the first fault, or the least time
abbrev pub with_others : ℕ → Result (Option ℕ) PcapFault → Result (Option ℕ) CaptureFault → Result (Option ℕ) CaptureFault
with_others interface (Err fault) others = Err (record { interface = interface; fault = fault })
with_others interface (Ok time) (Err found) = Err found
with_others interface (Ok time) (Ok other) = Ok (earlier time other)

-- What the first round finds of files, whose interfaces are those from a number on: the first fault, or the least time of a first record, which
-- is the time that stands at the lead; nothing where no file has a whole record.
unfoldable pub first_round : ℕ → ℕ → List (List ℕ) → Result (Option ℕ) CaptureFault
first_round lead interface [] = Ok None
first_round lead interface (bytes ∷ more) = with_others interface (first_found lead interface bytes) (first_round lead (interface + 1) more)

-- the records stop at the end of the file, or where it cuts one short
abbrev pub IsFaultless : Stop → Type 0
IsFaultless (Broken fault) = ⊥
IsFaultless stop = ⊤

-- the file is a capture
abbrev pub IsGood : Start → List ℕ → Type 0
IsGood start bytes = (frames : List Frame) × (stop : Stop) × ReadsAs start bytes frames stop × IsFaultless stop

-- the file isn't, and its first fault is this one
abbrev pub IsBroken : Start → List ℕ → PcapFault → Type 0
IsBroken start bytes fault = (frames : List Frame) × ReadsAs start bytes frames (Broken fault)

-- the first fault that the second round finds of these files
unfoldable pub IsLater : Option ℕ → ℕ → ℕ → List (List ℕ) → CaptureFault → Type 0
IsLater base lead interface [] found = ⊥
IsLater base lead interface (bytes ∷ more) found =
    ((found.interface ≡ interface) × IsBroken (standing base lead interface) bytes found.fault)
    ⊎ (IsGood (standing base lead interface) bytes × IsLater base lead (interface + 1) more found)

-- the first fault of the captures: that of the first round, or, where that finds none, that of the second
pub data IsFirstFault (lead : ℕ) (files : List (List ℕ)) (found : CaptureFault) : Type 0 where
  early : first_round lead 1 files ≡ Err found → IsFirstFault lead files found
  late : (base : Option ℕ) → first_round lead 1 files ≡ Ok base → IsLater base lead 1 files found → IsFirstFault lead files found

-- how the records of two captures stop together: cut short where those of one are
abbrev pub either_stop : Stop → Stop → Stop
either_stop Ended other = other
either_stop stop other = stop

-- these files are captures, and their frames in one order are these; their records stop so together
unfoldable pub AreRead : Option ℕ → ℕ → ℕ → List (List ℕ) → List Frame → Stop → Type 0
AreRead base lead interface [] frames stop = (frames ≡ []) × (stop ≡ Ended)
AreRead base lead interface (bytes ∷ more) frames stop =
    (own others : List Frame) × (end rest : Stop) × ReadsAs (standing base lead interface) bytes own end × IsFaultless end
    × AreRead base lead (interface + 1) more others rest × (frames ≡ merge own others) × (stop ≡ either_stop end rest)

-- The files are captures, of the interfaces from 1 on: neither round finds a fault. These are their frames in one order, and their records stop so
-- together. The time that stands at the lead is the least one of a first record.
pub record AreCaptures (lead : ℕ) (files : List (List ℕ)) (frames : List Frame) (stop : Stop) : Type 0 where
  pub base : Option ℕ
  pub begins : first_round lead 1 files ≡ Ok base
  pub read : AreRead base lead 1 files frames stop

-- the files are captures
abbrev pub AreCaptureFiles : ℕ → List (List ℕ) → Type 0
AreCaptureFiles lead files = (frames : List Frame) × (stop : Stop) × AreCaptures lead files frames stop
