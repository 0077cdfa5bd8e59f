-- The records of a capture one by one, as a reader passes them: what stands next behind those that were passed.
use Rattle.std.specs.Prelude.{◌≡◌, ◌≤◌, ℕ, ◌+◌, ◌-◌, ◌/◌, ◌^◌, max, nat_le, nat_lt, if◌then◌else◌, List, [], ◌∷◌, length, take, drop, Bool, ◌&&◌, Option, Some, None, unwrap_or}
use Rattle.rm_model.specs.Journal.{Frame}
use Rattle.rm_pcap.specs.declared.form.Form.{Form}
use Rattle.rm_pcap.specs.declared.start.Start.{Start}
use Rattle.rm_pcap.specs.declared.reach.Reach.{Reach}
use Rattle.rm_pcap.specs.declared.fault.PcapFault.{PcapFault}
use Rattle.rm_pcap.specs.declared.fault.PcapFault.TheVariants.{Included, Original, Late, TooMany}
use Rattle.rm_pcap.specs.Records.{Stop, Ended, CutAt, Broken, time_of, included_of, original_of}

-- before the first record; no frame stands before the lead
abbrev pub beginning : Start → Reach
beginning start = record { base = start.base; last = start.lead; count = 0; at = 24 }

-- The moment of a frame at that time, in milliseconds: as long after the lead as its time is after the one that stands there, which is that of
-- the first record unless another one was given, but never before the frame that came before it.
abbrev pub moment_at : Start → Reach → ℕ → ℕ
moment_at start reach time = max reach.last (start.lead + (time - unwrap_or reach.base time) / 1000000)

-- the frame of the record whose octets come first
abbrev pub frame_at : Form → Start → Reach → List ℕ → Frame
frame_at form start reach octets = record {
  interface = start.interface;
  moment = moment_at start reach (time_of form octets);
  number = reach.count + 1;
  octets = take (included_of form octets) (drop 16 octets);
  original = max (included_of form octets) (original_of form octets);
}

-- how far the records reach with that one
abbrev pub reach_after : Form → Start → Reach → List ℕ → Reach
reach_after form start reach octets = record {
  base = Some (unwrap_or reach.base (time_of form octets));
  last = moment_at start reach (time_of form octets);
  count = reach.count + 1;
  at = reach.at + (16 + included_of form octets);
}

-- whether the moment of the record whose header comes first has more than 32 bits
unfoldable pub is_late : Form → Start → Reach → List ℕ → Bool
is_late form start reach octets = nat_le (2 ^ 32) (moment_at start reach (time_of form octets))

-- The first fault of a record's header: one record too many, a length above 262144, or a moment of more than 32 bits. The moment of the first
-- record is judged only where the record is whole: one that is cut short is no frame, and its time counts nowhere.
unfoldable pub fault_at : Form → Start → Reach → List ℕ → Option PcapFault
fault_at form start reach octets =
    if nat_le 100000000 reach.count then Some TooMany
    else if nat_lt 262144 (included_of form octets) then Some (Included (reach.at + 8))
    else if nat_lt 262144 (original_of form octets) then Some (Original (reach.at + 12))
    else if nat_lt 0 reach.count && is_late form start reach octets then Some (Late reach.at)
    else None

-- All of a record stands first in octets, and its header has no fault. Of the first record the moment may be one.
pub record IsThere (form : Form) (start : Start) (reach : Reach) (octets : List ℕ) : Type 0 where
  pub long : 16 + included_of form octets ≤ length octets
  pub faultless : fault_at form start reach octets ≡ None

-- what stands next: a whole record with its frame, and how far the records reach with it, or none
pub data Found : Type 0 where
  Whole : Frame → Reach → Found
  Stops : Stop → Found

-- what at least sixteen octets that are left are, by the fault of the header at their front
abbrev pub found_with : Form → Start → Reach → List ℕ → Option PcapFault → Found
found_with form start reach octets (Some fault) = Stops (Broken fault)
found_with form start reach octets None =
    if nat_lt (length octets) (16 + included_of form octets)
    then Stops (CutAt reach.at)
    else if is_late form start reach octets then Stops (Broken (Late reach.at))
    else Whole (frame_at form start reach octets) (reach_after form start reach octets)

-- what octets that are left are
abbrev pub found_in : Form → Start → Reach → List ℕ → Found
found_in form start reach [] = Stops Ended
found_in form start reach (octet ∷ more) =
    if nat_lt (length (octet ∷ more)) 16
    then Stops (CutAt reach.at)
    else found_with form start reach (octet ∷ more) (fault_at form start reach (octet ∷ more))

-- what stands next in a file of these octets
unfoldable pub found_at : Form → Start → Reach → List ℕ → Found
found_at form start reach bytes = found_in form start reach (drop reach.at bytes)

-- from a reach on, the file's records have these frames, and then stop so
unfoldable pub AreRecords : Form → Start → Reach → List ℕ → List Frame → Stop → Type 0
AreRecords form start reach bytes [] stop = found_at form start reach bytes ≡ Stops stop
AreRecords form start reach bytes (frame ∷ more) stop =
    (next : Reach) × (found_at form start reach bytes ≡ Whole frame next) × AreRecords form start next bytes more stop
