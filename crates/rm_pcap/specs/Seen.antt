-- What stands next in a capture, as its reader keeps it: the numbers of a record, whose octets are in the window.
use Rattle.std.specs.Prelude.{◌≡◌, ◌≤◌, ◌<◌, ℕ, ◌+◌, ◌*◌, max, List, length, take, drop, Option, Some, None, unwrap_or, if◌then◌else◌}
use Rattle.rm_model.specs.Journal.{Frame as Passed}
use Rattle.rm_pcap.specs.declared.form.Form.{Form}
use Rattle.rm_pcap.specs.declared.start.Start.{Start}
use Rattle.rm_pcap.specs.declared.reach.Reach.{Reach}
use Rattle.rm_pcap.specs.declared.record.Heading.{Heading}
use Rattle.rm_pcap.specs.declared.record.Part.{Part}
use Rattle.rm_pcap.specs.declared.record.Part.TheVariants.{Whole as WholePart, End as EndPart, Cut as CutPart}
use Rattle.rm_pcap.specs.declared.record.Record.{Record}
use Rattle.rm_pcap.specs.declared.record.Seen.{Seen}
use Rattle.rm_pcap.specs.declared.record.Seen.TheVariants.{Whole as SeenWhole, End as SeenEnd, Cut as SeenCut}
use Rattle.rm_pcap.specs.Records.{Ended, CutAt, time_of, included_of, original_of}
use Rattle.rm_pcap.specs.Steps.{Found, Whole, Stops, fault_at, is_late, moment_at, reach_after}

-- the numbers of the record whose header comes first
abbrev pub record_of : Form → Start → Reach → List ℕ → Record
record_of form start reach octets =
    record { included = included_of form octets; original = max (included_of form octets) (original_of form octets); after = reach_after form start reach octets }

-- what the header that comes first says
abbrev pub heading_of : Form → Start → Reach → List ℕ → Heading
heading_of form start reach octets = record {
  included = included_of form octets;
  original = max (included_of form octets) (original_of form octets);
  base = unwrap_or reach.base (time_of form octets);
  moment = if is_late form start reach octets then None else Some (moment_at start reach (time_of form octets));
}

-- what holds of the lengths of each record behind a reach
pub record AreSound (reach : Reach) (heading : Heading) : Type 0 where
  pub captured : heading.included ≤ heading.original
  pub most : heading.original ≤ 262144
  pub few : reach.count < 100000000

-- all of a record stands in the octets of the window, whose header says this
pub record IsWholeIn (form : Form) (start : Start) (reach : Reach) (octets : List ℕ) (heading : Heading) : Type 0 where
  pub long : 16 + heading.included ≤ length octets
  pub numbers : heading ≡ heading_of form start reach octets
  pub faultless : fault_at form start reach octets ≡ None
  pub sound : AreSound reach heading

abbrev pub IsPartIn : Form → Start → Reach → List ℕ → Part → Type 0
IsPartIn form start reach octets (WholePart heading) = IsWholeIn form start reach octets heading
IsPartIn form start reach octets EndPart = Unit {0}
IsPartIn form start reach octets CutPart = Unit {0}

-- all of the record that stands first in octets
abbrev pub IsAllOf : Form → Start → Reach → List ℕ → Part → Type 0
IsAllOf form start reach octets part = part ≡ WholePart (heading_of form start reach octets)

-- all of a record stands first in the octets that are left of a file, whose header says this
pub record IsWholePart (form : Form) (start : Start) (reach : Reach) (left : List ℕ) (heading : Heading) : Type 0 where
  pub long : 16 + heading.included ≤ length left
  pub numbers : heading ≡ heading_of form start reach left
  pub faultless : fault_at form start reach left ≡ None

-- a record is cut short there, within its header or behind it
pub data IsCutPart (form : Form) (start : Start) (reach : Reach) (left : List ℕ) : Type 0 where
  within : 0 < length left → length left < 16 → IsCutPart form start reach left
  behind : 16 ≤ length left → fault_at form start reach left ≡ None → length left < 16 + included_of form left → IsCutPart form start reach left

-- what of a record stands first there
abbrev pub IsPart : Form → Start → Reach → List ℕ → Part → Type 0
IsPart form start reach left (WholePart heading) = IsWholePart form start reach left heading
IsPart form start reach left EndPart = length left ≡ 0
IsPart form start reach left CutPart = IsCutPart form start reach left

-- the frame of a record with these captured octets, on an interface
abbrev pub frame_seen : ℕ → Record → List ℕ → Passed
frame_seen interface seen captured = record {
  interface = interface;
  moment = seen.after.last;
  number = seen.after.count;
  octets = captured;
  original = seen.original;
}

-- what was seen at that reach of a capture of an interface, with the octets that stand there
abbrev pub found_of : ℕ → Reach → List ℕ → Seen → Found
found_of interface reach octets (SeenWhole seen) = Whole (frame_seen interface seen (take seen.included (drop 16 octets))) seen.after
found_of interface reach octets SeenEnd = Stops Ended
found_of interface reach octets SeenCut = Stops (CutAt reach.at)

-- a record that was seen is whole in the octets
abbrev pub IsLong : List ℕ → Seen → Type 0
IsLong octets (SeenWhole seen) = 16 + seen.included ≤ length octets
IsLong octets SeenEnd = Unit {0}
IsLong octets SeenCut = Unit {0}

-- what holds of the numbers of each record behind a reach
pub record Follows (reach : Reach) (seen : Record) : Type 0 where
  pub captured : seen.included ≤ seen.original
  pub most : seen.original ≤ 262144
  pub number : seen.after.count ≡ reach.count + 1
  pub few : seen.after.count ≤ 100000000
  pub later : reach.last ≤ seen.after.last
  pub place : seen.after.at ≡ reach.at + (16 + seen.included)

abbrev pub FollowsSeen : Reach → Seen → Type 0
FollowsSeen reach (SeenWhole seen) = Follows reach seen
FollowsSeen reach SeenEnd = Unit {0}
FollowsSeen reach SeenCut = Unit {0}

-- no more records were passed than there may be, and the place is within what so many take
pub record IsNear (reach : Reach) : Type 0 where
  pub few : reach.count ≤ 100000000
  pub place : reach.at ≤ 24 + reach.count * 262160

-- what was seen at a reach, if it was looked at, follows it
abbrev pub IsAhead : Reach → Option Seen → Type 0
IsAhead reach seen = (whole : Record) → seen ≡ Some (SeenWhole whole) → Follows reach whole
