-- What a file reads as, as a capture in the classic pcap format: a frame for each record, and how the records stop behind them. Records are
-- counted from 0 here. A record has a header of 16 octets, which are its time in seconds and a fraction of a second, how many octets were
-- captured, and how many the frame had, and then the captured octets.
use Rattle.std.specs.Prelude.{◌≡◌, ◌≤◌, ◌<◌, ℕ, ◌+◌, ◌-◌, ◌*◌, ◌/◌, ◌^◌, max, List, [], map, length, take, drop, slice_index_or, fold, sum_by, None, unwrap_or, MatchResult}
use Rattle.std.specs.List.{range_with_len}
use Rattle.rm_model.specs.Journal.{Frame}
use Rattle.rm_pcap.specs.declared.form.TimeUnit.{TimeUnit}
use Rattle.rm_pcap.specs.declared.form.TimeUnit.TheVariants.{Microseconds, Nanoseconds}
use Rattle.rm_pcap.specs.declared.form.Form.{Form}
use Rattle.rm_pcap.specs.declared.start.Start.{Start}
use Rattle.rm_pcap.specs.declared.fault.PcapFault.{PcapFault}
use Rattle.rm_pcap.specs.declared.fault.PcapFault.TheVariants.{Included, Original, Late, TooMany}
use Rattle.rm_pcap.specs.Header.{number_at, header_of}

-- how many nanoseconds a fraction's unit has
abbrev pub nanoseconds_of : TimeUnit → ℕ
nanoseconds_of Microseconds = 1000
nanoseconds_of Nanoseconds = 1

-- The time in a record's header, in nanoseconds. A fraction isn't checked: one that counts seconds adds them.
unfoldable pub time_of : Form → List ℕ → ℕ
time_of form octets = number_at form.order 4 0 octets * 1000000000 + number_at form.order 4 4 octets * nanoseconds_of form.unit

-- how many octets were captured
unfoldable pub included_of : Form → List ℕ → ℕ
included_of form octets = number_at form.order 4 8 octets

-- how many octets the frame had
unfoldable pub original_of : Form → List ℕ → ℕ
original_of form octets = number_at form.order 4 12 octets

-- A capture by itself: its frames are of interface 1, and the time of its first record stands at the lead.
abbrev pub alone : ℕ → Start
alone lead = record { interface = 1; lead = lead; base = None }

-- where the records of some frames end: behind the header of the file, of 24 octets, and for each a header of 16 octets and its
-- octets
abbrev pub end_of : List Frame → ℕ
end_of frames = 24 + sum_by (λ (frame : Frame). 16 + length frame.octets) frames

-- what a file has from a record of its frames on
abbrev pub from_record : List ℕ → List Frame → ℕ → List ℕ
from_record bytes frames index = drop (end_of (take index frames)) bytes

-- the time that stands at the lead: that of the first record unless another one was given
abbrev pub base_of : Form → Start → List ℕ → List Frame → ℕ
base_of form start bytes frames = unwrap_or start.base (time_of form (from_record bytes frames 0))

-- the moment by a record's own time: as long after the lead as its time is after the one that stands there
abbrev pub own_moment : Form → (start : Start) → List ℕ → List Frame → ℕ → ℕ
own_moment form start bytes frames index =
    start.lead + (time_of form (from_record bytes frames index) - base_of form start bytes frames) / 1000000

-- the greatest of the lead and of the moments by the times of the first records, so many
abbrev pub latest : Form → (start : Start) → List ℕ → List Frame → ℕ → ℕ
latest form start bytes frames count = fold max start.lead (map (own_moment form start bytes frames) (range_with_len 0 count))

-- A frame is what a record of the file says, which stands whole behind the records of the frames before it. There are at most 100000000 records,
-- no length is above 262144, and a moment has 32 bits.
pub record IsOfRecord (form : Form) (start : Start) (bytes : List ℕ) (frames : List Frame) (index : ℕ) (frame : Frame) : Type 0 where
  pub few : index < 100000000
  pub within : end_of (take (index + 1) frames) ≤ length bytes
  pub interface : frame.interface ≡ start.interface
  pub number : frame.number ≡ index + 1
  pub captured : length frame.octets ≡ included_of form (from_record bytes frames index)
  pub octets : frame.octets ≡ take (length frame.octets) (drop 16 (from_record bytes frames index))
  pub original : frame.original ≡ max (length frame.octets) (original_of form (from_record bytes frames index))
  pub most : frame.original ≤ 262144
  pub moment : frame.moment ≡ latest form start bytes frames (index + 1)
  pub soon : frame.moment < 2 ^ 32

-- how the records stop: at the end of the file, within the record that begins at an offset, or by a fault
pub data Stop : Type 0 where
  Ended : Stop
  CutAt : ℕ → Stop
  Broken : PcapFault → Stop

-- what a file has behind the records of all frames
abbrev pub left_behind : List ℕ → List Frame → List ℕ
left_behind bytes frames = drop (end_of frames) bytes

-- where the record that begins there ends, by its header
abbrev pub end_of_next : Form → List ℕ → List Frame → ℕ
end_of_next form bytes frames = end_of frames + (16 + included_of form (left_behind bytes frames))

-- the moment of its frame
abbrev pub moment_of_next : Form → Start → List ℕ → List Frame → ℕ
moment_of_next form start bytes frames = latest form start bytes frames (length frames + 1)

-- it isn't one too many, and the lengths in its header are at most 262144
pub record MayFollow (form : Form) (bytes : List ℕ) (frames : List Frame) : Type 0 where
  pub few : length frames < 100000000
  pub included : included_of form (left_behind bytes frames) ≤ 262144
  pub original : original_of form (left_behind bytes frames) ≤ 262144

-- The file cuts it short: within its header, or behind a header without a fault. The moment of a first record isn't judged then.
pub data IsCutShort (form : Form) (start : Start) (bytes : List ℕ) (frames : List Frame) : Type 0 where
  in_header : end_of frames < length bytes → length bytes < end_of frames + 16 → IsCutShort form start bytes frames
  in_octets : end_of frames + 16 ≤ length bytes → MayFollow form bytes frames → (0 < length frames → moment_of_next form start bytes frames < 2 ^ 32)
      → length bytes < end_of_next form bytes frames → IsCutShort form start bytes frames

-- The first fault of its header: one record too many, a length above 262144, or a moment of more than 32 bits. The moment of a first record is
-- judged only where the record is whole.
pub data HasFault (form : Form) (start : Start) (bytes : List ℕ) (frames : List Frame) (fault : PcapFault) : Type 0 where
  too_many : fault ≡ TooMany → length frames ≡ 100000000 → HasFault form start bytes frames fault
  included : fault ≡ Included (end_of frames + 8) → length frames < 100000000 → 262144 < included_of form (left_behind bytes frames) → HasFault form start bytes frames fault
  original : fault ≡ Original (end_of frames + 12) → length frames < 100000000 → included_of form (left_behind bytes frames) ≤ 262144
      → 262144 < original_of form (left_behind bytes frames) → HasFault form start bytes frames fault
  late : fault ≡ Late (end_of frames) → MayFollow form bytes frames → 2 ^ 32 ≤ moment_of_next form start bytes frames
      → (length frames ≡ 0 → end_of_next form bytes frames ≤ length bytes) → HasFault form start bytes frames fault

-- behind the records of all frames the file ends, or cuts a record short, or has the header of one with a fault
abbrev pub StopsBehind : Form → Start → List ℕ → List Frame → Stop → Type 0
StopsBehind form start bytes frames Ended = length bytes ≡ end_of frames
StopsBehind form start bytes frames (CutAt at) = (at ≡ end_of frames) × IsCutShort form start bytes frames
StopsBehind form start bytes frames (Broken fault) = (end_of frames + 16 ≤ length bytes) × HasFault form start bytes frames fault

-- each frame is that of its record, and behind them the records stop so
pub record AreOfRecords (form : Form) (start : Start) (bytes : List ℕ) (frames : List Frame) (stop : Stop) : Type 0 where
  pub each : (index : ℕ) (any : Frame) → index < length frames → IsOfRecord form start bytes frames index (slice_index_or frames index any)
  pub behind : StopsBehind form start bytes frames stop

-- A file of these octets, whose frames stand as the start says, has these frames, and then stops so. Where its header has a fault, it has no
-- frame.
unfoldable pub ReadsAs : Start → List ℕ → List Frame → Stop → Type 0
ReadsAs start bytes frames stop =
    MatchResult (header_of bytes) (λ form. AreOfRecords form start bytes frames stop) (λ fault. (frames ≡ []) × (stop ≡ Broken fault))
