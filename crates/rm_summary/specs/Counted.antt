-- What is counted of the frames of a capture.
use Rattle.std.specs.Prelude.{◌≡◌, ℕ, ◌+◌, ◌==◌, if◌then◌else◌, Bool, List, Some, codes}
use Rattle.std.specs.Option.{is_some}
use Rattle.rm_model.specs.Journal.{Frame}
use Rattle.rm_proto.specs.declared.known.Facts.{Facts}
use Rattle.rm_pcap.specs.Records.{Stop, ReadsAs, alone}
use Rattle.rm_summary.specs.declared.figure.Figure.{Figure}
use Rattle.rm_summary.specs.declared.figure.Figure.TheVariants.{Frames, Octets, Good, Undersize, Oversize, Broadcast, Multicast, Ip, First, Last}
use Rattle.rm_summary.specs.declared.counts.Counts.{Counts}
use Rattle.rm_summary.specs.declared.reading.Ending.{Ending}
use Rattle.rm_summary.specs.declared.reading.Ending.TheVariants.{End, Cut}
use Rattle.rm_summary.specs.declared.reading.Summary.{Summary}
use Rattle.rm_summary.specs.Text.{figure_for, is_undersize, is_oversize, is_broadcast, is_multicast, last_word, lines}

-- a figure, as it was counted
abbrev pub figure_in : Counts → Figure → ℕ
figure_in counts Frames = counts.frames
figure_in counts Octets = counts.octets
figure_in counts Good = counts.good
figure_in counts Undersize = counts.undersize
figure_in counts Oversize = counts.oversize
figure_in counts Broadcast = counts.broadcast
figure_in counts Multicast = counts.multicast
figure_in counts Ip = counts.ip
figure_in counts First = counts.first
figure_in counts Last = counts.last

-- these frames were counted, and no others
abbrev pub AreCounted : Bool → List Frame → Counts → Type 0
AreCounted keep_short frames counts = (each : Figure) → figure_in counts each ≡ figure_for keep_short frames each

-- 1 where a frame counts, 0 where it doesn't
abbrev pub one_if : Bool → ℕ
one_if counts = if counts then 1 else 0

-- what counting a frame with these facts, at a moment, makes of the counts
pub record IsAdded (facts : Facts) (moment : ℕ) (old new : Counts) : Type 0 where
  pub frames : new.frames ≡ old.frames + 1
  pub octets : new.octets ≡ old.octets + facts.length
  pub good : new.good ≡ old.good + one_if facts.good
  pub undersize : new.undersize ≡ old.undersize + one_if (is_undersize facts)
  pub oversize : new.oversize ≡ old.oversize + one_if (is_oversize facts)
  pub broadcast : new.broadcast ≡ old.broadcast + one_if (is_broadcast facts)
  pub multicast : new.multicast ≡ old.multicast + one_if (is_multicast facts)
  pub ip : new.ip ≡ old.ip + one_if (is_some facts.ip)
  pub first : new.first ≡ (if old.frames == 0 then moment else old.first)
  pub last : new.last ≡ moment

-- the word of the last line
abbrev pub ending_word : Ending → List ℕ
ending_word End = codes "end"
ending_word Cut = codes "cut"

-- the octets are a capture, all of whose frames were counted
pub record IsOf (lead : ℕ) (keep_short : Bool) (bytes : List ℕ) (summary : Summary) : Type 0 where
  pub frames : List Frame
  pub stop : Stop
  pub reads : ReadsAs (alone lead) bytes frames stop
  pub counted : AreCounted keep_short frames summary.counts
  pub ends : last_word stop ≡ Some (ending_word summary.ending)

-- the text of a summary
abbrev pub text_of : Summary → List ℕ
text_of summary = lines (figure_in summary.counts) (ending_word summary.ending)
