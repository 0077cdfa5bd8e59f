-- The summary of a capture: eleven lines, each with a word and a number.
use Rattle.std.specs.Prelude.{◌≡◌, ℕ, ◌-◌, Bool, true, false, ◌&&◌, ◌==◌, List, [], ◌∷◌, ◌++◌, length, map, flat_map, sum_by, count_by, decimal, codes, Option, Some, None}
use Rattle.std.specs.List.{slice_index}
use Rattle.std.specs.Option.{is_some, option_map}
use Rattle.rm_model.specs.Journal.{Frame}
use Rattle.rm_proto.specs.Facts.{facts_of}
use Rattle.rm_proto.specs.declared.known.Facts.{Facts}
use Rattle.rm_proto.specs.declared.ethernet.Cast.{Cast}
use Rattle.rm_proto.specs.declared.ethernet.Cast.TheVariants.{Broad, Multi, Uni}
use Rattle.rm_pcap.specs.Records.{Stop, Ended, CutAt, Broken, ReadsAs, alone}
use Rattle.rm_summary.specs.declared.figure.Figure.{Figure}
use Rattle.rm_summary.specs.declared.figure.Figure.TheVariants.{Frames, Octets, Good, Undersize, Oversize, Broadcast, Multicast, Ip, First, Last}

-- the facts of frames, by whether short ones are kept as they are
abbrev pub facts_in : Bool → List Frame → List Facts
facts_in keep_short frames = map (λ frame. facts_of frame.octets frame.original keep_short) frames

-- the moments of frames
abbrev pub moments_in : List Frame → List ℕ
moments_in frames = map (λ frame. frame.moment) frames

-- A frame has fewer octets on the wire than a good one, or more (RFC 1757, etherStatsUndersizePkts and etherStatsOversizePkts): its status
-- is 2, or it is 1.
abbrev pub is_undersize : Facts → Bool
is_undersize facts = facts.status == 2

abbrev pub is_oversize : Facts → Bool
is_oversize facts = facts.status == 1

-- frames of both classes went to addresses of one kind
abbrev pub is_alike : Cast → Cast → Bool
is_alike Broad Broad = true
is_alike Multi Multi = true
is_alike Uni Uni = true
is_alike one other = false

-- a good frame was sent to the broadcast address, or to that of a group (RFC 1757, etherStatsBroadcastPkts and etherStatsMulticastPkts)
abbrev pub is_broadcast : Facts → Bool
is_broadcast facts = facts.good && is_alike Broad facts.cast

abbrev pub is_multicast : Facts → Bool
is_multicast facts = facts.good && is_alike Multi facts.cast

-- What a figure is for these frames. The first and the last moment are 0 where there is no frame.
abbrev pub figure_for : Bool → List Frame → Figure → ℕ
figure_for keep_short frames Frames = length frames
figure_for keep_short frames Octets = sum_by (λ facts. facts.length) (facts_in keep_short frames)
figure_for keep_short frames Good = count_by (λ facts. facts.good) (facts_in keep_short frames)
figure_for keep_short frames Undersize = count_by is_undersize (facts_in keep_short frames)
figure_for keep_short frames Oversize = count_by is_oversize (facts_in keep_short frames)
figure_for keep_short frames Broadcast = count_by is_broadcast (facts_in keep_short frames)
figure_for keep_short frames Multicast = count_by is_multicast (facts_in keep_short frames)
figure_for keep_short frames Ip = count_by (λ facts. is_some facts.ip) (facts_in keep_short frames)
figure_for keep_short frames First = slice_index (moments_in frames) 0
figure_for keep_short frames Last = slice_index (moments_in frames) (length frames - 1)

-- the word of a figure
abbrev pub word_of : Figure → List ℕ
word_of Frames = codes "frames"
word_of Octets = codes "octets"
word_of Good = codes "good"
word_of Undersize = codes "undersize"
word_of Oversize = codes "oversize"
word_of Broadcast = codes "broadcast"
word_of Multicast = codes "multicast"
word_of Ip = codes "ip"
word_of First = codes "first"
word_of Last = codes "last"

-- all figures, in the order of their lines
abbrev pub figures : List Figure
figures = Frames ∷ Octets ∷ Good ∷ Undersize ∷ Oversize ∷ Broadcast ∷ Multicast ∷ Ip ∷ First ∷ Last ∷ []

-- a line: a word, a blank and a number
abbrev pub line : List ℕ → ℕ → List ℕ
line word number = word ++ codes " " ++ decimal number ++ codes "\n"

-- the word of the last line, where the records stop without a fault
abbrev pub last_word : Stop → Option (List ℕ)
last_word Ended = Some (codes "end")
last_word (CutAt at) = Some (codes "cut")
last_word (Broken fault) = None

-- the lines of figures, by what each of them is
abbrev pub figure_lines : (Figure → ℕ) → List Figure → List ℕ
figure_lines figure each = flat_map (λ one. line (word_of one) (figure one)) each

-- the lines of all figures, and the last one behind them
abbrev pub lines : (Figure → ℕ) → List ℕ → List ℕ
lines figure word = figure_lines figure figures ++ line word (figure Frames)

-- The octets are a capture whose first frame stands at a moment, and the text is its summary. One that breaks a rule of its form has
-- none.
pub record IsSummary (lead : ℕ) (keep_short : Bool) (bytes text : List ℕ) : Type 0 where
  pub frames : List Frame
  pub stop : Stop
  pub reads : ReadsAs (alone lead) bytes frames stop
  pub is : option_map (lines (figure_for keep_short frames)) (last_word stop) ≡ Some text
