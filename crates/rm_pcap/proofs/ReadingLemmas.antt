-- A capture reads as its records do, one behind the other: each frame is that of its record, and behind them the records stop so.
use Rattle.std.proofs.Common.{◌≡◌, ℕ, zero, suc, ◌+◌, ◌^◌, ◌<◌, ◌≤◌, nat_le, Bool, true, false, if◌then◌else◌, ◌&&◌, List, [], ◌∷◌, length, take, drop, Option, Some, None, Result, Ok, Err, refl, sym, ap, subst, ◌∙◌, add-one, arith, get_or, inl, inr}
use Rattle.std.specs.Prelude.{◌==◌, ◌↔◌, unwrap_or, max, map, fold}
use Rattle.std.specs.List.{range_with_len}
use Rattle.std.proofs.Math.Seq.{take-length}
use Rattle.std.proofs.lemmas.Bool.{cases_lt}
use Rattle.std.proofs.lemmas.Bool.Decides.{nat_tests}
use Rattle.std.proofs.lemmas.List.{length-take-le, length-drop}
use Rattle.std.proofs.lemmas.List.Sums.{sum_by_more, fold_push}
use Rattle.std.proofs.lemmas.List.FromFn.{map-range_with_len_more}
use Rattle.rm_model.specs.Journal.{Frame}
use Rattle.rm_pcap.specs.declared.form.Form.{Form}
use Rattle.rm_pcap.specs.declared.start.Start.{Start}
use Rattle.rm_pcap.specs.declared.fault.PcapFault.{PcapFault}
use Rattle.rm_pcap.specs.declared.fault.PcapFault.TheVariants.{Magic, Version, LinkType, Included, Original, Late, TooMany, Read, NoMemory}
use Rattle.rm_pcap.specs.declared.reach.Reach.{Reach}
use Rattle.rm_pcap.specs.Header.{number_at, form_of, has_version, has_link_type, header_with, header_of}
use Rattle.rm_pcap.specs.Records.{Stop, Ended, CutAt, Broken, time_of, included_of, original_of, end_of, from_record, base_of, own_moment, latest, IsOfRecord, left_behind, MayFollow, IsCutShort, in_header, in_octets, HasFault, too_many, included, original, late, StopsBehind, AreOfRecords, ReadsAs}
use Rattle.rm_pcap.specs.Steps.{Whole, Stops, beginning, moment_at, frame_at, reach_after, is_late, IsThere, found_at, AreRecords}
use Rattle.rm_pcap.specs.Seen.{IsCutPart, within, behind}
use Rattle.rm_pcap.proofs.RecordLaws.{IsTaken, taken, one_list, some_records}
use Rattle.rm_pcap.proofs.FaultLemmas.{AreFine, Tells, tells, not_late, is_soon, is_after, after_is, too_many_told, included_told, original_told, late_told, none_told}
use Rattle.rm_pcap.proofs.StopLemmas.{IsFaultIn, told, whole, StopsIn, stops_in, found_fault}
use Rattle.rm_pcap.proofs.FoundLemmas.{found_end, found_cut}
use Rattle.rm_pcap.proofs.KeptLemmas.{there_is}

-- How far the records of the first frames reach, so many. Before the first record the time that stands at the lead may not be known yet, and
-- is then that of what stands next.
record HasReached (form : Form) (start : Start) (bytes : List ℕ) (frames : List Frame) (passed : ℕ) (reach : Reach) : Type 0 where
  at : reach.at ≡ end_of (take passed frames)
  count : reach.count ≡ passed
  last : reach.last ≡ latest form start bytes frames passed
  base : unwrap_or reach.base (time_of form (from_record bytes frames passed)) ≡ base_of form start bytes frames

at_beginning : (form : Form) (start : Start) (bytes : List ℕ) (frames : List Frame) → HasReached form start bytes frames 0 (beginning start)
at_beginning form start bytes frames = record { at = refl; count = refl; last = refl; base = refl }

-- what stands there, and the moment by its time
module _ (form : Form) (start : Start) (bytes : List ℕ) (frames : List Frame) (index : ℕ) (reach : Reach) (reached : HasReached form start bytes frames index reach) where
  place : drop reach.at bytes ≡ from_record bytes frames index
  place = ap (λ (n : ℕ). drop n bytes) reached.at

  newest : moment_at start reach (time_of form (drop reach.at bytes)) ≡ latest form start bytes frames (index + 1)
  newest =
      let own = own_moment form start bytes frames in
      let time : time_of form (drop reach.at bytes) ≡ time_of form (from_record bytes frames index) = ap (time_of form) place in
      let mine : moment_at start reach (time_of form (drop reach.at bytes)) ≡ max reach.last (own index) = rw (time, reached.base) refl in
      mine ∙ ap (λ (m : ℕ). max m (own index)) reached.last ∙ sym (fold_push max start.lead (map own (range_with_len 0 index)) (own index))
      ∙ ap (fold max start.lead) (sym (map-range_with_len_more own 0 index index (omega arith)))

-- where the record of a frame ends
ends_behind : (frames : List Frame) (index : ℕ) (frame d : Frame) → index < length frames → get_or frames index d ≡ frame → end_of (take (index + 1) frames) ≡ end_of (take index frames) + (16 + length frame.octets)
ends_behind frames index frame d inside is_next = omega (arith, sum_by_more (λ (f : Frame). 16 + length f.octets) frames index d inside, ap (λ (f : Frame). length f.octets) is_next)

-- the next frame, and how far the records reach with it
module _ (form : Form) (start : Start) (bytes : List ℕ) (frames : List Frame) (index : ℕ) (reach next : Reach) (frame : Frame) (d : Frame) (inside : index < length frames)
    (is_next : get_or frames index d ≡ frame) (reached : HasReached form start bytes frames index reach) (is_taken : IsTaken form start reach next (drop reach.at bytes) frame) where
  captures : length frame.octets ≡ included_of form (drop reach.at bytes)
  captures =
      ap (λ (f : Frame). length f.octets) (sym is_taken.is_frame)
      ∙ length-take-le (included_of form (drop reach.at bytes)) (drop 16 (drop reach.at bytes)) (omega (arith, is_taken.enough, length-drop 16 (drop reach.at bytes)))

  moment : frame.moment ≡ latest form start bytes frames (index + 1)
  moment = ap (λ (f : Frame). f.moment) (sym is_taken.is_frame) ∙ newest form start bytes frames index reach reached

  is_of_record : IsOfRecord form start bytes frames index frame
  is_of_record =
      let there : drop reach.at bytes ≡ from_record bytes frames index = place form start bytes frames index reach reached in
      let fine = (tells form start reach (drop reach.at bytes) None is_taken.faultless).0 in
      record {
        few = omega (arith, fine.few, reached.count);
        within = omega (arith, ends_behind frames index frame d inside is_next, captures, is_taken.enough, length-drop reach.at bytes, reached.at);
        interface = ap (λ (f : Frame). f.interface) (sym is_taken.is_frame);
        number = ap (λ (f : Frame). f.number) (sym is_taken.is_frame) ∙ ap (λ (n : ℕ). n + 1) reached.count;
        captured = captures ∙ ap (included_of form) there;
        octets = rw (captures, sym there) (ap (λ (f : Frame). f.octets) (sym is_taken.is_frame));
        original = rw (captures, sym there) (ap (λ (f : Frame). f.original) (sym is_taken.is_frame));
        most = omega (arith, fine.included, fine.original, ap (λ (f : Frame). f.original) is_taken.is_frame);
        moment = moment;
        soon = omega (arith, is_soon form start reach (drop reach.at bytes) is_taken.soon, ap (λ (f : Frame). f.moment) is_taken.is_frame);
      }

  reaches_next : HasReached form start bytes frames (index + 1) next
  reaches_next = record {
    at = ap (λ (r : Reach). r.at) (sym is_taken.is_next) ∙ omega (arith, ends_behind frames index frame d inside is_next, captures, reached.at);
    count = ap (λ (r : Reach). r.count) (sym is_taken.is_next) ∙ ap (λ (n : ℕ). n + 1) reached.count;
    last = ap (λ (r : Reach). r.last) (sym is_taken.is_next) ∙ ap (λ (f : Frame). f.moment) is_taken.is_frame ∙ moment;
    base =
        ap (λ (r : Reach). unwrap_or r.base (time_of form (from_record bytes frames (index + 1)))) (sym is_taken.is_next)
        ∙ ap (unwrap_or reach.base) (ap (time_of form) (place form start bytes frames index reach reached)) ∙ reached.base;
  }

frame_is : (frame : Frame) (interface now number : ℕ) (octets : List ℕ) (most : ℕ) → interface ≡ frame.interface → now ≡ frame.moment → number ≡ frame.number → octets ≡ frame.octets → most ≡ frame.original
    → (let f : Frame = record { interface = interface; moment = now; number = number; octets = octets; original = most } in f) ≡ frame
frame_is frame interface now number octets most a b c d e = rw (a, b, c, d, e) refl

-- a frame that is that of its record is found
finds : (form : Form) (start : Start) (bytes : List ℕ) (frames : List Frame) (index : ℕ) (reach : Reach) (frame d : Frame) → index < length frames → get_or frames index d ≡ frame
    → HasReached form start bytes frames index reach → IsOfRecord form start bytes frames index frame → found_at form start reach bytes ≡ Whole frame (reach_after form start reach (drop reach.at bytes))
unfolding found_at
finds form start bytes frames index reach frame d inside is_next reached of =
    let xs = drop reach.at bytes in
    let there : xs ≡ from_record bytes frames index = place form start bytes frames index reach reached in
    let captured : length frame.octets ≡ included_of form xs = of.captured ∙ ap (included_of form) (sym there) in
    let greatest : frame.original ≡ max (length frame.octets) (original_of form xs) = of.original ∙ ap (λ (t : List ℕ). max (length frame.octets) (original_of form t)) (sym there) in
    let time : moment_at start reach (time_of form xs) ≡ frame.moment = newest form start bytes frames index reach reached ∙ sym of.moment in
    let fine : AreFine form reach xs = record {
      few = omega (arith, of.few, reached.count);
      included = omega (arith, of.most, greatest, captured);
      original = omega (arith, of.most, greatest);
    } in
    let there_all : IsThere form start reach xs = record {
      long = omega (arith, captured, of.within, ends_behind frames index frame d inside is_next, reached.at, length-drop reach.at bytes);
      faultless = none_told form start reach xs fine (λ some. omega (arith, time, of.soon));
    } in
    let soon : is_late form start reach xs ≡ false = not_late form start reach xs (omega (arith, time, of.soon)) in
    let same : frame_at form start reach xs ≡ frame =
    frame_is frame start.interface (moment_at start reach (time_of form xs)) (reach.count + 1) (take (included_of form xs) (drop 16 xs)) (max (included_of form xs) (original_of form xs))
    (sym of.interface) time (ap (λ (n : ℕ). n + 1) reached.count ∙ sym of.number)
    (ap (λ (n : ℕ). take n (drop 16 xs)) (sym captured) ∙ ap (λ (t : List ℕ). take (length frame.octets) (drop 16 t)) there ∙ sym of.octets)
    (ap (λ (n : ℕ). max n (original_of form xs)) (sym captured) ∙ sym greatest) in
    there_is form start reach xs there_all ∙ rw soon (ap (λ (f : Frame). Whole f (reach_after form start reach xs)) same)

-- what is left of a list at a place is its element there, and the rest
first_left : (frames : List Frame) (here : ℕ) (d frame : Frame) (rest : List Frame) → drop here frames ≡ frame ∷ rest → get_or frames here d ≡ frame
first_left [] zero d frame rest left = absurd cc
first_left [] (suc here) d frame rest left = absurd cc
first_left (f ∷ frames) zero d frame rest left = cc
first_left (f ∷ frames) (suc here) d frame rest left = first_left frames here d frame rest left

rest_left : (frames : List Frame) (here : ℕ) (frame : Frame) (rest : List Frame) → drop here frames ≡ frame ∷ rest → drop (here + 1) frames ≡ rest
rest_left [] zero frame rest left = absurd cc
rest_left [] (suc here) frame rest left = absurd cc
rest_left (f ∷ frames) zero frame rest left = cc
rest_left (f ∷ frames) (suc here) frame rest left = rw add-one (rw add-one at (rest_left frames here frame rest left))

-- each frame from one of them on
from_there : (form : Form) (start : Start) (bytes : List ℕ) (frames rest : List Frame) (stop : Stop) (here : ℕ) (reach : Reach) → HasReached form start bytes frames here reach
    → drop here frames ≡ rest → AreRecords form start reach bytes rest stop → (index : ℕ) (d : Frame) → here ≤ index → index < length frames
    → IsOfRecord form start bytes frames index (get_or frames index d)
unfolding AreRecords
from_there form start bytes frames [] stop here reach reached left are index d later inside = absurd (omega (arith, ap length left, length-drop here frames, later, inside))
from_there form start bytes frames (frame ∷ rest) stop here reach reached left are index d later inside =
    let is : get_or frames here d ≡ frame = first_left frames here d frame rest left in
    let t = taken form start reach are.0 bytes frame are.1 in
    let room : here < length frames = omega (arith, later, inside) in
    elim (cases_lt here index) [
      | inl before ↦
          from_there form start bytes frames rest stop (here + 1) are.0 (reaches_next form start bytes frames here reach are.0 frame d room is reached t) (rest_left frames here frame rest left) are.2 index d (omega (arith, before)) inside
      | inr same ↦
          let at : here ≡ index = omega (arith, later, same) in
          subst (λ (n : ℕ). IsOfRecord form start bytes frames n (get_or frames n d)) at
          (subst (IsOfRecord form start bytes frames here) (sym is) (is_of_record form start bytes frames here reach are.0 frame d room is reached t))
    ]

-- how the records stop behind all frames
module _ (form : Form) (start : Start) (bytes : List ℕ) (frames : List Frame) (reach : Reach) (reached : HasReached form start bytes frames (length frames) reach) where
  at_end : reach.at ≡ end_of frames
  at_end = reached.at ∙ ap end_of (take-length frames)

  left_there : drop reach.at bytes ≡ left_behind bytes frames
  left_there = ap (λ (n : ℕ). drop n bytes) at_end

  next_included : included_of form (drop reach.at bytes) ≡ included_of form (left_behind bytes frames)
  next_included = ap (included_of form) left_there

  next_original : original_of form (drop reach.at bytes) ≡ original_of form (left_behind bytes frames)
  next_original = ap (original_of form) left_there

  next_moment : moment_at start reach (time_of form (drop reach.at bytes)) ≡ latest form start bytes frames (length frames + 1)
  next_moment = newest form start bytes frames (length frames) reach reached

  follows : AreFine form reach (drop reach.at bytes) → MayFollow form bytes frames
  follows fine = record {
    few = omega (arith, fine.few, reached.count);
    included = omega (arith, fine.included, next_included);
    original = omega (arith, fine.original, next_original);
  }

  fine_there : MayFollow form bytes frames → AreFine form reach (drop reach.at bytes)
  fine_there may = record {
    few = omega (arith, may.few, reached.count);
    included = omega (arith, may.included, next_included);
    original = omega (arith, may.original, next_original);
  }

  by_cut : end_of frames ≤ length bytes → IsCutPart form start reach (drop reach.at bytes) → IsCutShort form start bytes frames
  by_cut enough (within some few) = in_header (omega (arith, some, length-drop reach.at bytes, at_end)) (omega (arith, few, length-drop reach.at bytes, at_end, enough))
  by_cut enough (behind header none short) =
      let all = tells form start reach (drop reach.at bytes) None none in
      in_octets (omega (arith, header, length-drop reach.at bytes, at_end)) (follows all.0)
      (λ some. omega (arith, next_moment, all.1 (omega (arith, some, reached.count)))) (omega (arith, short, next_included, length-drop reach.at bytes, at_end, enough))

  by_told : length frames ≤ 100000000 → (fault : PcapFault) → Tells form start reach (drop reach.at bytes) (Some fault) → HasFault form start bytes frames fault
  by_told few TooMany tale = too_many refl (omega (arith, few, tale, reached.count))
  by_told few (Included place) (is, room, long) = included (ap (λ (n : ℕ). Included n) (is ∙ ap (λ (n : ℕ). n + 8) at_end)) (omega (arith, room, reached.count)) (omega (arith, long, next_included))
  by_told few (Original place) (is, room, short, long) =
      original (ap (λ (n : ℕ). Original n) (is ∙ ap (λ (n : ℕ). n + 12) at_end)) (omega (arith, room, reached.count)) (omega (arith, short, next_included)) (omega (arith, long, next_original))
  by_told few (Late place) (is, fine, some, above) =
      late (ap (λ (n : ℕ). Late n) (is ∙ at_end)) (follows fine) (omega (arith, above, next_moment)) (λ none. absurd (omega (arith, none, some, reached.count)))
  by_told few Magic tale = absurd tale
  by_told few Version tale = absurd tale
  by_told few LinkType tale = absurd tale
  by_told few Read tale = absurd tale
  by_told few NoMemory tale = absurd tale

  by_fault : length frames ≤ 100000000 → end_of frames ≤ length bytes → (fault : PcapFault) → IsFaultIn form start reach (drop reach.at bytes) fault → HasFault form start bytes frames fault
  by_fault few enough fault (told is) = by_told few fault (tells form start reach (drop reach.at bytes) (Some fault) is)
  by_fault few enough fault (whole same none long is_it) =
      let all = tells form start reach (drop reach.at bytes) None none in
      late (same ∙ ap (λ (n : ℕ). Late n) at_end) (follows all.0) (omega (arith, next_moment, is_after form start reach (drop reach.at bytes) is_it))
      (λ first. omega (arith, long, next_included, length-drop reach.at bytes, at_end, enough))

  stops_behind : length frames ≤ 100000000 → end_of frames ≤ length bytes → (stop : Stop) → StopsIn form start reach (drop reach.at bytes) stop → StopsBehind form start bytes frames stop
  stops_behind few enough Ended none = omega (arith, none, length-drop reach.at bytes, at_end, enough)
  stops_behind few enough (CutAt place) (is, cut) = (is ∙ at_end, by_cut enough cut)
  stops_behind few enough (Broken fault) (header, is) = (omega (arith, header, length-drop reach.at bytes, at_end), by_fault few enough fault is)

  cut_there : IsCutShort form start bytes frames → IsCutPart form start reach (drop reach.at bytes)
  cut_there (in_header some few) = within (omega (arith, some, length-drop reach.at bytes, at_end)) (omega (arith, some, few, length-drop reach.at bytes, at_end))
  cut_there (in_octets header may soon short) =
      behind (omega (arith, header, length-drop reach.at bytes, at_end))
      (none_told form start reach (drop reach.at bytes) (fine_there may) (λ some. omega (arith, next_moment, soon (omega (arith, some, reached.count)))))
      (omega (arith, header, short, next_included, length-drop reach.at bytes, at_end))

  late_there : (fault : PcapFault) (counted : ℕ) → length frames ≡ counted → fault ≡ Late (end_of frames) → MayFollow form bytes frames → 2 ^ 32 ≤ latest form start bytes frames (length frames + 1)
      → (length frames ≡ 0 → end_of frames + (16 + included_of form (left_behind bytes frames)) ≤ length bytes) → IsFaultIn form start reach (drop reach.at bytes) fault
  late_there fault zero none is may above long =
      whole (is ∙ ap (λ (n : ℕ). Late n) (sym at_end)) (none_told form start reach (drop reach.at bytes) (fine_there may) (λ some. absurd (omega (arith, some, none, reached.count))))
      (omega (arith, long none, next_included, length-drop reach.at bytes, at_end)) (after_is form start reach (drop reach.at bytes) (omega (arith, above, next_moment)))
  late_there fault (suc before) some is may above long =
      told (late_told form start reach (drop reach.at bytes) (fine_there may) (omega (arith, some, reached.count)) (omega (arith, above, next_moment)) ∙ ap (λ (n : ℕ). Some (Late n)) at_end ∙ ap Some (sym is))

  fault_there : (fault : PcapFault) → HasFault form start bytes frames fault → IsFaultIn form start reach (drop reach.at bytes) fault
  fault_there fault (too_many is many) = told (too_many_told form start reach (drop reach.at bytes) (omega (arith, many, reached.count)) ∙ ap Some (sym is))
  fault_there fault (included is few long) =
      told (included_told form start reach (drop reach.at bytes) (omega (arith, few, reached.count)) (omega (arith, long, next_included)) ∙ ap (λ (n : ℕ). Some (Included (n + 8))) at_end ∙ ap Some (sym is))
  fault_there fault (original is few short long) =
      told (original_told form start reach (drop reach.at bytes) (omega (arith, few, reached.count)) (omega (arith, short, next_included)) (omega (arith, long, next_original))
      ∙ ap (λ (n : ℕ). Some (Original (n + 12))) at_end ∙ ap Some (sym is))
  fault_there fault (late is may above long) = late_there fault (length frames) refl is may above long

  found_behind : (stop : Stop) → StopsBehind form start bytes frames stop → found_at form start reach bytes ≡ Stops stop
  found_behind Ended ends = sym (found_end form start reach bytes (omega (arith, ends, length-drop reach.at bytes, at_end)))
  found_behind (CutAt place) (is, cut) = sym (found_cut form start reach bytes (cut_there cut)) ∙ ap (λ (n : ℕ). Stops (CutAt n)) (at_end ∙ sym is)
  found_behind (Broken fault) (header, is) = found_fault form start reach bytes fault (omega (arith, header, length-drop reach.at bytes, at_end)) (fault_there fault is)

-- what comes behind all frames
record Behind (form : Form) (start : Start) (bytes : List ℕ) (frames : List Frame) (stop : Stop) : Type 0 where
  reach : Reach
  reached : HasReached form start bytes frames (length frames) reach
  found : found_at form start reach bytes ≡ Stops stop

behind_all : (form : Form) (start : Start) (bytes : List ℕ) (frames rest : List Frame) (stop : Stop) (here : ℕ) (reach : Reach) → HasReached form start bytes frames here reach
    → here ≤ length frames → drop here frames ≡ rest → AreRecords form start reach bytes rest stop → Behind form start bytes frames stop
unfolding AreRecords
behind_all form start bytes frames [] stop here reach reached inside left are =
    let all : here ≡ length frames = omega (arith, ap length left, length-drop here frames, inside) in
    record { reach = reach; reached = subst (λ (n : ℕ). HasReached form start bytes frames n reach) all reached; found = are }
behind_all form start bytes frames (frame ∷ rest) stop here reach reached inside left are =
    let room : here < length frames = omega (arith, ap length left, length-drop here frames) in
    let is = first_left frames here frame frame rest left in
    let t = taken form start reach are.0 bytes frame are.1 in
    behind_all form start bytes frames rest stop (here + 1) are.0 (reaches_next form start bytes frames here reach are.0 frame frame room is reached t) (omega (arith, room)) (rest_left frames here frame rest left) are.2

-- all frames are of the records of a file
abbrev EachIsOfRecord : Form → Start → List ℕ → List Frame → Type 0
EachIsOfRecord form start bytes frames = (index : ℕ) (any : Frame) → index < length frames → IsOfRecord form start bytes frames index (get_or frames index any)

-- they are few, and stand within the file
few_within : (form : Form) (start : Start) (bytes : List ℕ) (frames : List Frame) → 24 ≤ length bytes → EachIsOfRecord form start bytes frames → (length frames ≤ 100000000) × (end_of frames ≤ length bytes)
few_within form start bytes [] long each = (omega arith, long)
few_within form start bytes (frame ∷ more) long each =
    let last = each (length more) frame (omega arith) in
    let one : length more + 1 ≡ length (frame ∷ more) = omega arith in
    let all : take (length more + 1) (frame ∷ more) ≡ frame ∷ more = ap (λ (n : ℕ). take n (frame ∷ more)) one ∙ take-length (frame ∷ more) in
    (omega (arith, last.few), subst (λ (f : List Frame). end_of f ≤ length bytes) all last.within)

of_records : (form : Form) (start : Start) (bytes : List ℕ) (frames : List Frame) (stop : Stop) → 24 ≤ length bytes → AreRecords form start (beginning start) bytes frames stop → AreOfRecords form start bytes frames stop
of_records form start bytes frames stop long are =
    let begins = at_beginning form start bytes frames in
    let each : EachIsOfRecord form start bytes frames = λ index any inside. from_there form start bytes frames frames stop 0 (beginning start) begins refl are index any (omega arith) inside in
    let b = behind_all form start bytes frames frames stop 0 (beginning start) begins (omega arith) refl are in
    let bounds = few_within form start bytes frames long each in
    record { each = each; behind = stops_behind form start bytes frames b.reach b.reached bounds.0 bounds.1 stop (stops_in form start b.reach bytes stop b.found) }

-- the records from one of them on
records_there : (form : Form) (start : Start) (bytes : List ℕ) (frames rest : List Frame) (stop : Stop) (here : ℕ) (reach : Reach) → HasReached form start bytes frames here reach
    → here ≤ length frames → drop here frames ≡ rest → AreOfRecords form start bytes frames stop → AreRecords form start reach bytes rest stop
unfolding AreRecords
records_there form start bytes frames [] stop here reach reached inside left of =
    let all : here ≡ length frames = omega (arith, ap length left, length-drop here frames, inside) in
    found_behind form start bytes frames reach (subst (λ (n : ℕ). HasReached form start bytes frames n reach) all reached) stop of.behind
records_there form start bytes frames (frame ∷ rest) stop here reach reached inside left of =
    let room : here < length frames = omega (arith, ap length left, length-drop here frames) in
    let is = first_left frames here frame frame rest left in
    let next = reach_after form start reach (drop reach.at bytes) in
    let found = finds form start bytes frames here reach frame frame room is reached (subst (IsOfRecord form start bytes frames here) is (of.each here frame room)) in
    let t = taken form start reach next bytes frame found in (
      next,
      found,
      records_there form start bytes frames rest stop (here + 1) next (reaches_next form start bytes frames here reach next frame frame room is reached t) (omega (arith, room)) (rest_left frames here frame rest left) of,
    )

-- a good header is whole
long_by : (n : ℕ) (long other : Bool) → nat_le 24 n ≡ long → (long && other) ≡ true → 24 ≤ n
long_by n true other test is = grind (arith, nat_tests)
long_by n false other test is = absurd cc

link_long : (form : Form) (bytes : List ℕ) → has_link_type form bytes ≡ true → 24 ≤ length bytes
unfolding has_link_type
link_long form bytes is = long_by (length bytes) (nat_le 24 (length bytes)) (number_at form.order 4 20 bytes == 1) refl is

with_long : (found : Option Form) (form : Form) (bytes : List ℕ) → header_with found bytes ≡ Ok form → 24 ≤ length bytes
with_long None form bytes is = absurd cc
with_long (Some other) form bytes is = by_tests (has_version other bytes) (has_link_type other bytes) refl is
  where
    by_tests : (version link : Bool) → has_link_type other bytes ≡ link → (if version then (if link then Ok other else Err LinkType) else Err Version) ≡ Ok form → 24 ≤ length bytes
    by_tests true true test e = link_long other bytes test
    by_tests true false test e = absurd cc
    by_tests false link test e = absurd cc

header_long : (form : Form) (bytes : List ℕ) → header_of bytes ≡ Ok form → 24 ≤ length bytes
unfolding header_of
header_long form bytes is = with_long (form_of bytes) form bytes is

pub readings_are_records : (form : Form) (start : Start) (bytes : List ℕ) (frames : List Frame) (stop : Stop) → header_of bytes ≡ Ok form
    → ReadsAs start bytes frames stop ↔ AreRecords form start (beginning start) bytes frames stop
unfolding ReadsAs
readings_are_records form start bytes frames stop header = (
  λ reads. records_there form start bytes frames frames stop 0 (beginning start) (at_beginning form start bytes frames) (omega arith) refl (rw header at reads),
  λ are. rw header (of_records form start bytes frames stop (header_long form bytes header) are),
)

-- where the header has a fault
none_read : (start : Start) (bytes : List ℕ) (frames : List Frame) (stop : Stop) (fault : PcapFault) → header_of bytes ≡ Err fault → ReadsAs start bytes frames stop → (frames ≡ []) × (stop ≡ Broken fault)
unfolding ReadsAs
none_read start bytes frames stop fault header reads = rw header at reads

reads_none : (start : Start) (bytes : List ℕ) (fault : PcapFault) → header_of bytes ≡ Err fault → ReadsAs start bytes [] (Broken fault)
unfolding ReadsAs
reads_none start bytes fault header = rw header (refl, refl)

pub one_reading : (start : Start) (bytes : List ℕ) (frames others : List Frame) (stop last : Stop) → ReadsAs start bytes frames stop → ReadsAs start bytes others last
    → (frames ≡ others) × (stop ≡ last)
one_reading start bytes frames others stop last a b = by_header (header_of bytes) refl
  where
    by_header : (header : Result Form PcapFault) → header_of bytes ≡ header → (frames ≡ others) × (stop ≡ last)
    by_header (Ok form) is =
        one_list form start (beginning start) bytes frames others stop last ((readings_are_records form start bytes frames stop is).0 a) ((readings_are_records form start bytes others last is).0 b)
    by_header (Err fault) is =
        let first = none_read start bytes frames stop fault is a in
        let second = none_read start bytes others last fault is b in (first.0 ∙ sym second.0, first.1 ∙ sym second.1)

pub every_reading : (start : Start) (bytes : List ℕ) → (frames : List Frame) × (stop : Stop) × ReadsAs start bytes frames stop
every_reading start bytes = by_header (header_of bytes) refl
  where
    by_header : (header : Result Form PcapFault) → header_of bytes ≡ header → (frames : List Frame) × (stop : Stop) × ReadsAs start bytes frames stop
    by_header (Ok form) is =
        let some = some_records (suc (length bytes)) form start (beginning start) bytes (omega arith) in
        (some.frames, some.stop, (readings_are_records form start bytes some.frames some.stop is).1 some.are)
    by_header (Err fault) is = ([], Broken fault, reads_none start bytes fault is)
