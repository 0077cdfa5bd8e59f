-- The next frame of captures that are read together is passed.
use Rattle.std.proofs.Common.{◌≡◌, ℕ, ◌+◌, ◌<◌, ◌≤◌, Bool, true, false, nat_lt, List, [], ◌∷◌, Option, Result, Ok, Err, length, zero, suc, get_or, set, inl, inr, refl, sym, ap, subst, ◌∙◌, arith}
use Rattle.std.proofs.lemmas.Bool.Decides.{nat_tests}
use Rattle.rm_edge.specs.Outside.{Held, File}
use Rattle.rm_model.specs.Journal.{Frame}
use Rattle.rm_pcap.specs.declared.form.Form.{Form}
use Rattle.rm_pcap.specs.declared.start.Start.{Start}
use Rattle.rm_pcap.specs.declared.reach.Reach.{Reach}
use Rattle.rm_pcap.specs.declared.fault.PcapFault.TheVariants.{Read}
use Rattle.rm_pcap.specs.declared.capture.Capture.{Capture}
use Rattle.rm_pcap.specs.declared.frame.Step.{Step}
use Rattle.rm_pcap.specs.declared.frame.Step.TheVariants.{Next, End, Cut}
use Rattle.rm_pcap.specs.Records.{Stop, ReadsAs}
use Rattle.rm_pcap.specs.Steps.{Found, Whole, Stops as StopsAt, found_at, AreRecords, beginning}
use Rattle.rm_pcap.specs.Progress.{Progress, Shows}
use Rattle.rm_pcap.specs.Calls.{Passes, Steps, Fails}
use Rattle.rm_pcap.specs.View.{progress_of}
use Rattle.rm_pcap.proofs.RecordLaws.{taken}
use Rattle.rm_pcap.proofs.ReadingLemmas.{readings_are_records}
use Rattle.rm_captures.specs.Merge.{merge}
use Rattle.rm_captures.specs.Rounds.{standing, AreRead}
use Rattle.rm_captures.specs.Reading.{AreHeld, AreReady, IsReady}
use Rattle.rm_captures.specs.Left.{Leaves, AreLeft, LendsNext, LeavesNext, StepsSo, StepsOne}
use Rattle.rm_captures.specs.declared.fault.CaptureFault.{CaptureFault}
use Rattle.rm_captures.proofs.NextLemmas.{next_fails}
use Rattle.rm_captures.proofs.MergeLemmas.{merge_first, merge_second, merge_none, merge_alone}

-- of two lists in one the first is the first of one of them
pub data HeadOf (own others : List Frame) (frame : Frame) (more : List Frame) : Type 0 where
  mine : (rest : List Frame) → own ≡ frame ∷ rest → more ≡ merge rest others → HeadOf own others frame more
  theirs : (rest : List Frame) → others ≡ frame ∷ rest → more ≡ merge own rest → HeadOf own others frame more

pub merge_head : (own others : List Frame) (frame : Frame) (more : List Frame) → frame ∷ more ≡ merge own others → HeadOf own others frame more
merge_head [] others frame more is = let e : frame ∷ more ≡ others = is ∙ merge_none others in theirs more (sym e) (sym (merge_none more))
merge_head (f ∷ fs) [] frame more is =
    let e : frame ∷ more ≡ f ∷ fs = is ∙ merge_alone (f ∷ fs) in
    let rest : more ≡ fs = cc in
    let first : f ≡ frame = cc in
    mine fs (ap (λ (x : Frame). x ∷ fs) first) (rest ∙ sym (merge_alone fs))
merge_head (f ∷ fs) (g ∷ gs) frame more is = by_test (nat_lt g.moment f.moment) refl
  where
    by_test : (later : Bool) → nat_lt g.moment f.moment ≡ later → HeadOf (f ∷ fs) (g ∷ gs) frame more
    by_test true test =
        let lt : g.moment < f.moment = grind (arith, nat_tests) in
        let e : frame ∷ more ≡ g ∷ merge (f ∷ fs) gs = is ∙ merge_second f g fs gs lt in
        let rest : more ≡ merge (f ∷ fs) gs = cc in
        let first : g ≡ frame = cc in
        theirs gs (ap (λ (x : Frame). x ∷ gs) first) rest
    by_test false test =
        let le : f.moment ≤ g.moment = grind (arith, nat_tests) in
        let e : frame ∷ more ≡ f ∷ merge fs (g ∷ gs) = is ∙ merge_first f g fs gs le in
        let rest : more ≡ merge fs (g ∷ gs) = cc in
        let first : f ≡ frame = cc in
        mine fs (ap (λ (x : Frame). x ∷ fs) first) rest

-- the frames that are left of a capture are of its interface
first_of_records : (form : Form) (start : Start) (reach : Reach) (bytes : List ℕ) (frame : Frame) (rest : List Frame) (stop : Stop) → AreRecords form start reach bytes (frame ∷ rest) stop → frame.interface ≡ start.interface
unfolding AreRecords
first_of_records form start reach bytes frame rest stop (next, first, are) = ap (λ (f : Frame). f.interface) (sym (taken form start reach next bytes frame first).is_frame)

own_interface : (interface : ℕ) (progress : Progress) (bytes : List ℕ) (frame : Frame) (rest : List Frame) (stop : Stop) → Leaves interface progress bytes (frame ∷ rest) stop → frame.interface ≡ interface
own_interface interface progress bytes frame rest stop left = first_of_records progress.form progress.start progress.reach bytes frame rest stop left.records ∙ left.interface_is

-- and those of several captures are of their interfaces
pub from_interface : (interface : ℕ) (captures : List Capture) (files : List (List ℕ)) (frame : Frame) (more : List Frame) (stop : Stop) → AreLeft interface captures files (frame ∷ more) stop → interface ≤ frame.interface
unfolding AreLeft
from_interface interface [] [] frame more stop left = absurd (let e = left.0 in cc)
from_interface interface [] (bytes ∷ files) frame more stop left = absurd left
from_interface interface (capture ∷ captures) [] frame more stop left = absurd left
from_interface interface (capture ∷ captures) (bytes ∷ files) frame more stop (own, others, end, last, leaves, behind, are, stops) =
    by_head (λ fs left. from_interface (interface + 1) captures files frame fs last left) (merge_head own others frame more are)
  where
    by_head : ((fs : List Frame) → AreLeft (interface + 1) captures files (frame ∷ fs) last → interface + 1 ≤ frame.interface) → HeadOf own others frame more → interface ≤ frame.interface
    by_head above (mine rest is then) = omega (arith, own_interface interface (progress_of capture) bytes frame rest end (subst (λ (fs : List Frame). Leaves interface (progress_of capture) bytes fs end) is leaves))
    by_head above (theirs rest is then) = omega (arith, above rest (subst (λ (fs : List Frame). AreLeft (interface + 1) captures files fs last) is behind))

-- the first of the records that are left is passed
passed_records : (form : Form) (start : Start) (reach after : Reach) (bytes : List ℕ) (passed frame : Frame) (rest : List Frame) (stop : Stop) → found_at form start reach bytes ≡ Whole passed after
    → AreRecords form start reach bytes (frame ∷ rest) stop → (passed ≡ frame) × AreRecords form start after bytes rest stop
unfolding AreRecords
passed_records form start reach after bytes passed frame rest stop found (next, first, are) =
    let e : Whole passed after ≡ Whole frame next = sym found ∙ first in
    let same : passed ≡ frame = cc in
    let there : next ≡ after = cc in
    (same, subst (λ (r : Reach). AreRecords form start r bytes rest stop) there are)

no_stop : (form : Form) (start : Start) (reach : Reach) (bytes : List ℕ) (frame : Frame) (rest : List Frame) (stop at : Stop) → found_at form start reach bytes ≡ StopsAt at → AreRecords form start reach bytes (frame ∷ rest) stop → ⊥
unfolding AreRecords
no_stop form start reach bytes frame rest stop at found (next, first, are) = let e : StopsAt at ≡ Whole frame next = sym found ∙ first in cc

leaves_passing : (interface : ℕ) (held : Held) (old new : Progress) (bytes : List ℕ) (passed frame : Frame) (rest : List Frame) (stop : Stop) (after : Reach) → held ≡ File bytes → Passes held old new (Whole passed after)
    → Leaves interface old bytes (frame ∷ rest) stop → (passed ≡ frame) × Leaves interface new bytes rest stop
leaves_passing interface held old new bytes passed frame rest stop after is passes left =
    let one = passed_records old.form old.start old.reach after bytes passed frame rest stop (sym (passes.finds.stands bytes is left.agrees)) left.records in (
      one.0,
      record {
        interface_is = ap (λ (p : Progress). p.start.interface) passes.place ∙ left.interface_is;
        agrees = passes.finds.agrees bytes is left.agrees;
        records = subst (λ (p : Progress). AreRecords p.form p.start p.reach bytes rest stop) (sym passes.place) one.1;
        faultless = left.faultless;
      },
    )

-- what a step shows of a capture of which a frame is left: it is lent, and the others are left
by_step : (interface : ℕ) (held : Held) (old new : Progress) (bytes : List ℕ) (step : Step) (found : Found) (frame : Frame) (rest : List Frame) (stop : Stop) → held ≡ File bytes → Passes held old new found → Shows step found
    → Leaves interface old bytes (frame ∷ rest) stop → LendsNext step frame × Leaves interface new bytes rest stop
by_step interface held old new bytes (Next lent) (Whole passed after) frame rest stop is passes shows left =
    let l = leaves_passing interface held old new bytes passed frame rest stop after is passes left in (sym shows ∙ l.0, l.1)
by_step interface held old new bytes step (StopsAt at) frame rest stop is passes shows left =
    absurd (no_stop old.form old.start old.reach bytes frame rest stop at (sym (passes.finds.stands bytes is left.agrees)) left.records)
by_step interface held old new bytes End (Whole passed after) frame rest stop is passes shows left = absurd shows
by_step interface held old new bytes (Cut at) (Whole passed after) frame rest stop is passes shows left = absurd shows

-- the next frame of all is that of the first capture
pub pass_here : (held : List ℕ → Held) (name : List ℕ) (names : List (List ℕ)) (interface : ℕ) (old new : Capture) (captures : List Capture) (files : List (List ℕ)) (step : Step) (frame : Frame) (more : List Frame) (stop : Stop)
    → AreHeld held (name ∷ names) files → Steps (held name) (progress_of old) (progress_of new) (Ok step) → frame.interface ≡ interface → AreLeft interface (old ∷ captures) files (frame ∷ more) stop
    → LendsNext step frame × AreLeft interface (new ∷ captures) files more stop
unfolding AreHeld AreLeft
pass_here held name names interface old new captures [] step frame more stop are steps mine_is left = absurd are
pass_here held name names interface old new captures (bytes ∷ files) step frame more stop are (found, passes, shows) mine_is (own, others, end, last, leaves, behind, frames_are, stop_is) = by_head (merge_head own others frame more frames_are)
  where
    by_head : HeadOf own others frame more → LendsNext step frame × AreLeft interface (new ∷ captures) (bytes ∷ files) more stop
    by_head (mine rest is then) =
        let l = by_step interface (held name) (progress_of old) (progress_of new) bytes step found frame rest end are.0 passes shows (subst (λ (fs : List Frame). Leaves interface (progress_of old) bytes fs end) is leaves) in
        (l.0, (rest, others, end, last, l.1, behind, then, stop_is))
    by_head (theirs rest is then) =
        absurd (let above = from_interface (interface + 1) captures files frame rest last (subst (λ (fs : List Frame). AreLeft (interface + 1) captures files fs last) is behind) in omega (arith, above, mine_is))

-- it is that of a capture behind it
pub pass_there : (held : List ℕ → Held) (name : List ℕ) (names : List (List ℕ)) (interface : ℕ) (capture : Capture) (olds news : List Capture) (files : List (List ℕ)) (step : Step) (frame : Frame) (more : List Frame) (stop : Stop)
    → AreHeld held (name ∷ names) files → interface < frame.interface
    → ((rest : List (List ℕ)) (left : List Frame) (last : Stop) → AreHeld held names rest → AreLeft (interface + 1) olds rest (frame ∷ left) last → LendsNext step frame × AreLeft (interface + 1) news rest left last)
    → AreLeft interface (capture ∷ olds) files (frame ∷ more) stop → LendsNext step frame × AreLeft interface (capture ∷ news) files more stop
unfolding AreHeld AreLeft
pass_there held name names interface capture olds news [] step frame more stop are above then_passes left = absurd are
pass_there held name names interface capture olds news (bytes ∷ files) step frame more stop are above then_passes (own, others, end, last, leaves, behind, frames_are, stop_is) = by_head (merge_head own others frame more frames_are)
  where
    by_head : HeadOf own others frame more → LendsNext step frame × AreLeft interface (capture ∷ news) (bytes ∷ files) more stop
    by_head (mine rest is then) =
        absurd (let same = own_interface interface (progress_of capture) bytes frame rest end (subst (λ (fs : List Frame). Leaves interface (progress_of capture) bytes fs end) is leaves) in omega (arith, above, same))
    by_head (theirs rest is then) =
        let l = then_passes files rest last are.1 (subst (λ (fs : List Frame). AreLeft (interface + 1) olds files fs last) is behind) in
        (l.0, (own, rest, end, last, leaves, l.1, then, stop_is))

-- a step that fails leaves all
fails_left : (interface : ℕ) (held : List ℕ → Held) (name : List ℕ) (names : List (List ℕ)) (old new : Capture) (olds : List Capture) (files : List (List ℕ)) (found : CaptureFault) (frame : Frame) (more : List Frame) (stop : Stop)
    → AreHeld held (name ∷ names) files → Fails (held name) (progress_of old) found.fault → progress_of new ≡ progress_of old → AreLeft interface (old ∷ olds) files (frame ∷ more) stop
    → (found.fault ≡ Read) × AreLeft interface (new ∷ olds) files (frame ∷ more) stop
fails_left interface held name names old new olds files found frame more stop are fails same left = next_fails held name names interface old new olds files (frame ∷ more) stop found.fault are fails same left

-- a step of a capture behind the first leaves all
there_left : (held : List ℕ → Held) (name : List ℕ) (names : List (List ℕ)) (interface : ℕ) (capture : Capture) (olds news : List Capture) (files : List (List ℕ)) (found : CaptureFault) (frame : Frame) (more : List Frame) (stop : Stop)
    → AreHeld held (name ∷ names) files → interface < frame.interface
    → ((rest : List (List ℕ)) (left : List Frame) (last : Stop) → AreHeld held names rest → AreLeft (interface + 1) olds rest (frame ∷ left) last → (found.fault ≡ Read) × AreLeft (interface + 1) news rest (frame ∷ left) last)
    → AreLeft interface (capture ∷ olds) files (frame ∷ more) stop → (found.fault ≡ Read) × AreLeft interface (capture ∷ news) files (frame ∷ more) stop
unfolding AreHeld AreLeft
there_left held name names interface capture olds news [] found frame more stop are above then_fails left = absurd are
there_left held name names interface capture olds news (bytes ∷ files) found frame more stop are above then_fails (own, others, end, last, leaves, behind, frames_are, stop_is) = by_head (merge_head own others frame more frames_are)
  where
    by_head : HeadOf own others frame more → (found.fault ≡ Read) × AreLeft interface (capture ∷ news) (bytes ∷ files) (frame ∷ more) stop
    by_head (mine rest is then) =
        absurd (let same = own_interface interface (progress_of capture) bytes frame rest end (subst (λ (fs : List Frame). Leaves interface (progress_of capture) bytes fs end) is leaves) in omega (arith, above, same))
    by_head (theirs rest is then) =
        let l = then_fails files rest last are.1 (subst (λ (fs : List Frame). AreLeft (interface + 1) olds files fs last) is behind) in
        (l.0, (own, others, end, last, leaves, subst (λ (fs : List Frame). AreLeft (interface + 1) news files fs last) (sym is) l.1, frames_are, stop_is))

-- where the capture of the next frame takes a step, that frame is lent, and the others are left
pub steps_left : (held : List ℕ → Held) (from interface : ℕ) (names : List (List ℕ)) (olds news : List Capture) (result : Result Step CaptureFault) (files : List (List ℕ)) (frame : Frame) (more : List Frame) (stop : Stop)
    → StepsOne held from interface names olds news result → AreHeld held names files → frame.interface ≡ interface → AreLeft from olds files (frame ∷ more) stop
    → LeavesNext (λ frames. AreLeft from news files frames stop) frame more result
unfolding StepsOne
steps_left held from interface [] olds news result files frame more stop steps are is left = absurd steps
steps_left held from interface (name ∷ names) [] news result files frame more stop steps are is left = absurd steps
steps_left held from interface (name ∷ names) (old ∷ olds) [] result files frame more stop steps are is left = absurd steps
steps_left held from interface (name ∷ names) (old ∷ olds) (new ∷ news) (Ok step) files frame more stop (inl (here, step_so, same)) are is left =
    subst (λ (cs : List Capture). LeavesNext (λ frames. AreLeft from (new ∷ cs) files frames stop) frame more (Ok step)) (sym same)
    (pass_here held name names from old new olds files step frame more stop are step_so (is ∙ here) left)
steps_left held from interface (name ∷ names) (old ∷ olds) (new ∷ news) (Err found) files frame more stop (inl (here, step_so, same)) are is left =
    subst (λ (cs : List Capture). LeavesNext (λ frames. AreLeft from (new ∷ cs) files frames stop) frame more (Err found)) (sym same)
    (fails_left from held name names old new olds files found frame more stop are step_so.1 step_so.2 left)
steps_left held from interface (name ∷ names) (old ∷ olds) (new ∷ news) (Ok step) files frame more stop (inr (above, same, rest)) are is left =
    subst (λ (c : Capture). LeavesNext (λ frames. AreLeft from (c ∷ news) files frames stop) frame more (Ok step)) (sym same)
    (pass_there held name names from old olds news files step frame more stop are (omega (arith, above, is))
    (λ others fs last held_others left_others. steps_left held (from + 1) interface names olds news (Ok step) others frame fs last rest held_others is left_others) left)
steps_left held from interface (name ∷ names) (old ∷ olds) (new ∷ news) (Err found) files frame more stop (inr (above, same, rest)) are is left =
    subst (λ (c : Capture). LeavesNext (λ frames. AreLeft from (c ∷ news) files frames stop) frame more (Err found)) (sym same)
    (there_left held name names from old olds news files found frame more stop are (omega (arith, above, is))
    (λ others fs last held_others left_others. steps_left held (from + 1) interface names olds news (Err found) others frame fs last rest held_others is left_others) left)

-- the capture at a place takes a step
pub steps_at : (held : List ℕ → Held) (from place interface : ℕ) (names : List (List ℕ)) (olds : List Capture) (name any : List ℕ) (old new : Capture) (result : Result Step CaptureFault)
    → interface ≡ from + place → place < length names → place < length olds → name ≡ get_or names place any → old ≡ get_or olds place old → StepsSo interface (held name) (progress_of old) (progress_of new) result
    → StepsOne held from interface names olds (set olds place new) result
unfolding StepsOne
steps_at held from place interface [] olds name any old new result is named captured name_is old_is steps = absurd (omega (arith, named))
steps_at held from place interface (n ∷ names) [] name any old new result is named captured name_is old_is steps = absurd (omega (arith, captured))
steps_at held from zero interface (n ∷ names) (o ∷ olds) name any old new result is named captured name_is old_is steps =
    inl (omega (arith, is), subst (λ (t : List ℕ). StepsSo interface (held t) (progress_of o) (progress_of new) result) name_is (subst (λ (c : Capture). StepsSo interface (held name) (progress_of c) (progress_of new) result) old_is steps), refl)
steps_at held from (suc place) interface (n ∷ names) (o ∷ olds) name any old new result is named captured name_is old_is steps =
    inr (omega (arith, is), refl, steps_at held (from + 1) place interface names olds name any old new result (omega (arith, is)) (omega (arith, named)) (omega (arith, captured)) name_is old_is steps)

-- captures of files that are such are left whole
records_from : (start : Start) (bytes : List ℕ) (progress : Progress) (frames : List Frame) (stop : Stop) → IsReady start bytes progress → ReadsAs start bytes frames stop
    → AreRecords progress.form progress.start progress.reach bytes frames stop
records_from start bytes progress frames stop ready reads =
    subst (λ (r : Reach). AreRecords progress.form progress.start r bytes frames stop) (sym ready.unseen.first)
    (subst (λ (s : Start). AreRecords progress.form s (beginning s) bytes frames stop) (sym ready.start_is) ((readings_are_records progress.form start bytes frames stop ready.header).0 reads))

pub all_left : (base : Option ℕ) (lead interface : ℕ) (files : List (List ℕ)) (captures : List Capture) (frames : List Frame) (stop : Stop) → AreReady base lead interface files captures → AreRead base lead interface files frames stop
    → AreLeft interface captures files frames stop
unfolding AreReady AreRead AreLeft
all_left base lead interface [] [] frames stop ready read = read
all_left base lead interface [] (capture ∷ captures) frames stop ready read = absurd ready
all_left base lead interface (bytes ∷ files) [] frames stop ready read = absurd ready
all_left base lead interface (bytes ∷ files) (capture ∷ captures) frames stop ready (own, others, end, last, reads, faultless, rest, are, stops) =
    let left : Leaves interface (progress_of capture) bytes own end = record {
      interface_is = ap (λ (s : Start). s.interface) ready.0.start_is;
      agrees = ready.0.agrees;
      records = records_from (standing base lead interface) bytes (progress_of capture) own end ready.0 reads;
      faultless = faultless;
    } in
    (own, others, end, last, left, all_left base lead (interface + 1) files captures others last ready.1 rest, are, stops)
