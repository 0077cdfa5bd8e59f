-- The moments of the frames of captures don't fall.
use Rattle.std.proofs.Common.{◌≡◌, ℕ, ◌+◌, ◌<◌, ◌≤◌, Bool, true, false, List, [], ◌∷◌, Option, Result, Ok, Err, refl, sym, ap, subst, ◌∙◌, arith}
use Rattle.std.specs.Prelude.{nat_lt}
use Rattle.std.specs.List.Sorted.{IsNonDecreasingBy}
use Rattle.std.proofs.lemmas.Bool.Decides.{nat_tests}
use Rattle.rm_model.specs.Journal.{Frame}
use Rattle.rm_pcap.specs.declared.capture.Capture.{Capture}
use Rattle.rm_pcap.specs.declared.fault.PcapFault.{PcapFault}
use Rattle.rm_pcap.specs.declared.form.Form.{Form}
use Rattle.rm_pcap.specs.declared.reach.Reach.{Reach}
use Rattle.rm_pcap.specs.declared.start.Start.{Start}
use Rattle.rm_pcap.specs.Header.{header_of}
use Rattle.rm_pcap.specs.Records.{Stop, Broken, ReadsAs}
use Rattle.rm_pcap.specs.Steps.{AreRecords, beginning}
use Rattle.rm_pcap.specs.View.{progress_of}
use Rattle.rm_pcap.proofs.ReadingLemmas.{readings_are_records}
use Rattle.rm_pcap.proofs.RecordLaws.{taken}
use Rattle.rm_captures.specs.Left.{AreLeft}
use Rattle.rm_captures.specs.Merge.{merge}
use Rattle.rm_captures.specs.Rounds.{AreCaptures, AreRead, standing}
use Rattle.rm_captures.proofs.MergeLemmas.{merge_alone, merge_first, merge_none, merge_second}
use Rattle.rm_probe.proofs.OrderLemmas.{Rises, rises_all}

abbrev moment_in : Frame → ℕ
moment_in frame = frame.moment

-- frames at moments that don't fall, and none before one
abbrev Come : ℕ → List Frame → Type 0
Come low frames = Rises moment_in low frames

sooner : (low later : ℕ) (frames : List Frame) → low ≤ later → Come later frames → Come low frames
sooner low later [] le come = tt
sooner low later (frame ∷ frames) le come = (omega (arith, le, come.0), come.1)

-- two lists of them in one
merged_one : (g : Frame) (gs : List Frame) → ((fs : List Frame) (low : ℕ) → Come low fs → Come low gs → Come low (merge fs gs))
    → (fs : List Frame) (low : ℕ) → Come low fs → Come low (g ∷ gs) → Come low (merge fs (g ∷ gs))
merged_one g gs rest [] low first second = subst (Come low) (sym (merge_none (g ∷ gs))) second
merged_one g gs rest (f ∷ fs) low first second = by_test (nat_lt g.moment f.moment) refl (merged_one g gs rest fs)
  where
    by_test : (later : Bool) → nat_lt g.moment f.moment ≡ later → ((low : ℕ) → Come low fs → Come low (g ∷ gs) → Come low (merge fs (g ∷ gs))) → Come low (merge (f ∷ fs) (g ∷ gs))
    by_test true test behind =
        let less : g.moment < f.moment = grind (arith, nat_tests) in
        subst (Come low) (sym (merge_second f g fs gs less)) (second.0, rest (f ∷ fs) g.moment (omega (arith, less), first.1) second.1)
    by_test false test behind =
        let le : f.moment ≤ g.moment = grind (arith, nat_tests) in
        subst (Come low) (sym (merge_first f g fs gs le)) (first.0, behind f.moment first.1 (le, second.1))

merged : (gs fs : List Frame) (low : ℕ) → Come low fs → Come low gs → Come low (merge fs gs)
merged [] fs low first second = subst (Come low) (sym (merge_alone fs)) first
merged (g ∷ gs) fs low first second = merged_one g gs (merged gs) fs low first second

-- the frames of the records of a file
of_records : (form : Form) (start : Start) (reach : Reach) (bytes : List ℕ) (frames : List Frame) (stop : Stop) → AreRecords form start reach bytes frames stop → Come reach.last frames
unfolding AreRecords
of_records form start reach bytes [] stop are = tt
of_records form start reach bytes (frame ∷ frames) stop are =
    let t = taken form start reach are.0 bytes frame are.1 in
    let moment = ap (λ (f : Frame). f.moment) t.is_frame in
    let last : are.0.last ≡ frame.moment = ap (λ (r : Reach). r.last) (sym t.is_next) ∙ moment in
    (omega (arith, moment), subst (λ (low : ℕ). Come low frames) last (of_records form start are.0 bytes frames stop are.2))

-- those of a file whose header has a fault
none_read : (start : Start) (bytes : List ℕ) (frames : List Frame) (stop : Stop) (fault : PcapFault) → header_of bytes ≡ Err fault → ReadsAs start bytes frames stop
    → (frames ≡ []) × (stop ≡ Broken fault)
unfolding ReadsAs
none_read start bytes frames stop fault header reads = rw header at reads

of_file : (start : Start) (bytes : List ℕ) (frames : List Frame) (stop : Stop) → ReadsAs start bytes frames stop → Come 0 frames
of_file start bytes frames stop reads = by_header (header_of bytes) refl
  where
    by_header : (header : Result Form PcapFault) → header_of bytes ≡ header → Come 0 frames
    by_header (Ok form) is =
        sooner 0 start.lead frames (omega arith) (of_records form start (beginning start) bytes frames stop ((readings_are_records form start bytes frames stop is).0 reads))
    by_header (Err fault) is = let none = none_read start bytes frames stop fault is reads in subst (Come 0) (sym none.0) tt

of_files : (base : Option ℕ) (lead interface : ℕ) (files : List (List ℕ)) (frames : List Frame) (stop : Stop) → AreRead base lead interface files frames stop → Come 0 frames
unfolding AreRead
of_files base lead interface [] frames stop are = subst (Come 0) (sym are.0) tt
of_files base lead interface (bytes ∷ files) frames stop (own, others, end, rest, reads, good, more, all, stops) =
    subst (Come 0) (sym all) (merged others own 0 (of_file (standing base lead interface) bytes own end reads) (of_files base lead (interface + 1) files others rest more))

of_left : (interface : ℕ) (captures : List Capture) (files : List (List ℕ)) (frames : List Frame) (stop : Stop) → AreLeft interface captures files frames stop → Come 0 frames
unfolding AreLeft
of_left interface [] [] frames stop left = subst (Come 0) (sym left.0) tt
of_left interface [] (bytes ∷ files) frames stop left = absurd left
of_left interface (capture ∷ captures) [] frames stop left = absurd left
of_left interface (capture ∷ captures) (bytes ∷ files) frames stop (own, others, end, rest, leaves, left, all, stops) =
    let progress = progress_of capture in
    let mine : Come 0 own = sooner 0 progress.reach.last own (omega arith) (of_records progress.form progress.start progress.reach bytes own end leaves.records) in
    subst (Come 0) (sym all) (merged others own 0 mine (of_left (interface + 1) captures files others rest left))

-- the frames of captures, and those that are left of them
pub captures_rise : (lead : ℕ) (files : List (List ℕ)) (frames : List Frame) (stop : Stop) → AreCaptures lead files frames stop → IsNonDecreasingBy (λ (frame : Frame). frame.moment) frames
captures_rise lead files frames stop are = rises_all moment_in 0 frames (of_files are.base lead 1 files frames stop are.read)

pub left_rise : (captures : List Capture) (files : List (List ℕ)) (frames : List Frame) (stop : Stop) → AreLeft 1 captures files frames stop → IsNonDecreasingBy (λ (frame : Frame). frame.moment) frames
left_rise captures files frames stop left = rises_all moment_in 0 frames (of_left 1 captures files frames stop left)
