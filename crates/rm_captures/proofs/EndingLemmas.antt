-- How many records of captures were passed, and whether captures of which no frame is left are cut short.
use Rattle.std.proofs.Common.{◌≡◌, ℕ, ◌+◌, Bool, true, false, List, [], ◌∷◌, length, length-append, take_while, Result, Ok, Err, refl, sym, ap, subst, ◌∙◌, arith}
use Rattle.rm_edge.specs.Outside.{Held, File}
use Rattle.rm_model.specs.Journal.{Frame}
use Rattle.rm_pcap.specs.declared.form.Form.{Form}
use Rattle.rm_pcap.specs.declared.start.Start.{Start}
use Rattle.rm_pcap.specs.declared.reach.Reach.{Reach}
use Rattle.rm_pcap.specs.declared.capture.Capture.{Capture}
use Rattle.rm_pcap.specs.declared.frame.Step.{Step}
use Rattle.rm_pcap.specs.declared.frame.Step.TheVariants.{Next, End, Cut}
use Rattle.rm_pcap.specs.Records.{Stop, Ended, CutAt, Broken}
use Rattle.rm_pcap.specs.Steps.{Found, Whole, Stops as StopsAt, found_at, AreRecords}
use Rattle.rm_pcap.specs.Progress.{Progress, Shows}
use Rattle.rm_pcap.specs.Calls.{Steps}
use Rattle.rm_pcap.specs.View.{progress_of}
use Rattle.rm_captures.specs.Merge.{frames_after, is_by, merge}
use Rattle.rm_captures.specs.Rounds.{IsFaultless, either_stop}
use Rattle.rm_captures.specs.Reading.{AreHeld}
use Rattle.rm_captures.specs.Left.{Leaves, AreLeft, EndCut, is_cut, passed_of}
use Rattle.rm_captures.specs.declared.fault.CaptureFault.{CaptureFault}
use Rattle.rm_captures.proofs.MergeLemmas.{merge_none, merge_alone}

-- of no capture none was passed
pub none_passed : (captures : List Capture) → length captures ≡ 0 → passed_of captures ≡ 0
unfolding passed_of
none_passed [] none = refl
none_passed (capture ∷ more) none = absurd (omega (arith, none))

-- and of one more
pub more_passed : (captures : List Capture) (capture : Capture) (others : List Capture) → captures ≡ capture ∷ others → passed_of captures ≡ (progress_of capture).reach.count + passed_of others
unfolding passed_of
more_passed captures capture others are = ap passed_of are

-- the records stop where a step shows it
stops_where : (form : Form) (start : Start) (reach : Reach) (bytes : List ℕ) (stop : Stop) (found : Found) → found ≡ found_at form start reach bytes → AreRecords form start reach bytes [] stop → found ≡ StopsAt stop
unfolding AreRecords
stops_where form start reach bytes stop found is are = is ∙ are

cut_by : (step : Step) (cut : Bool) (stop : Stop) (found : Found) → ((at : ℕ) → step ≡ Cut at → cut ≡ true) → (step ≡ End → cut ≡ false) → found ≡ StopsAt stop → Shows step found → cut ≡ is_cut stop
cut_by step cut stop (Whole frame after) cuts ends is shows = absurd cc
cut_by (Next lent) cut stop (StopsAt at) cuts ends is shows = absurd shows
cut_by End cut stop (StopsAt Ended) cuts ends is shows = let same : Ended ≡ stop = cc in ends refl ∙ ap is_cut same
cut_by End cut stop (StopsAt (CutAt place)) cuts ends is shows = absurd shows
cut_by End cut stop (StopsAt (Broken fault)) cuts ends is shows = absurd shows
cut_by (Cut at) cut stop (StopsAt (CutAt place)) cuts ends is shows = let same : CutAt place ≡ stop = cc in cuts at refl ∙ ap is_cut same
cut_by (Cut at) cut stop (StopsAt Ended) cuts ends is shows = absurd shows
cut_by (Cut at) cut stop (StopsAt (Broken fault)) cuts ends is shows = absurd shows

-- a step where no record is left tells how they stop
pub step_ends : (interface : ℕ) (held : Held) (old new : Progress) (bytes : List ℕ) (stop : Stop) (step : Step) (cut : Bool) → ((at : ℕ) → step ≡ Cut at → cut ≡ true) → (step ≡ End → cut ≡ false)
    → held ≡ File bytes → Steps held old new (Ok step) → Leaves interface old bytes [] stop → cut ≡ is_cut stop
step_ends interface held old new bytes stop step cut cuts ends is (found, passes, shows) left =
    cut_by step cut stop found cuts ends (stops_where old.form old.start old.reach bytes stop found (passes.finds.stands bytes is left.agrees) left.records) shows

-- no frame is left of two lists in one order
no_merge : (first : List Frame) (other : Frame) (others : List Frame) → [] ≡ merge first (other ∷ others) → ⊥
unfolding merge
no_merge first other others is = let e = ap length is in omega (arith, e, length-append (take_while (is_by other.moment) first) (other ∷ merge (frames_after other.moment first) others))

no_frames : (own others : List Frame) → [] ≡ merge own others → (own ≡ []) × (others ≡ [])
no_frames [] others is = (refl, sym (is ∙ merge_none others))
no_frames (frame ∷ own) [] is = absurd (let e : [] ≡ frame ∷ own = is ∙ merge_alone (frame ∷ own) in cc)
no_frames (frame ∷ own) (other ∷ others) is = absurd (no_merge (frame ∷ own) other others is)

either_cut : (end rest : Stop) → is_cut end ≡ true → is_cut (either_stop end rest) ≡ true
either_cut Ended rest is = absurd cc
either_cut (CutAt at) rest is = refl
either_cut (Broken fault) rest is = absurd cc

-- the captures behind one that isn't cut short decide, where its records have no fault
pub record BehindLeft (interface : ℕ) (captures : List Capture) (files : List (List ℕ)) (end stop : Stop) : Type 0 where
  pub rest : Stop
  pub left : AreLeft (interface + 1) captures files [] rest
  pub cuts : is_cut end ≡ true → is_cut stop ≡ true
  pub ends : is_cut end ≡ false → is_cut stop ≡ is_cut rest

pub left_split : (held : List ℕ → Held) (name : List ℕ) (names : List (List ℕ)) (interface : ℕ) (capture : Capture) (captures : List Capture) (files : List (List ℕ)) (stop : Stop)
    → AreHeld held (name ∷ names) files → AreLeft interface (capture ∷ captures) files [] stop
    → (bytes : List ℕ) × (more : List (List ℕ)) × (end : Stop) × (held name ≡ File bytes) × AreHeld held names more × Leaves interface (progress_of capture) bytes [] end × BehindLeft interface captures more end stop
unfolding AreHeld AreLeft
left_split held name names interface capture captures [] stop are left = absurd are
left_split held name names interface capture captures (bytes ∷ files) stop are (own, others, end, rest, leaves, behind, frames_are, stop_is) =
    let none = no_frames own others frames_are in (
      bytes,
      files,
      end,
      are.0,
      are.1,
      subst (λ (fs : List Frame). Leaves interface (progress_of capture) bytes fs end) none.0 leaves,
      record {
        rest = rest;
        left = subst (λ (fs : List Frame). AreLeft (interface + 1) captures files fs rest) none.1 behind;
        cuts = λ cut. ap is_cut stop_is ∙ either_cut end rest cut;
        ends = λ whole. ap is_cut stop_is ∙ either_end end whole leaves.faultless;
      },
    )
  where
    either_end : (end : Stop) → is_cut end ≡ false → IsFaultless end → is_cut (either_stop end rest) ≡ is_cut rest
    either_end Ended whole faultless = refl
    either_end (CutAt at) whole faultless = absurd cc
    either_end (Broken fault) whole faultless = absurd faultless

-- no capture is left, and none is cut short
pub none_cut : (held : List ℕ → Held) (names : List (List ℕ)) (interface : ℕ) (captures : List Capture) (files : List (List ℕ)) (stop : Stop) → names ≡ [] → AreHeld held names files → AreLeft interface captures files [] stop → false ≡ is_cut stop
unfolding AreHeld AreLeft
none_cut held names interface captures files stop none are left = by_files captures files (subst (λ (t : List (List ℕ)). AreHeld held t files) none are) left
  where
    by_files : (captures : List Capture) (files : List (List ℕ)) → AreHeld held [] files → AreLeft interface captures files [] stop → false ≡ is_cut stop
    by_files [] [] are left = sym (ap is_cut left.1)
    by_files (capture ∷ more) [] are left = absurd left
    by_files captures (bytes ∷ files) are left = absurd are

-- what the captures behind one answer
pub end_behind : (stop rest : Stop) (result : Result Bool CaptureFault) → is_cut stop ≡ is_cut rest → EndCut rest result → EndCut stop result
end_behind stop rest (Ok cut) same is = is ∙ sym same
end_behind stop rest (Err found) same is = is
