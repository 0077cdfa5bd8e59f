-- Which frame comes next of captures that are read together.
use Rattle.std.proofs.Common.{◌≡◌, ℕ, ◌+◌, ◌<◌, ◌≤◌, Bool, true, false, nat_lt, List, [], ◌∷◌, length, Option, Some, None, inl, inr, refl, sym, ap, subst, ◌∙◌, arith}
use Rattle.std.proofs.lemmas.Bool.Decides.{nat_tests}
use Rattle.rm_edge.specs.Outside.{Held, File}
use Rattle.rm_model.specs.Journal.{Frame}
use Rattle.rm_pcap.specs.declared.form.Form.{Form}
use Rattle.rm_pcap.specs.declared.start.Start.{Start}
use Rattle.rm_pcap.specs.declared.reach.Reach.{Reach}
use Rattle.rm_pcap.specs.declared.fault.PcapFault.{PcapFault}
use Rattle.rm_pcap.specs.declared.fault.PcapFault.TheVariants.{Magic, Version, LinkType, Included, Original, Late, TooMany, Read, NoMemory}
use Rattle.rm_pcap.specs.declared.capture.Capture.{Capture}
use Rattle.rm_pcap.specs.Records.{Stop, Broken}
use Rattle.rm_pcap.specs.Steps.{Found, Whole, Stops as StopsAt, found_at, AreRecords}
use Rattle.rm_pcap.specs.Progress.{Progress, moment_found}
use Rattle.rm_pcap.specs.Calls.{LooksAt, Fails}
use Rattle.rm_pcap.specs.View.{progress_of}
use Rattle.rm_pcap.proofs.RecordLaws.{taken}
use Rattle.rm_captures.specs.Merge.{merge}
use Rattle.rm_captures.specs.Rounds.{IsFaultless}
use Rattle.rm_captures.specs.Reading.{AreHeld}
use Rattle.rm_captures.specs.Left.{Leaves, AreLeft, IsNext, IsOfRecords, sooner}
use Rattle.rm_captures.specs.declared.coming.Coming.{Coming}
use Rattle.rm_captures.proofs.MergeLemmas.{merge_first, merge_second, merge_none, merge_alone}

-- what a capture has next, by its moment, is the first of its frames that are left
abbrev pub IsOwn : ℕ → List Frame → Option ℕ → Type 0
IsOwn interface [] moment = moment ≡ None
IsOwn interface (frame ∷ more) moment = (moment ≡ Some frame.moment) × (frame.interface ≡ interface)

by_records : (form : Form) (start : Start) (reach : Reach) (bytes : List ℕ) (frames : List Frame) (stop : Stop) (found : Found) → found ≡ found_at form start reach bytes
    → AreRecords form start reach bytes frames stop → IsOwn start.interface frames (moment_found found)
unfolding AreRecords
by_records form start reach bytes [] stop found is are = ap moment_found (is ∙ are)
by_records form start reach bytes (frame ∷ more) stop found is (next, first, rest) =
    (ap moment_found (is ∙ first), ap (λ (f : Frame). f.interface) (sym (taken form start reach next bytes frame first).is_frame))

pub own_next : (interface : ℕ) (held : Held) (old new : Progress) (bytes : List ℕ) (frames : List Frame) (stop : Stop) (moment : Option ℕ) → held ≡ File bytes → LooksAt held old new moment
    → Leaves interface old bytes frames stop → IsOwn interface frames moment
own_next interface held old new bytes frames stop moment is (found, looks, told) left =
    let own = by_records old.form old.start old.reach bytes frames stop found (looks.finds.stands bytes is left.agrees) left.records in
    subst (λ (k : ℕ). IsOwn k frames moment) left.interface_is (subst (IsOwn old.start.interface frames) (sym told) own)

-- the next one was looked at
pub leaves_looking : (interface : ℕ) (held : Held) (old new : Progress) (bytes : List ℕ) (frames : List Frame) (stop : Stop) (moment : Option ℕ) → held ≡ File bytes → LooksAt held old new moment
    → Leaves interface old bytes frames stop → Leaves interface new bytes frames stop
leaves_looking interface held old new bytes frames stop moment is (found, looks, told) left = record {
  interface_is = ap (λ (p : Progress). p.start.interface) looks.place ∙ left.interface_is;
  agrees = looks.finds.agrees bytes is left.agrees;
  records = subst (λ (p : Progress). AreRecords p.form p.start p.reach bytes frames stop) (sym looks.place) left.records;
  faultless = left.faultless;
}

-- a capture of which records are left has no fault there
broken_records : (form : Form) (start : Start) (reach : Reach) (bytes : List ℕ) (frames : List Frame) (stop : Stop) (fault : PcapFault) → found_at form start reach bytes ≡ StopsAt (Broken fault)
    → AreRecords form start reach bytes frames stop → IsFaultless stop → ⊥
unfolding AreRecords
broken_records form start reach bytes [] stop fault found are faultless = let e : StopsAt stop ≡ StopsAt (Broken fault) = sym are ∙ found in let same : stop ≡ Broken fault = cc in subst IsFaultless same faultless
broken_records form start reach bytes (frame ∷ more) stop fault found (next, first, rest) faultless = let e : Whole frame next ≡ StopsAt (Broken fault) = sym first ∙ found in cc

pub fails_by_read : (interface : ℕ) (held : Held) (progress : Progress) (bytes : List ℕ) (frames : List Frame) (stop : Stop) (fault : PcapFault) → held ≡ File bytes → Fails held progress fault
    → Leaves interface progress bytes frames stop → fault ≡ Read
fails_by_read interface held progress bytes frames stop fault is fails left = elim fails.cause [
  | inl read ↦ read
  | inr breaks ↦ absurd (broken_records progress.form progress.start progress.reach bytes frames stop fault (breaks.stands bytes is left.agrees.read) left.records left.faultless)
]

-- the sooner of two comes first in both
pub sooner_first : (interface : ℕ) (own others : List Frame) (moment : Option ℕ) (next : Option Coming) → IsOwn interface own moment → IsNext others next
    → IsNext (merge own others) (sooner interface moment next)
sooner_first interface [] others moment next mine theirs = subst (λ (frames : List Frame). IsNext frames (sooner interface moment next)) (sym (merge_none others)) (subst (λ (m : Option ℕ). IsNext others (sooner interface m next)) (sym mine) theirs)
sooner_first interface (f ∷ fs) [] moment next mine theirs =
    subst (λ (frames : List Frame). IsNext frames (sooner interface moment next)) (sym (merge_alone (f ∷ fs)))
    (rw (mine.0, theirs) (ap (λ (k : ℕ). let c : Coming = record { interface = k; moment = f.moment } in Some c) (sym mine.1)))
sooner_first interface (f ∷ fs) (g ∷ gs) moment next mine theirs = by_test (nat_lt g.moment f.moment) refl
  where
    by_test : (later : Bool) → nat_lt g.moment f.moment ≡ later → IsNext (merge (f ∷ fs) (g ∷ gs)) (sooner interface moment next)
    by_test true test =
        let lt : g.moment < f.moment = grind (arith, nat_tests) in
        subst (λ (frames : List Frame). IsNext frames (sooner interface moment next)) (sym (merge_second f g fs gs lt)) (rw (mine.0, theirs, test) refl)
    by_test false test =
        let le : f.moment ≤ g.moment = grind (arith, nat_tests) in
        subst (λ (frames : List Frame). IsNext frames (sooner interface moment next)) (sym (merge_first f g fs gs le))
        (rw (mine.0, theirs, test) (ap (λ (k : ℕ). let c : Coming = record { interface = k; moment = f.moment } in Some c) (sym mine.1)))

-- no file, and no capture
none_next : (held : List ℕ → Held) (interface : ℕ) (captures : List Capture) (files : List (List ℕ)) (frames : List Frame) (stop : Stop) → AreHeld held [] files → AreLeft interface captures files frames stop → IsNext frames None
unfolding AreHeld AreLeft
none_next held interface [] [] frames stop are left = subst (λ (f : List Frame). IsNext f None) (sym left.0) refl
none_next held interface (capture ∷ more) [] frames stop are left = absurd left
none_next held interface captures (bytes ∷ files) frames stop are left = absurd are

pub next_none : (held : List ℕ → Held) (names : List (List ℕ)) (interface : ℕ) (captures : List Capture) (files : List (List ℕ)) (frames : List Frame) (stop : Stop) → names ≡ [] → AreHeld held names files
    → AreLeft interface captures files frames stop → IsNext frames None
next_none held names interface captures files frames stop none are left =
    none_next held interface captures files frames stop (subst (λ (t : List (List ℕ)). AreHeld held t files) none are) left

pub no_capture : (held : List ℕ → Held) (name : List ℕ) (names : List (List ℕ)) (interface : ℕ) (captures : List Capture) (files : List (List ℕ)) (frames : List Frame) (stop : Stop) → length captures ≡ 0 → AreHeld held (name ∷ names) files
    → AreLeft interface captures files frames stop → ⊥
unfolding AreHeld AreLeft
no_capture held name names interface (capture ∷ more) files frames stop none are left = omega (arith, none)
no_capture held name names interface [] [] frames stop none are left = are
no_capture held name names interface [] (bytes ∷ files) frames stop none are left = left

-- what comes next of a capture, and of those behind it
pub next_more : (held : List ℕ → Held) (name : List ℕ) (names : List (List ℕ)) (interface : ℕ) (old new : Capture) (olds news : List Capture) (files : List (List ℕ)) (frames : List Frame) (stop : Stop) (moment : Option ℕ)
    (others : Option Coming) → AreHeld held (name ∷ names) files → LooksAt (held name) (progress_of old) (progress_of new) moment
    → ((more : List (List ℕ)) (fs : List Frame) (st : Stop) → AreHeld held names more → AreLeft (interface + 1) olds more fs st → IsNext fs others × AreLeft (interface + 1) news more fs st)
    → AreLeft interface (old ∷ olds) files frames stop → IsNext frames (sooner interface moment others) × AreLeft interface (new ∷ news) files frames stop
unfolding AreHeld AreLeft
next_more held name names interface old new olds news [] frames stop moment others are looks rest left = absurd are
next_more held name names interface old new olds news (bytes ∷ files) frames stop moment others are looks rest (own, more, end, last, leaves, behind, frames_are, stop_is) =
    let mine = own_next interface (held name) (progress_of old) (progress_of new) bytes own end moment are.0 looks leaves in
    let still = leaves_looking interface (held name) (progress_of old) (progress_of new) bytes own end moment are.0 looks leaves in
    let r = rest files more last are.1 behind in (
      subst (λ (f : List Frame). IsNext f (sooner interface moment others)) (sym frames_are) (sooner_first interface own more moment others mine r.0),
      (own, more, end, last, still, r.1, frames_are, stop_is),
    )

-- a look that fails, at a capture and behind it
pub next_fails : (held : List ℕ → Held) (name : List ℕ) (names : List (List ℕ)) (interface : ℕ) (old new : Capture) (olds : List Capture) (files : List (List ℕ)) (frames : List Frame) (stop : Stop) (fault : PcapFault)
    → AreHeld held (name ∷ names) files → Fails (held name) (progress_of old) fault → progress_of new ≡ progress_of old → AreLeft interface (old ∷ olds) files frames stop
    → (fault ≡ Read) × AreLeft interface (new ∷ olds) files frames stop
unfolding AreHeld AreLeft
next_fails held name names interface old new olds [] frames stop fault are fails same left = absurd are
next_fails held name names interface old new olds (bytes ∷ files) frames stop fault are fails same (own, more, end, last, leaves, behind, frames_are, stop_is) = (
  fails_by_read interface (held name) (progress_of old) bytes own end fault are.0 fails leaves,
  (own, more, end, last, subst (λ (p : Progress). Leaves interface p bytes own end) (sym same) leaves, behind, frames_are, stop_is),
)

pub next_fails_behind : (held : List ℕ → Held) (name : List ℕ) (names : List (List ℕ)) (interface : ℕ) (old new : Capture) (olds news : List Capture) (files : List (List ℕ)) (frames : List Frame) (stop : Stop) (moment : Option ℕ)
    (fault : PcapFault) → AreHeld held (name ∷ names) files → LooksAt (held name) (progress_of old) (progress_of new) moment
    → ((more : List (List ℕ)) (fs : List Frame) (st : Stop) → AreHeld held names more → AreLeft (interface + 1) olds more fs st → (fault ≡ Read) × AreLeft (interface + 1) news more fs st)
    → AreLeft interface (old ∷ olds) files frames stop → (fault ≡ Read) × AreLeft interface (new ∷ news) files frames stop
unfolding AreHeld AreLeft
next_fails_behind held name names interface old new olds news [] frames stop moment fault are looks rest left = absurd are
next_fails_behind held name names interface old new olds news (bytes ∷ files) frames stop moment fault are looks rest (own, more, end, last, leaves, behind, frames_are, stop_is) =
    let still = leaves_looking interface (held name) (progress_of old) (progress_of new) bytes own end moment are.0 looks leaves in
    let r = rest files more last are.1 behind in (r.0, (own, more, end, last, still, r.1, frames_are, stop_is))

-- a look fails by a read or by a rule of records
pub of_records : (held : Held) (progress : Progress) (fault : PcapFault) → Fails held progress fault → IsOfRecords fault
of_records held progress Read fails = tt
of_records held progress (Included at) fails = tt
of_records held progress (Original at) fails = tt
of_records held progress (Late at) fails = tt
of_records held progress TooMany fails = tt
of_records held progress Magic fails = elim fails.cause [ inl e ↦ absurd cc | inr breaks ↦ breaks.place ]
of_records held progress Version fails = elim fails.cause [ inl e ↦ absurd cc | inr breaks ↦ breaks.place ]
of_records held progress LinkType fails = elim fails.cause [ inl e ↦ absurd cc | inr breaks ↦ breaks.place ]
of_records held progress NoMemory fails = elim fails.cause [ inl e ↦ absurd cc | inr breaks ↦ breaks.place ]
