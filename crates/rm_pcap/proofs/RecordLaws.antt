-- A file has its records in one way.
use Rattle.std.proofs.Common.{◌≡◌, ℕ, zero, suc, ◌+◌, ◌-◌, ◌≤◌, ◌<◌, nat_lt, Bool, true, false, if◌then◌else◌, List, [], ◌∷◌, length, drop, Option, Some, None, refl, sym, ap, ap, subst, ◌∙◌, arith}
use Rattle.std.proofs.lemmas.List.{length-drop}
use Rattle.std.proofs.lemmas.Bool.Decides.{nat_tests}
use Rattle.rm_model.specs.Journal.{Frame}
use Rattle.rm_pcap.specs.declared.form.Form.{Form}
use Rattle.rm_pcap.specs.declared.start.Start.{Start}
use Rattle.rm_pcap.specs.declared.fault.PcapFault.{PcapFault}
use Rattle.rm_pcap.specs.declared.fault.PcapFault.TheVariants.{Late}
use Rattle.rm_pcap.specs.declared.reach.Reach.{Reach}
use Rattle.rm_pcap.specs.Records.{Stop, CutAt, Broken, included_of}
use Rattle.rm_pcap.specs.Steps.{Found, Whole, Stops, found_at, found_in, found_with, fault_at, is_late, frame_at, reach_after, beginning, AreRecords}

pub one_list : (form : Form) (start : Start) (reach : Reach) (bytes : List ℕ) (frames others : List Frame) (stop last : Stop)
    → AreRecords form start reach bytes frames stop → AreRecords form start reach bytes others last → (frames ≡ others) × (stop ≡ last)
unfolding AreRecords
one_list form start reach bytes [] [] stop last a b = let e : Stops stop ≡ Stops last = sym a ∙ b in (refl, cc)
one_list form start reach bytes [] (other ∷ more) stop last a b = absurd (let e : Stops stop ≡ Whole other b.0 = sym a ∙ b.1 in cc)
one_list form start reach bytes (frame ∷ rest) [] stop last a b = absurd (let e : Whole frame a.0 ≡ Stops last = sym a.1 ∙ b in cc)
one_list form start reach bytes (frame ∷ rest) (other ∷ more) stop last a b =
    let e : Whole frame a.0 ≡ Whole other b.0 = sym a.1 ∙ b.1 in
    let same : frame ≡ other = cc in
    let next : b.0 ≡ a.0 = cc in
    let one = one_list form start a.0 bytes rest more stop last a.2 (subst (λ (r : Reach). AreRecords form start r bytes more last) next b.2) in
    (ap (λ (f : Frame). f ∷ rest) same ∙ ap (λ (t : List Frame). other ∷ t) one.0, one.1)

-- a whole record stands at the front of the octets that are left
pub record IsTaken (form : Form) (start : Start) (reach next : Reach) (xs : List ℕ) (frame : Frame) : Type 0 where
  pub enough : 16 + included_of form xs ≤ length xs
  pub faultless : fault_at form start reach xs ≡ None
  pub soon : is_late form start reach xs ≡ false
  pub is_frame : frame_at form start reach xs ≡ frame
  pub is_next : reach_after form start reach xs ≡ next

taken_with : (form : Form) (start : Start) (reach next : Reach) (xs : List ℕ) (fault : Option PcapFault) (frame : Frame) → fault_at form start reach xs ≡ fault
    → found_with form start reach xs fault ≡ Whole frame next → IsTaken form start reach next xs frame
taken_with form start reach next xs (Some fault) frame told is = absurd cc
taken_with form start reach next xs None frame told is = by_test (nat_lt (length xs) (16 + included_of form xs)) (is_late form start reach xs) refl refl is
  where
    by_test : (short late : Bool) → nat_lt (length xs) (16 + included_of form xs) ≡ short → is_late form start reach xs ≡ late
        → (if short then Stops (CutAt reach.at) else if late then Stops (Broken (Late reach.at)) else Whole (frame_at form start reach xs) (reach_after form start reach xs)) ≡ Whole frame next
        → IsTaken form start reach next xs frame
    by_test true late test time e = absurd cc
    by_test false true test time e = absurd cc
    by_test false false test time e = record { enough = grind (arith, nat_tests); faultless = told; soon = time; is_frame = cc; is_next = cc }

taken_in : (form : Form) (start : Start) (reach next : Reach) (xs : List ℕ) (frame : Frame) → found_in form start reach xs ≡ Whole frame next → IsTaken form start reach next xs frame
taken_in form start reach next [] frame is = absurd cc
taken_in form start reach next (x ∷ xs) frame is = by_test (nat_lt (length (x ∷ xs)) 16) is
  where
    by_test : (short : Bool) → (if short then Stops (CutAt reach.at) else found_with form start reach (x ∷ xs) (fault_at form start reach (x ∷ xs))) ≡ Whole frame next
        → IsTaken form start reach next (x ∷ xs) frame
    by_test true e = absurd cc
    by_test false e = taken_with form start reach next (x ∷ xs) (fault_at form start reach (x ∷ xs)) frame refl e

pub taken : (form : Form) (start : Start) (reach next : Reach) (bytes : List ℕ) (frame : Frame) → found_at form start reach bytes ≡ Whole frame next
    → IsTaken form start reach next (drop reach.at bytes) frame
unfolding found_at
taken form start reach next bytes frame is = taken_in form start reach next (drop reach.at bytes) frame is

-- a record ends within the file, behind its beginning
record IsWithin (reach next : Reach) (bytes : List ℕ) : Type 0 where
  on : reach.at < next.at
  within : next.at ≤ length bytes

within : (form : Form) (start : Start) (reach next : Reach) (bytes : List ℕ) (frame : Frame) → found_at form start reach bytes ≡ Whole frame next → IsWithin reach next bytes
within form start reach next bytes frame is =
    let t = taken form start reach next bytes frame is in
    let place : reach.at + (16 + included_of form (drop reach.at bytes)) ≡ next.at = ap (λ (r : Reach). r.at) t.is_next in
    record { on = omega (arith, place); within = omega (arith, place, t.enough, length-drop reach.at bytes) }

-- some list of records
pub record SomeRecords (form : Form) (start : Start) (reach : Reach) (bytes : List ℕ) : Type 0 where
  pub frames : List Frame
  pub stop : Stop
  pub are : AreRecords form start reach bytes frames stop

by_found : (form : Form) (start : Start) (reach : Reach) (bytes : List ℕ) (found : Found) → found_at form start reach bytes ≡ found
    → ((next : Reach) → reach.at < next.at → next.at ≤ length bytes → SomeRecords form start next bytes) → SomeRecords form start reach bytes
unfolding AreRecords
by_found form start reach bytes (Stops stop) is more = record { frames = []; stop = stop; are = is }
by_found form start reach bytes (Whole frame next) is more =
    let w = within form start reach next bytes frame is in
    let left = more next w.on w.within in
    record { frames = frame ∷ left.frames; stop = left.stop; are = (next, is, left.are) }

pub some_records : (most : ℕ) (form : Form) (start : Start) (reach : Reach) (bytes : List ℕ) → length bytes - reach.at < most → SomeRecords form start reach bytes
some_records zero form start reach bytes few = absurd (omega (arith, few))
some_records (suc most) form start reach bytes few =
    by_found form start reach bytes (found_at form start reach bytes) refl (λ next on inside. some_records most form start next bytes (omega (arith, few, on, inside)))

-- the records that are left behind one that was passed
pub record Behind (form : Form) (start : Start) (next : Reach) (bytes : List ℕ) (frames : List Frame) (stop : Stop) : Type 0 where
  pub more : List Frame
  pub are : AreRecords form start next bytes more stop
  pub one : length frames ≡ 1 + length more

pub behind : (form : Form) (start : Start) (reach next : Reach) (bytes : List ℕ) (frame : Frame) (frames : List Frame) (stop : Stop)
    → found_at form start reach bytes ≡ Whole frame next → AreRecords form start reach bytes frames stop → Behind form start next bytes frames stop
unfolding AreRecords
behind form start reach next bytes frame [] stop is are = absurd (let e : Stops stop ≡ Whole frame next = sym are ∙ is in cc)
behind form start reach next bytes frame (first ∷ more) stop is are =
    let e : Whole first are.0 ≡ Whole frame next = sym are.1 ∙ is in
    let same : are.0 ≡ next = cc in
    record { more = more; are = subst (λ (r : Reach). AreRecords form start r bytes more stop) same are.2; one = omega arith }

pub none_behind : (form : Form) (start : Start) (reach : Reach) (bytes : List ℕ) (frames : List Frame) (last stop : Stop)
    → found_at form start reach bytes ≡ Stops last → AreRecords form start reach bytes frames stop → length frames ≡ 0
unfolding AreRecords
none_behind form start reach bytes [] last stop is are = refl
none_behind form start reach bytes (first ∷ more) last stop is are = absurd (let e : Whole first are.0 ≡ Stops last = sym are.1 ∙ is in cc)
