-- How the records of a capture stop, by the octets that are left.
use Rattle.std.proofs.Common.{◌≡◌, ℕ, ◌+◌, ◌≤◌, nat_lt, Bool, true, false, if◌then◌else◌, List, [], ◌∷◌, length, drop, Option, Some, None, refl, sym, ap, subst, ◌∙◌, arith}
use Rattle.std.proofs.lemmas.Bool.Decides.{nat_tests}
use Rattle.rm_pcap.specs.declared.form.Form.{Form}
use Rattle.rm_pcap.specs.declared.start.Start.{Start}
use Rattle.rm_pcap.specs.declared.fault.PcapFault.{PcapFault}
use Rattle.rm_pcap.specs.declared.fault.PcapFault.TheVariants.{Late}
use Rattle.rm_pcap.specs.declared.reach.Reach.{Reach}
use Rattle.rm_pcap.specs.Records.{Stop, Ended, CutAt, Broken, included_of}
use Rattle.rm_pcap.specs.Steps.{Whole, Stops, found_at, found_in, found_with, fault_at, is_late, frame_at, reach_after}
use Rattle.rm_pcap.specs.Seen.{IsCutPart, within, behind}
use Rattle.rm_pcap.proofs.FoundLemmas.{header_left}

-- the fault by which they stop there: that of the header, or a late moment of a record that is whole
pub data IsFaultIn (form : Form) (start : Start) (reach : Reach) (xs : List ℕ) (fault : PcapFault) : Type 0 where
  told : fault_at form start reach xs ≡ Some fault → IsFaultIn form start reach xs fault
  whole : fault ≡ Late reach.at → fault_at form start reach xs ≡ None → 16 + included_of form xs ≤ length xs → is_late form start reach xs ≡ true → IsFaultIn form start reach xs fault

-- how they stop in the octets that are left
abbrev pub StopsIn : Form → Start → Reach → List ℕ → Stop → Type 0
StopsIn form start reach xs Ended = length xs ≡ 0
StopsIn form start reach xs (CutAt at) = (at ≡ reach.at) × IsCutPart form start reach xs
StopsIn form start reach xs (Broken fault) = (16 ≤ length xs) × IsFaultIn form start reach xs fault

stops_with : (form : Form) (start : Start) (reach : Reach) (xs : List ℕ) (stop : Stop) (fault : Option PcapFault) → 16 ≤ length xs → fault_at form start reach xs ≡ fault
    → found_with form start reach xs fault ≡ Stops stop → StopsIn form start reach xs stop
stops_with form start reach xs stop (Some fault) enough is stops =
    let same : Broken fault ≡ stop = cc in subst (StopsIn form start reach xs) same (enough, told is)
stops_with form start reach xs stop None enough is stops = by_test (nat_lt (length xs) (16 + included_of form xs)) (is_late form start reach xs) refl refl stops
  where
    by_test : (short late : Bool) → nat_lt (length xs) (16 + included_of form xs) ≡ short → is_late form start reach xs ≡ late
        → (if short then Stops (CutAt reach.at) else if late then Stops (Broken (Late reach.at)) else Whole (frame_at form start reach xs) (reach_after form start reach xs)) ≡ Stops stop
        → StopsIn form start reach xs stop
    by_test true late test time e = let same : CutAt reach.at ≡ stop = cc in subst (StopsIn form start reach xs) same (refl, behind enough is (grind (arith, nat_tests)))
    by_test false true test time e = let same : Broken (Late reach.at) ≡ stop = cc in subst (StopsIn form start reach xs) same (enough, whole refl is (grind (arith, nat_tests)) time)
    by_test false false test time e = absurd cc

stops_found : (form : Form) (start : Start) (reach : Reach) (xs : List ℕ) (stop : Stop) → found_in form start reach xs ≡ Stops stop → StopsIn form start reach xs stop
stops_found form start reach [] stop is = let same : Ended ≡ stop = cc in subst (StopsIn form start reach []) same refl
stops_found form start reach (x ∷ xs) stop is = by_test (nat_lt (length (x ∷ xs)) 16) refl is
  where
    by_test : (short : Bool) → nat_lt (length (x ∷ xs)) 16 ≡ short → (if short then Stops (CutAt reach.at) else found_with form start reach (x ∷ xs) (fault_at form start reach (x ∷ xs))) ≡ Stops stop
        → StopsIn form start reach (x ∷ xs) stop
    by_test true test e = let same : CutAt reach.at ≡ stop = cc in subst (StopsIn form start reach (x ∷ xs)) same (refl, within (omega arith) (grind (arith, nat_tests)))
    by_test false test e = stops_with form start reach (x ∷ xs) stop (fault_at form start reach (x ∷ xs)) (grind (arith, nat_tests)) refl e

pub stops_in : (form : Form) (start : Start) (reach : Reach) (bytes : List ℕ) (stop : Stop) → found_at form start reach bytes ≡ Stops stop → StopsIn form start reach (drop reach.at bytes) stop
unfolding found_at
stops_in form start reach bytes stop is = stops_found form start reach (drop reach.at bytes) stop is

-- a fault by which they stop is found
pub found_fault : (form : Form) (start : Start) (reach : Reach) (bytes : List ℕ) (fault : PcapFault) → 16 ≤ length (drop reach.at bytes) → IsFaultIn form start reach (drop reach.at bytes) fault
    → found_at form start reach bytes ≡ Stops (Broken fault)
unfolding found_at
found_fault form start reach bytes fault enough (told is) =
    let xs = drop reach.at bytes in
    header_left form start reach xs enough ∙ ap (found_with form start reach xs) is
found_fault form start reach bytes fault enough (whole same none long late) =
    let xs = drop reach.at bytes in
    let short : nat_lt (length xs) (16 + included_of form xs) ≡ false = grind (arith, nat_tests) in
    header_left form start reach xs enough ∙ ap (found_with form start reach xs) none ∙ rw (short, late) (ap (λ (f : PcapFault). Stops (Broken f)) (sym same))
