-- What stands next in a file, by the octets that were read of it.
use Rattle.std.proofs.Common.{◌≡◌, ℕ, ◌+◌, ◌≤◌, ◌<◌, nat_lt, Bool, true, false, if◌then◌else◌, List, [], ◌∷◌, length, take, drop, Some, None, refl, sym, ap, subst, ◌∙◌, arith}
use Rattle.std.proofs.lemmas.Bool.Decides.{nat_tests}
use Rattle.rm_pcap.specs.declared.form.Form.{Form}
use Rattle.rm_pcap.specs.declared.start.Start.{Start}
use Rattle.rm_pcap.specs.declared.fault.PcapFault.{PcapFault}
use Rattle.rm_pcap.specs.declared.fault.PcapFault.TheVariants.{Late}
use Rattle.rm_pcap.specs.declared.reach.Reach.{Reach}
use Rattle.rm_pcap.specs.declared.record.Heading.{Heading}
use Rattle.rm_pcap.specs.declared.record.Record.{Record}
use Rattle.rm_pcap.specs.Records.{Ended, CutAt, Broken, included_of}
use Rattle.rm_pcap.specs.Steps.{Whole, Stops, found_at, found_in, found_with, fault_at, is_late, frame_at, reach_after}
use Rattle.rm_window.specs.Filling.{IsFront, Holds}
use Rattle.rm_pcap.specs.Seen.{heading_of, record_of, frame_seen, IsWholeIn, IsWholePart, IsCutPart, within, behind}
use Rattle.rm_pcap.proofs.FrontLemmas.{heading_front, record_front, late_front, fault_front}
use Rattle.rm_window.proofs.WindowLemmas.{front_of, front_short, between_front}

none_left : (form : Form) (start : Start) (reach : Reach) (xs : List ℕ) → length xs ≡ 0 → found_in form start reach xs ≡ Stops Ended
none_left form start reach [] none = refl
none_left form start reach (x ∷ xs) none = absurd (omega (arith, none))

few_left : (form : Form) (start : Start) (reach : Reach) (xs : List ℕ) → 0 < length xs → length xs < 16 → found_in form start reach xs ≡ Stops (CutAt reach.at)
few_left form start reach [] some few = absurd (omega (arith, some))
few_left form start reach (x ∷ xs) some few = grind (arith, nat_tests)

pub header_left : (form : Form) (start : Start) (reach : Reach) (xs : List ℕ) → 16 ≤ length xs → found_in form start reach xs ≡ found_with form start reach xs (fault_at form start reach xs)
header_left form start reach [] enough = absurd (omega (arith, enough))
header_left form start reach (x ∷ xs) enough = grind (arith, nat_tests)

-- the header was read whole
pub record IsHeader (reach : Reach) (bytes octets : List ℕ) : Type 0 where
  pub front : IsFront octets (drop reach.at bytes)
  pub enough : 16 ≤ length octets

pub is_header : (reach : Reach) (bytes octets window : List ℕ) → octets ≡ window → Holds bytes reach.at 16 window → 16 ≤ length window → IsHeader reach bytes octets
is_header reach bytes octets window is holds enough =
    subst (λ (t : List ℕ). IsHeader reach bytes t) (sym is) (record { front = holds.front; enough = enough })

header_same : (reach : Reach) (bytes octets : List ℕ) → IsHeader reach bytes octets → take 16 octets ≡ take 16 (drop reach.at bytes)
header_same reach bytes octets h = front_of 16 octets (drop reach.at bytes) h.front h.enough

-- the header tells of the octets that are left what it tells of those that were read
fault_same : (form : Form) (start : Start) (reach : Reach) (bytes octets : List ℕ) → IsHeader reach bytes octets → fault_at form start reach octets ≡ fault_at form start reach (drop reach.at bytes)
fault_same form start reach bytes octets h =
    sym (fault_front form start reach octets) ∙ ap (fault_at form start reach) (header_same reach bytes octets h) ∙ fault_front form start reach (drop reach.at bytes)

heading_same : (form : Form) (start : Start) (reach : Reach) (bytes octets : List ℕ) → IsHeader reach bytes octets → heading_of form start reach octets ≡ heading_of form start reach (drop reach.at bytes)
heading_same form start reach bytes octets h = sym (heading_front form start reach octets) ∙ ap (heading_of form start reach) (header_same reach bytes octets h) ∙ heading_front form start reach (drop reach.at bytes)

late_same : (form : Form) (start : Start) (reach : Reach) (bytes octets : List ℕ) → IsHeader reach bytes octets → is_late form start reach octets ≡ is_late form start reach (drop reach.at bytes)
late_same form start reach bytes octets h =
    sym (late_front form start reach octets) ∙ ap (is_late form start reach) (header_same reach bytes octets h) ∙ late_front form start reach (drop reach.at bytes)

record_same : (form : Form) (start : Start) (reach : Reach) (bytes octets : List ℕ) → IsHeader reach bytes octets → record_of form start reach octets ≡ record_of form start reach (drop reach.at bytes)
record_same form start reach bytes octets h =
    sym (record_front form start reach octets) ∙ ap (record_of form start reach) (header_same reach bytes octets h) ∙ record_front form start reach (drop reach.at bytes)

pub found_broken : (form : Form) (start : Start) (reach : Reach) (bytes octets : List ℕ) (fault : PcapFault) → IsHeader reach bytes octets → fault_at form start reach octets ≡ Some fault
    → found_at form start reach bytes ≡ Stops (Broken fault)
unfolding found_at
found_broken form start reach bytes octets fault h is =
    let xs = drop reach.at bytes in
    header_left form start reach xs (omega (arith, h.enough, front_short octets xs h.front)) ∙ ap (found_with form start reach xs) (sym (fault_same form start reach bytes octets h) ∙ is)

-- a record that is cut short behind its header
pub cut_behind : (form : Form) (start : Start) (reach : Reach) (bytes header octets : List ℕ) (heading : Heading) → IsHeader reach bytes header → fault_at form start reach header ≡ None
    → heading ≡ heading_of form start reach header → Holds bytes reach.at (16 + heading.included) octets → length octets < 16 + heading.included → IsCutPart form start reach (drop reach.at bytes)
cut_behind form start reach bytes header octets heading h none is holds few =
    let included : heading.included ≡ included_of form (drop reach.at bytes) = ap (λ (t : Heading). t.included) (is ∙ heading_same form start reach bytes header h) in
    behind (omega (arith, h.enough, front_short header (drop reach.at bytes) h.front)) (sym (fault_same form start reach bytes header h) ∙ none) (omega (arith, included, few, holds.all few))

-- a record that is whole
pub whole_part : (form : Form) (start : Start) (reach : Reach) (bytes header octets : List ℕ) (heading : Heading) → IsHeader reach bytes header → fault_at form start reach header ≡ None
    → heading ≡ heading_of form start reach header → IsFront octets (drop reach.at bytes) → 16 + heading.included ≤ length octets → IsWholePart form start reach (drop reach.at bytes) heading
whole_part form start reach bytes header octets heading h none is front all = record {
  long = omega (arith, all, front_short octets (drop reach.at bytes) front);
  numbers = is ∙ heading_same form start reach bytes header h;
  faultless = sym (fault_same form start reach bytes header h) ∙ none;
}

-- the header says the same in the octets of the window then
pub heading_in : (form : Form) (start : Start) (reach : Reach) (header octets : List ℕ) (heading : Heading) → IsFront header octets → 16 ≤ length header → heading ≡ heading_of form start reach header → heading ≡ heading_of form start reach octets
heading_in form start reach header octets heading front enough is =
    is ∙ sym (heading_front form start reach header) ∙ ap (heading_of form start reach) (front_of 16 header octets front enough) ∙ heading_front form start reach octets

pub faultless_in : (form : Form) (start : Start) (reach : Reach) (header octets : List ℕ) → IsFront header octets → 16 ≤ length header → fault_at form start reach header ≡ None
    → fault_at form start reach octets ≡ None
faultless_in form start reach header octets front enough none =
    sym (fault_front form start reach octets) ∙ ap (fault_at form start reach) (sym (front_of 16 header octets front enough)) ∙ fault_front form start reach header ∙ none

-- what is found where none is left, and where a record is cut short
pub found_end : (form : Form) (start : Start) (reach : Reach) (bytes : List ℕ) → length (drop reach.at bytes) ≡ 0 → Stops Ended ≡ found_at form start reach bytes
unfolding found_at
found_end form start reach bytes none = sym (none_left form start reach (drop reach.at bytes) none)

pub found_cut : (form : Form) (start : Start) (reach : Reach) (bytes : List ℕ) → IsCutPart form start reach (drop reach.at bytes) → Stops (CutAt reach.at) ≡ found_at form start reach bytes
unfolding found_at
found_cut form start reach bytes (within some few) = sym (few_left form start reach (drop reach.at bytes) some few)
found_cut form start reach bytes (behind enough none short) =
    let xs = drop reach.at bytes in
    let cut : found_with form start reach xs None ≡ Stops (CutAt reach.at) = grind (arith, nat_tests) in
    sym (header_left form start reach xs enough ∙ ap (found_with form start reach xs) none ∙ cut)

-- what is found where a record is whole, by whether it is late
by_late : (form : Form) (start : Start) (reach : Reach) (bytes : List ℕ) (heading : Heading) → IsWholePart form start reach (drop reach.at bytes) heading
    → found_at form start reach bytes
    ≡ (if is_late form start reach (drop reach.at bytes) then Stops (Broken (Late reach.at)) else Whole (frame_at form start reach (drop reach.at bytes)) (reach_after form start reach (drop reach.at bytes)))
unfolding found_at
by_late form start reach bytes heading part =
    let xs = drop reach.at bytes in
    let included : heading.included ≡ included_of form xs = ap (λ (t : Heading). t.included) part.numbers in
    let long : nat_lt (length xs) (16 + included_of form xs) ≡ false = grind (arith, nat_tests) in
    header_left form start reach xs (omega (arith, part.long)) ∙ ap (found_with form start reach xs) part.faultless ∙ rw long refl

-- by what a record is, or isn't one
pub not_late : (late : Bool) (seen is : Record) → Some seen ≡ (if late then None else Some is) → (late ≡ false) × (seen ≡ is)
not_late true seen is e = absurd cc
not_late false seen is e = (refl, cc)

pub so_late : (late : Bool) (is : Record) → None ≡ (if late then None else Some is) → late ≡ true
so_late true is e = refl
so_late false is e = absurd cc

-- the octets in the window are at the front of what is left, and a record is whole in both
pub whole_header : (form : Form) (start : Start) (reach : Reach) (bytes octets : List ℕ) (heading : Heading) → IsFront octets (drop reach.at bytes) → IsWholeIn form start reach octets heading → IsHeader reach bytes octets
whole_header form start reach bytes octets heading front whole = record { front = front; enough = omega (arith, whole.long) }

pub found_late : (form : Form) (start : Start) (reach : Reach) (bytes octets : List ℕ) (heading : Heading) → IsFront octets (drop reach.at bytes) → IsWholeIn form start reach octets heading
    → IsWholePart form start reach (drop reach.at bytes) heading → None ≡ (if is_late form start reach octets then None else Some (record_of form start reach octets))
    → found_at form start reach bytes ≡ Stops (Broken (Late reach.at))
found_late form start reach bytes octets heading front whole part none =
    let late = sym (late_same form start reach bytes octets (whole_header form start reach bytes octets heading front whole)) ∙ so_late (is_late form start reach octets) (record_of form start reach octets) none in
    by_late form start reach bytes heading part ∙ rw late refl

pub found_whole : (form : Form) (start : Start) (reach : Reach) (bytes octets : List ℕ) (heading : Heading) (seen : Record) → IsFront octets (drop reach.at bytes) → IsWholeIn form start reach octets heading
    → IsWholePart form start reach (drop reach.at bytes) heading → Some seen ≡ (if is_late form start reach octets then None else Some (record_of form start reach octets))
    → Whole (frame_seen start.interface seen (take seen.included (drop 16 octets))) seen.after ≡ found_at form start reach bytes
found_whole form start reach bytes octets heading seen front whole part some =
    let xs = drop reach.at bytes in
    let h = whole_header form start reach bytes octets heading front whole in
    let is = not_late (is_late form start reach octets) seen (record_of form start reach octets) some in
    let late = sym (late_same form start reach bytes octets h) ∙ is.0 in
    let included : seen.included ≡ heading.included = ap (λ (r : Record). r.included) is.1 ∙ sym (ap (λ (t : Heading). t.included) whole.numbers) in
    let captured : take seen.included (drop 16 octets) ≡ take seen.included (drop 16 xs) = between_front 16 seen.included octets xs front (omega (arith, included, whole.long)) in
    let there = is.1 ∙ record_same form start reach bytes octets h in
    ap (λ (t : List ℕ). Whole (frame_seen start.interface seen t) seen.after) captured
    ∙ ap (λ (r : Record). Whole (frame_seen start.interface r (take r.included (drop 16 xs))) r.after) there ∙ sym (by_late form start reach bytes heading part ∙ rw late refl)

-- a record that was seen is whole in the window
pub long_in : (form : Form) (start : Start) (reach : Reach) (octets : List ℕ) (heading : Heading) (seen : Record) → IsWholeIn form start reach octets heading
    → Some seen ≡ (if is_late form start reach octets then None else Some (record_of form start reach octets)) → 16 + seen.included ≤ length octets
long_in form start reach octets heading seen whole some =
    let is = not_late (is_late form start reach octets) seen (record_of form start reach octets) some in
    let included : seen.included ≡ heading.included = ap (λ (r : Record). r.included) is.1 ∙ sym (ap (λ (t : Heading). t.included) whole.numbers) in
    omega (arith, included, whole.long)
