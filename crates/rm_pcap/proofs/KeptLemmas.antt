-- A record of which all was read already: it is found whatever a shelf gives then.
use Rattle.std.proofs.Common.{◌≡◌, ℕ, ◌+◌, nat_lt, false, if◌then◌else◌, List, length, take, drop, Option, Some, None, refl, sym, ap, subst, ◌∙◌, arith}
use Rattle.std.proofs.lemmas.Bool.Decides.{nat_tests}
use Rattle.rm_pcap.specs.declared.form.Form.{Form}
use Rattle.rm_pcap.specs.declared.start.Start.{Start}
use Rattle.rm_pcap.specs.declared.fault.PcapFault.{PcapFault}
use Rattle.rm_pcap.specs.declared.fault.PcapFault.TheVariants.{Late}
use Rattle.rm_pcap.specs.declared.reach.Reach.{Reach}
use Rattle.rm_pcap.specs.declared.record.Heading.{Heading}
use Rattle.rm_pcap.specs.declared.record.Record.{Record}
use Rattle.rm_pcap.specs.Records.{Broken, included_of}
use Rattle.rm_pcap.specs.Steps.{Whole, Stops, IsThere, found_in, found_with, fault_at, is_late, frame_at, reach_after}
use Rattle.rm_pcap.specs.Seen.{heading_of, record_of, frame_seen, IsWholeIn}
use Rattle.rm_pcap.proofs.FoundLemmas.{header_left, not_late, so_late}

-- what stands whole in the window is there
pub there_in : (form : Form) (start : Start) (reach : Reach) (octets : List ℕ) (heading : Heading) → IsWholeIn form start reach octets heading → IsThere form start reach octets
there_in form start reach octets heading whole = record {
  long = omega (arith, whole.long, ap (λ (t : Heading). t.included) whole.numbers);
  faultless = whole.faultless;
}

-- the header of a record that is there has no fault, and says what was read
pub fault_there : (form : Form) (start : Start) (reach : Reach) (octets old : List ℕ) (fault : PcapFault) → octets ≡ old → IsThere form start reach old
    → fault_at form start reach octets ≡ Some fault → ⊥
fault_there form start reach octets old fault same there is =
    let e : None ≡ Some fault = sym there.faultless ∙ ap (fault_at form start reach) (sym same) ∙ is in
    cc

pub heading_there : (form : Form) (start : Start) (reach : Reach) (octets old : List ℕ) (heading : Heading) → octets ≡ old → heading ≡ heading_of form start reach octets → heading ≡ heading_of form start reach old
heading_there form start reach octets old heading same is = is ∙ ap (heading_of form start reach) same

pub included_there : (form : Form) (start : Start) (reach : Reach) (octets old : List ℕ) (heading : Heading) → octets ≡ old → heading ≡ heading_of form start reach octets → heading.included ≡ included_of form old
included_there form start reach octets old heading same is = ap (λ (t : Heading). t.included) (heading_there form start reach octets old heading same is)

-- what such a record is, by whether it is late
pub there_is : (form : Form) (start : Start) (reach : Reach) (xs : List ℕ) → IsThere form start reach xs
    → found_in form start reach xs
    ≡ (if is_late form start reach xs then Stops (Broken (Late reach.at)) else Whole (frame_at form start reach xs) (reach_after form start reach xs))
there_is form start reach xs there =
    let long : nat_lt (length xs) (16 + included_of form xs) ≡ false = grind (arith, nat_tests, there.long) in
    header_left form start reach xs (omega (arith, there.long)) ∙ ap (found_with form start reach xs) there.faultless ∙ rw long refl

-- the record of octets that stay in the window, or none where it is late
abbrev RecordIn : Form → Start → Reach → Option Record → List ℕ → Type 0
RecordIn form start reach seen octets = seen ≡ (if is_late form start reach octets then None else Some (record_of form start reach octets))

pub kept_whole : (form : Form) (start : Start) (reach : Reach) (octets old : List ℕ) (seen : Record) → octets ≡ old → IsThere form start reach old
    → Some seen ≡ (if is_late form start reach octets then None else Some (record_of form start reach octets))
    → Whole (frame_seen start.interface seen (take seen.included (drop 16 octets))) seen.after ≡ found_in form start reach old
kept_whole form start reach octets old seen same there some =
    let is = not_late (is_late form start reach old) seen (record_of form start reach old) (subst (λ (t : List ℕ). RecordIn form start reach (Some seen) t) same some) in
    ap (λ (t : List ℕ). Whole (frame_seen start.interface seen (take seen.included (drop 16 t))) seen.after) same
    ∙ (ap (λ (r : Record). Whole (frame_seen start.interface r (take r.included (drop 16 old))) r.after) is.1
    ∙ sym (there_is form start reach old there ∙ rw is.0 refl))

pub kept_late : (form : Form) (start : Start) (reach : Reach) (octets old : List ℕ) → octets ≡ old → IsThere form start reach old
    → None ≡ (if is_late form start reach octets then None else Some (record_of form start reach octets))
    → Stops (Broken (Late reach.at)) ≡ found_in form start reach old
kept_late form start reach octets old same there none =
    let late = so_late (is_late form start reach old) (record_of form start reach old) (subst (λ (t : List ℕ). RecordIn form start reach None t) same none) in
    sym (there_is form start reach old there ∙ rw late refl)
