-- Captures worked out by hand.
use Rattle.std.proofs.Common.{◌≡◌, ℕ, List, [], ◌∷◌, ◌++◌, Some, Ok, refl}
use Rattle.rm_model.specs.Journal.{Frame}
use Rattle.rm_pcap.specs.declared.form.Order.TheVariants.{LowestFirst}
use Rattle.rm_pcap.specs.declared.form.TimeUnit.TheVariants.{Microseconds}
use Rattle.rm_pcap.specs.declared.form.Form.{Form}
use Rattle.rm_pcap.specs.declared.start.Start.{Start}
use Rattle.rm_pcap.specs.declared.fault.PcapFault.TheVariants.{Magic, Included, Original, Late}
use Rattle.rm_pcap.specs.Header.{number_at, form_of, has_version, has_link_type, header_of}
use Rattle.rm_pcap.specs.Records.{Ended, CutAt, Broken, time_of, included_of, original_of, alone, ReadsAs}
use Rattle.rm_pcap.specs.Steps.{fault_at, is_late, found_at, beginning, AreRecords}
use Rattle.rm_pcap.proofs.ReadingLemmas.{readings_are_records}

abbrev form : Form
form = record { order = LowestFirst; unit = Microseconds }

-- the header of a file, lowest octets first: the magic number of microseconds, version 2.4, three numbers, and link type 1
abbrev header : List ℕ
header = 212 ∷ 195 ∷ 178 ∷ 161 ∷ 2 ∷ 0 ∷ 4 ∷ 0 ∷ 0 ∷ 0 ∷ 0 ∷ 0 ∷ 0 ∷ 0 ∷ 0 ∷ 0 ∷ 255 ∷ 255 ∷ 0 ∷ 0 ∷ 1 ∷ 0 ∷ 0 ∷ 0 ∷ []

abbrev frame : ℕ → ℕ → List ℕ → ℕ → Frame
frame moment number octets original = record { interface = 1; moment = moment; number = number; octets = octets; original = original }

-- At 1 second two octets of a frame of 60; half a second later three of a frame that is told to have had one; at 0 seconds none of one. Behind them
-- stands one octet.
abbrev three : List ℕ
three =
    header ++ 1 ∷ 0 ∷ 0 ∷ 0 ∷ 0 ∷ 0 ∷ 0 ∷ 0 ∷ 2 ∷ 0 ∷ 0 ∷ 0 ∷ 60 ∷ 0 ∷ 0 ∷ 0 ∷ 7 ∷ 9
    ∷ 1 ∷ 0 ∷ 0 ∷ 0 ∷ 32 ∷ 161 ∷ 7 ∷ 0 ∷ 3 ∷ 0 ∷ 0 ∷ 0 ∷ 1 ∷ 0 ∷ 0 ∷ 0 ∷ 4 ∷ 5 ∷ 6
    ∷ 0 ∷ 0 ∷ 0 ∷ 0 ∷ 0 ∷ 0 ∷ 0 ∷ 0 ∷ 0 ∷ 0 ∷ 0 ∷ 0 ∷ 0 ∷ 0 ∷ 0 ∷ 0
    ∷ 255 ∷ []

-- the time that runs back gives the moment of the frame before
abbrev frames : List Frame
frames = frame 1000 1 (7 ∷ 9 ∷ []) 60 ∷ frame 1500 2 (4 ∷ 5 ∷ 6 ∷ []) 3 ∷ frame 1500 3 [] 0 ∷ []

three_good : header_of three ≡ Ok form
unfolding header_of form_of has_version has_link_type number_at
three_good = refl

three_are : AreRecords form (alone 1000) (beginning (alone 1000)) three frames (CutAt 77)
unfolding AreRecords found_at fault_at is_late time_of included_of original_of number_at
three_are = (_, refl, (_, refl, (_, refl, refl)))

pub three_reads : ReadsAs (alone 1000) three frames (CutAt 77)
three_reads = (readings_are_records form (alone 1000) three frames (CutAt 77) three_good).1 three_are

-- a file header alone, and less than one
alone_good : header_of header ≡ Ok form
unfolding header_of form_of has_version has_link_type number_at
alone_good = refl

alone_are : AreRecords form (alone 1000) (beginning (alone 1000)) header [] Ended
unfolding AreRecords found_at
alone_are = refl

pub alone_reads : ReadsAs (alone 1000) header [] Ended
alone_reads = (readings_are_records form (alone 1000) header [] Ended alone_good).1 alone_are

pub none_reads : ReadsAs (alone 1000) (212 ∷ 195 ∷ 178 ∷ []) [] (Broken Magic)
unfolding ReadsAs header_of form_of
none_reads = (refl, refl)

-- Lengths of 262145 octets each: the first fault is that of the captured one. Where that is 262144, which may be, it is that of the other.
abbrev long : ℕ → List ℕ
long octet = header ++ 0 ∷ 0 ∷ 0 ∷ 0 ∷ 0 ∷ 0 ∷ 0 ∷ 0 ∷ octet ∷ 0 ∷ 4 ∷ 0 ∷ 1 ∷ 0 ∷ 4 ∷ 0 ∷ []

long_good : (octet : ℕ) → header_of (long octet) ≡ Ok form
unfolding header_of form_of has_version has_link_type number_at
long_good octet = refl

included_are : AreRecords form (alone 1000) (beginning (alone 1000)) (long 1) [] (Broken (Included 32))
unfolding AreRecords found_at fault_at included_of number_at
included_are = refl

pub included_reads : ReadsAs (alone 1000) (long 1) [] (Broken (Included 32))
included_reads = (readings_are_records form (alone 1000) (long 1) [] (Broken (Included 32)) (long_good 1)).1 included_are

original_are : AreRecords form (alone 1000) (beginning (alone 1000)) (long 0) [] (Broken (Original 36))
unfolding AreRecords found_at fault_at included_of original_of number_at
original_are = refl

pub original_reads : ReadsAs (alone 1000) (long 0) [] (Broken (Original 36))
original_reads = (readings_are_records form (alone 1000) (long 0) [] (Broken (Original 36)) (long_good 0)).1 original_are

-- The first record of one octet stands 2^32 milliseconds after the time at the lead, which is that of another capture. It is late where the octet is
-- there, and cut short where it isn't.
abbrev early : Start
early = record { interface = 1; lead = 0; base = Some 0 }

abbrev far : List ℕ → List ℕ
far octets = header ++ 55 ∷ 137 ∷ 65 ∷ 0 ∷ 64 ∷ 132 ∷ 4 ∷ 0 ∷ 1 ∷ 0 ∷ 0 ∷ 0 ∷ 1 ∷ 0 ∷ 0 ∷ 0 ∷ octets

whole_good : header_of (far (9 ∷ [])) ≡ Ok form
unfolding header_of form_of has_version has_link_type number_at
whole_good = refl

late_are : AreRecords form early (beginning early) (far (9 ∷ [])) [] (Broken (Late 24))
unfolding AreRecords found_at fault_at is_late time_of included_of original_of number_at
late_are = refl

pub late_reads : ReadsAs early (far (9 ∷ [])) [] (Broken (Late 24))
late_reads = (readings_are_records form early (far (9 ∷ [])) [] (Broken (Late 24)) whole_good).1 late_are

short_good : header_of (far []) ≡ Ok form
unfolding header_of form_of has_version has_link_type number_at
short_good = refl

cut_are : AreRecords form early (beginning early) (far []) [] (CutAt 24)
unfolding AreRecords found_at fault_at is_late time_of included_of original_of number_at
cut_are = refl

pub cut_reads : ReadsAs early (far []) [] (CutAt 24)
cut_reads = (readings_are_records form early (far []) [] (CutAt 24) short_good).1 cut_are
