-- The first fault of captures is one, and captures that have none are read in one way.
use Rattle.std.proofs.Common.{◌≡◌, ℕ, ◌+◌, List, [], ◌∷◌, map, Option, Result, Ok, Err, inl, inr, refl, sym, ap, subst, ◌∙◌}
use Rattle.rm_edge.specs.Outside.{Held, File}
use Rattle.rm_model.specs.Journal.{Frame}
use Rattle.rm_pcap.specs.declared.start.Start.{Start}
use Rattle.rm_pcap.specs.declared.fault.PcapFault.{PcapFault}
use Rattle.rm_pcap.specs.Records.{Stop, Broken, ReadsAs}
use Rattle.rm_captures.specs.Rounds.{standing, first_round, with_others, IsFaultless, IsGood, IsBroken, IsLater, IsFirstFault, early, late, AreRead, AreCaptureFiles}
use Rattle.rm_captures.specs.Told.{IsEarly}
use Rattle.rm_captures.specs.declared.fault.CaptureFault.{CaptureFault}
use Rattle.rm_probe.specs.Capture.{CallsFor, status_by, status_of}
use Rattle.rm_probe.specs.declared.status.Status.{Status}
use Rattle.rm_probe.proofs.FileLemmas.{told_files}

-- a file reads in one way
abbrev pub OneReading : Type 0
OneReading = (first : Start) (bytes : List ℕ) (frames others : List Frame) (stop last : Stop) → ReadsAs first bytes frames stop → ReadsAs first bytes others last → (frames ≡ others) × (stop ≡ last)

-- two faults of the same interface are the same
abbrev IsSame : CaptureFault → CaptureFault → Type 0
IsSame found other = (found.interface ≡ other.interface) × (found.fault ≡ other.fault)

same_status : (found other : CaptureFault) → IsSame found other → status_of found ≡ status_of other
same_status found other same = ap (λ (interface : ℕ). status_by interface found.fault) same.0 ∙ ap (status_by other.interface) same.1

module _ (one : OneReading) where
  -- a file that has a fault isn't one that has none
  broken_good : (start : Start) (bytes : List ℕ) (fault : PcapFault) → IsBroken start bytes fault → IsGood start bytes → ⊥
  broken_good start bytes fault broken (frames, stop, reads, faultless) =
      subst IsFaultless (one start bytes frames broken.0 stop (Broken fault) reads broken.1).1 faultless

  broken_once : (start : Start) (bytes : List ℕ) (fault other : PcapFault) → IsBroken start bytes fault → IsBroken start bytes other → fault ≡ other
  broken_once start bytes fault other broken again = let e = (one start bytes broken.0 again.0 (Broken fault) (Broken other) broken.1 again.1).1 in cc

  -- nor in the second round
  later_read : (base : Option ℕ) (lead interface : ℕ) (files : List (List ℕ)) (found : CaptureFault) (frames : List Frame) (stop : Stop) → IsLater base lead interface files found → AreRead base lead interface files frames stop → ⊥
  unfolding IsLater AreRead
  later_read base lead interface [] found frames stop is_later read = is_later
  later_read base lead interface (bytes ∷ files) found frames stop (inl (same, broken)) (own, others, end, rest, reads, faultless, more, are, stops) =
      broken_good (standing base lead interface) bytes found.fault broken (own, end, reads, faultless)
  later_read base lead interface (bytes ∷ files) found frames stop (inr (good, is_later)) (own, others, end, rest, reads, faultless, more, are, stops) =
      later_read base lead (interface + 1) files found others rest is_later more

  later_once : (base : Option ℕ) (lead interface : ℕ) (files : List (List ℕ)) (found other : CaptureFault) → IsLater base lead interface files found → IsLater base lead interface files other → IsSame found other
  unfolding IsLater
  later_once base lead interface [] found other first second = absurd first
  later_once base lead interface (bytes ∷ files) found other (inl (here, broken)) (inl (there, again)) =
      (here ∙ sym there, broken_once (standing base lead interface) bytes found.fault other.fault broken again)
  later_once base lead interface (bytes ∷ files) found other (inl (here, broken)) (inr (good, second)) = absurd (broken_good (standing base lead interface) bytes found.fault broken good)
  later_once base lead interface (bytes ∷ files) found other (inr (good, first)) (inl (there, again)) = absurd (broken_good (standing base lead interface) bytes other.fault again good)
  later_once base lead interface (bytes ∷ files) found other (inr (good, first)) (inr (well, second)) = later_once base lead (interface + 1) files found other first second

  -- captures have no fault
  pub not_broken : (lead : ℕ) (files : List (List ℕ)) (found : CaptureFault) → IsFirstFault lead files found → AreCaptureFiles lead files → ⊥
  not_broken lead files found (early first) (frames, stop, are) = let e = sym are.begins ∙ first in cc
  not_broken lead files found (late base first is_later) (frames, stop, are) =
      let e = sym are.begins ∙ first in
      let same : are.base ≡ base = cc in
      later_read base lead 1 files found frames stop is_later (subst (λ (b : Option ℕ). AreRead b lead 1 files frames stop) same are.read)

  -- the first fault of captures is one
  pub same_fault : (lead : ℕ) (files : List (List ℕ)) (found other : CaptureFault) → IsFirstFault lead files found → IsFirstFault lead files other → status_of found ≡ status_of other
  same_fault lead files found other (early first) (early second) =
      let e = sym first ∙ second in
      let same : found ≡ other = cc in
      ap status_of same
  same_fault lead files found other (early first) (late base second is_later) = absurd (let e = sym first ∙ second in cc)
  same_fault lead files found other (late base first is_later) (early second) = absurd (let e = sym first ∙ second in cc)
  same_fault lead files found other (late base first is_later) (late again second later_too) =
      let e = sym first ∙ second in
      let same : base ≡ again = cc in
      same_status found other (later_once again lead 1 files found other (subst (λ (b : Option ℕ). IsLater b lead 1 files found) same is_later) later_too)

-- the first fault of the first round, of files that are told
early_first : (lead interface : ℕ) (files : List (List ℕ)) (found : CaptureFault) → IsEarly lead interface (map File files) found → (other : CaptureFault) × (first_round lead interface files ≡ Err other) × IsSame found other
unfolding IsEarly first_round
early_first lead interface [] found is = absurd is
early_first lead interface (bytes ∷ files) found (inl (same, fault)) =
    let other : CaptureFault = record { interface = interface; fault = found.fault } in
    (other, ap (λ (first : Result (Option ℕ) PcapFault). with_others interface first (first_round lead (interface + 1) files)) fault, (same, refl))
early_first lead interface (bytes ∷ files) found (inr ((time, first), is)) =
    let (other, rest, same) = early_first lead (interface + 1) files found is in
    (other, ap (λ (mine : Result (Option ℕ) PcapFault). with_others interface mine (first_round lead (interface + 1) files)) first ∙ ap (with_others interface (Ok time)) rest, same)

-- where files are told, what they call for is their first fault
pub called_first : (lead : ℕ) (helds : List Held) (files : List (List ℕ)) (status : Status) → helds ≡ map File files → CallsFor lead status helds → (found : CaptureFault) × (status ≡ status_of found) × IsFirstFault lead files found
called_first lead helds files status are (found, is, inl first) =
    let (other, round, same) = early_first lead 1 files found (subst (λ (hs : List Held). IsEarly lead 1 hs found) are first) in
    (other, is ∙ same_status found other same, early round)
called_first lead helds files status are (found, is, inr second) =
    let (base, round, is_later) = told_files helds files (λ (fs : List (List ℕ)). (base : Option ℕ) × (first_round lead 1 fs ≡ Ok base) × IsLater base lead 1 fs found) are second in
    (found, is, late base round is_later)
