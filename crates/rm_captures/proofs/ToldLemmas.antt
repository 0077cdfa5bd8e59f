-- What judging tells of captures by what is held of their files.
use Rattle.std.proofs.Common.{◌≡◌, ℕ, ◌+◌, List, [], ◌∷◌, map, Option, Ok, Err, Result, inl, inr, refl, sym, ap, subst, ◌∙◌}
use Rattle.std.specs.Prelude.{◌⊎◌, IfOk, IfErr}
use Rattle.rm_edge.specs.Outside.{Held, Untold, Absent, File, OfFile}
use Rattle.rm_pcap.specs.declared.fault.PcapFault.{PcapFault}
use Rattle.rm_pcap.specs.declared.fault.PcapFault.TheVariants.{Magic, Version, LinkType, Included, Original, Late, TooMany, Read, NoMemory}
use Rattle.rm_captures.specs.Rounds.{first_found, first_round, IsLater, AreCaptureFiles}
use Rattle.rm_captures.specs.Reading.{AreHeld, EndsRound, IsExcused, Judges}
use Rattle.rm_captures.specs.Told.{OfFiles, ArePresent, IsEarly, CallFor}
use Rattle.rm_captures.specs.declared.fault.CaptureFault.{CaptureFault}

-- a fault is excused, or it isn't
excused_or : (fault : PcapFault) → IsExcused fault ⊎ (IsExcused fault → ⊥)
excused_or Read = inl (inl refl)
excused_or NoMemory = inl (inr refl)
excused_or Magic = inr (λ e. elim e [ inl is ↦ absurd cc | inr is ↦ absurd cc ])
excused_or Version = inr (λ e. elim e [ inl is ↦ absurd cc | inr is ↦ absurd cc ])
excused_or LinkType = inr (λ e. elim e [ inl is ↦ absurd cc | inr is ↦ absurd cc ])
excused_or (Included at) = inr (λ e. elim e [ inl is ↦ absurd cc | inr is ↦ absurd cc ])
excused_or (Original at) = inr (λ e. elim e [ inl is ↦ absurd cc | inr is ↦ absurd cc ])
excused_or (Late at) = inr (λ e. elim e [ inl is ↦ absurd cc | inr is ↦ absurd cc ])
excused_or TooMany = inr (λ e. elim e [ inl is ↦ absurd cc | inr is ↦ absurd cc ])

of_present : (held : Held) (P : List ℕ → Type 0) → (held ≡ Absent → ⊥) → ((bytes : List ℕ) → held ≡ File bytes → P bytes) → OfFile held P
of_present Untold P present told = tt
of_present Absent P present told = absurd (present refl)
of_present (File bytes) P present told = told bytes refl

-- what holds of all files that are held, where none is missing
pub of_all : (held : List ℕ → Held) (names : List (List ℕ)) (P : List (List ℕ) → Type 0) → ArePresent held names → ((files : List (List ℕ)) → AreHeld held names files → P files) → OfFiles (map held names) P
unfolding ArePresent AreHeld OfFiles
of_all held [] P present told = told [] tt
of_all held (name ∷ names) P present told =
    of_present (held name) (λ bytes. OfFiles (map held names) (λ files. P (bytes ∷ files))) present.0
    (λ bytes is. of_all held names (λ files. P (bytes ∷ files)) present.1 (λ files are. told (bytes ∷ files) (is, are)))

-- after calls that change nothing
map_still : (old new : List ℕ → Held) (names : List (List ℕ)) → ((each : List ℕ) → new each ≡ old each) → map new names ≡ map old names
map_still old new [] same = refl
map_still old new (name ∷ names) same = ap (λ (h : Held). h ∷ map new names) (same name) ∙ ap (λ (hs : List Held). old name ∷ hs) (map_still old new names same)

pub present_still : (old new : List ℕ → Held) (names : List (List ℕ)) → ((each : List ℕ) → new each ≡ old each) → ArePresent new names → ArePresent old names
unfolding ArePresent
present_still old new [] same present = tt
present_still old new (name ∷ names) same present = (λ none. present.0 (same name ∙ none), present_still old new names same present.1)

pub present_none : (held : List ℕ → Held) (names : List (List ℕ)) → names ≡ [] → ArePresent held names
unfolding ArePresent
present_none held names none = subst (ArePresent held) (sym none) tt

pub present_more : (held : List ℕ → Held) (all : List (List ℕ)) (name : List ℕ) (names : List (List ℕ)) → all ≡ name ∷ names → (held name ≡ Absent → ⊥) → ArePresent held names → ArePresent held all
unfolding ArePresent
present_more held all name names are one rest = subst (ArePresent held) (sym are) (one, rest)

-- a fault of the first of some files, and of those behind it
pub early_here : (lead interface : ℕ) (held : List ℕ → Held) (all : List (List ℕ)) (name : List ℕ) (names : List (List ℕ)) (fault : PcapFault) → all ≡ name ∷ names → (held name ≡ Absent → fault ≡ Read)
    → ((bytes : List ℕ) → held name ≡ File bytes → IsExcused fault ⊎ (first_found lead interface bytes ≡ Err fault))
    → IsExcused fault ⊎ IsEarly lead interface (map held all) (record { interface = interface; fault = fault })
unfolding IsEarly
early_here lead interface held all name names fault are absent told =
    subst (λ (t : List (List ℕ)). IsExcused fault ⊎ IsEarly lead interface (map held t) (record { interface = interface; fault = fault })) (sym are) (by_fault (excused_or fault))
  where
    by_fault : IsExcused fault ⊎ (IsExcused fault → ⊥) → IsExcused fault ⊎ IsEarly lead interface (map held (name ∷ names)) (record { interface = interface; fault = fault })
    by_fault (inl excused) = inl excused
    by_fault (inr other) = inr (inl (
      refl,
      of_present (held name) (λ bytes. first_found lead interface bytes ≡ Err fault) (λ none. other (inl (absent none)))
          (λ bytes is. elim (told bytes is) [
            | inl excused ↦ absurd (other excused)
            | inr is_fault ↦ is_fault
          ]),
    ))

pub early_there : (lead interface : ℕ) (old mid : List ℕ → Held) (all : List (List ℕ)) (name : List ℕ) (names : List (List ℕ)) (time : Option ℕ) (found : CaptureFault) → all ≡ name ∷ names
    → ((each : List ℕ) → mid each ≡ old each) → (old name ≡ Absent → ⊥) → ((bytes : List ℕ) → old name ≡ File bytes → first_found lead interface bytes ≡ Ok time)
    → IsExcused found.fault ⊎ IsEarly lead (interface + 1) (map mid names) found → IsExcused found.fault ⊎ IsEarly lead interface (map old all) found
unfolding IsEarly
early_there lead interface old mid all name names time found are same present told (inl excused) = inl excused
early_there lead interface old mid all name names time found are same present told (inr rest) =
    subst (λ (t : List (List ℕ)). IsExcused found.fault ⊎ IsEarly lead interface (map old t) found) (sym are)
    (inr (inr (
      of_present (old name) (λ bytes. (time : Option ℕ) × (first_found lead interface bytes ≡ Ok time)) present (λ bytes is. (time, told bytes is)),
      subst (λ (hs : List Held). IsEarly lead (interface + 1) hs found) (map_still old mid names same) rest,
    )))

-- what both rounds tell
pub told_good : (lead : ℕ) (held : List ℕ → Held) (names : List (List ℕ)) (result : Result (Unit {0}) CaptureFault) → ArePresent held names → ((files : List (List ℕ)) → AreHeld held names files → Judges lead files result)
    → IfOk result (λ done. OfFiles (map held names) (AreCaptureFiles lead))
told_good lead held names (Ok done) present judges = of_all held names (AreCaptureFiles lead) present judges
told_good lead held names (Err found) present judges = tt

pub told_later : (lead : ℕ) (held : List ℕ → Held) (names : List (List ℕ)) (result : Result (Unit {0}) CaptureFault) → ArePresent held names
    → ((files : List (List ℕ)) → AreHeld held names files → (base : Option ℕ) × (first_round lead 1 files ≡ Ok base) × EndsRound base lead 1 files result)
    → IfErr result (λ found. IsExcused found.fault ⊎ CallFor lead (map held names) found)
told_later lead held names (Ok done) present ends = tt
told_later lead held names (Err found) present ends = by_fault (excused_or found.fault)
  where
    later : (IsExcused found.fault → ⊥) → (files : List (List ℕ)) → ((base : Option ℕ) × (first_round lead 1 files ≡ Ok base) × EndsRound {T = Unit {0}} base lead 1 files (Err found))
        → (base : Option ℕ) × (first_round lead 1 files ≡ Ok base) × IsLater base lead 1 files found
    later other files (base, first, inl excused) = absurd (other excused)
    later other files (base, first, inr is_later) = (base, first, is_later)

    by_fault : IsExcused found.fault ⊎ (IsExcused found.fault → ⊥) → IsExcused found.fault ⊎ CallFor lead (map held names) found
    by_fault (inl excused) = inl excused
    by_fault (inr other) = inr (inr (of_all held names (λ files. (base : Option ℕ) × (first_round lead 1 files ≡ Ok base) × IsLater base lead 1 files found) present (λ files are. later other files (ends files are))))

pub told_early : (lead : ℕ) (helds : List Held) (found : CaptureFault) → IsExcused found.fault ⊎ IsEarly lead 1 helds found → IsExcused found.fault ⊎ CallFor lead helds found
told_early lead helds found (inl excused) = inl excused
told_early lead helds found (inr early) = inr (inl early)
