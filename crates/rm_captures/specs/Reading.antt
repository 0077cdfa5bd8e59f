-- What the steps of judging captures answer.
use Rattle.std.specs.Prelude.{◌≡◌, ◌⊎◌, ℕ, ◌+◌, List, [], ◌∷◌, map, Option, None, Result, Ok, Err, ⊤}
use Rattle.std.specs.Borrow.{Bor}
use Rattle.rm_edge.specs.Outside.{Held, File, Rose}
use Rattle.rm_model.specs.Journal.{Frame}
use Rattle.rm_pcap.specs.declared.fault.PcapFault.{PcapFault}
use Rattle.rm_pcap.specs.declared.fault.PcapFault.TheVariants.{Read, NoMemory}
use Rattle.rm_pcap.specs.declared.start.Start.{Start}
use Rattle.rm_pcap.specs.declared.capture.Capture.{Capture}
use Rattle.rm_pcap.specs.Header.{header_of}
use Rattle.rm_pcap.specs.Records.{Stop, Broken}
use Rattle.rm_pcap.specs.Steps.{AreRecords}
use Rattle.rm_pcap.specs.Progress.{Progress, Agrees, IsUnseen}
use Rattle.rm_pcap.specs.View.{progress_of}
use Rattle.rm_captures.specs.Rounds.{standing, first_found, IsFaultless, IsGood, IsLater, IsFirstFault, AreCaptureFiles}
use Rattle.rm_captures.specs.declared.fault.CaptureFault.{CaptureFault}

-- the names of files, as texts
abbrev pub texts : List (Bor (List ℕ)) → List (List ℕ)
texts names = map (λ (name : Bor (List ℕ)). name.now) names

-- a shelf holds these files under these names
unfoldable pub AreHeld : (List ℕ → Held) → List (List ℕ) → List (List ℕ) → Type 0
AreHeld held [] [] = ⊤
AreHeld held [] (bytes ∷ files) = ⊥
AreHeld held (name ∷ names) [] = ⊥
AreHeld held (name ∷ names) (bytes ∷ files) = (held name ≡ File bytes) × AreHeld held names files

-- a name is one of these
unfoldable pub IsOneOf : List (List ℕ) → List ℕ → Type 0
IsOneOf [] each = ⊥
IsOneOf (name ∷ names) each = (each ≡ name) ⊎ IsOneOf names each

-- a read of one of these files failed
unfoldable pub OneRose : (List ℕ → ℕ) → (List ℕ → ℕ) → List (List ℕ) → Type 0
OneRose before now [] = ⊥
OneRose before now (name ∷ names) = Rose (before name) (now name) ⊎ OneRose before now names

-- a fault that no file calls for
abbrev pub IsExcused : PcapFault → Type 0
IsExcused fault = (fault ≡ Read) ⊎ (fault ≡ NoMemory)

-- a capture of a file of these octets was begun, of which no record was found yet
pub record IsReady (start : Start) (bytes : List ℕ) (progress : Progress) : Type 0 where
  pub start_is : progress.start ≡ start
  pub unseen : IsUnseen progress
  pub header : header_of bytes ≡ Ok progress.form
  pub agrees : Agrees progress bytes

-- what beginning a capture answers of its file
abbrev pub BeginsOne : ℕ → ℕ → List ℕ → Result (Capture × Option ℕ) PcapFault → Type 0
BeginsOne lead interface bytes (Ok begun) = (first_found lead interface bytes ≡ Ok begun.1) × IsReady (standing None lead interface) bytes (progress_of begun.0)
BeginsOne lead interface bytes (Err fault) = IsExcused fault ⊎ (first_found lead interface bytes ≡ Err fault)

-- no record was found yet of any of these captures
unfoldable pub AreUnseen : List Capture → Type 0
AreUnseen [] = ⊤
AreUnseen (capture ∷ more) = IsUnseen (progress_of capture) × AreUnseen more

-- captures of these files were begun, whose interfaces are those from a number on
unfoldable pub AreReady : Option ℕ → ℕ → ℕ → List (List ℕ) → List Capture → Type 0
AreReady base lead interface [] [] = ⊤
AreReady base lead interface [] (capture ∷ more) = ⊥
AreReady base lead interface (bytes ∷ files) [] = ⊥
AreReady base lead interface (bytes ∷ files) (capture ∷ more) = IsReady (standing base lead interface) bytes (progress_of capture) × AreReady base lead (interface + 1) files more

-- what reading a capture to its end answers of its file
abbrev pub ReadsOn : {T : Type 0} → Progress → List ℕ → Result T PcapFault → Type 0
ReadsOn progress bytes (Ok done) = (frames : List Frame) × (stop : Stop) × AreRecords progress.form progress.start progress.reach bytes frames stop × IsFaultless stop
ReadsOn progress bytes (Err fault) = IsExcused fault ⊎ ((frames : List Frame) × AreRecords progress.form progress.start progress.reach bytes frames (Broken fault))

-- the files are captures of the interfaces from a number on
unfoldable pub AreGood : Option ℕ → ℕ → ℕ → List (List ℕ) → Type 0
AreGood base lead interface [] = ⊤
AreGood base lead interface (bytes ∷ files) = IsGood (standing base lead interface) bytes × AreGood base lead (interface + 1) files

-- what the second round answers
abbrev pub EndsRound : {T : Type 0} → Option ℕ → ℕ → ℕ → List (List ℕ) → Result T CaptureFault → Type 0
EndsRound base lead interface files (Ok done) = AreGood base lead interface files
EndsRound base lead interface files (Err found) = IsExcused found.fault ⊎ IsLater base lead interface files found

-- what judging captures answers
abbrev pub Judges : {T : Type 0} → ℕ → List (List ℕ) → Result T CaptureFault → Type 0
Judges lead files (Ok done) = AreCaptureFiles lead files
Judges lead files (Err found) = IsExcused found.fault ⊎ IsFirstFault lead files found
