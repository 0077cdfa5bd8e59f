-- What judging tells of captures by what is held of their files, one by one: behind a file with a fault in the first round none needs to be there.
use Rattle.std.specs.Prelude.{◌≡◌, ◌⊎◌, ℕ, ◌+◌, List, [], ◌∷◌, Option, Ok, Err, ⊤}
use Rattle.rm_edge.specs.Outside.{Held, Absent, OfFile}
use Rattle.rm_captures.specs.Rounds.{first_found, first_round, IsLater}
use Rattle.rm_captures.specs.declared.fault.CaptureFault.{CaptureFault}

-- a fact of the octets of all files, where they are told; where a name has no file there is none
unfoldable pub OfFiles : List Held → (List (List ℕ) → Type 0) → Type 0
OfFiles [] P = P []
OfFiles (held ∷ more) P = OfFile held (λ bytes. OfFiles more (λ files. P (bytes ∷ files)))

-- each of these names has a file, or it isn't told
unfoldable pub ArePresent : (List ℕ → Held) → List (List ℕ) → Type 0
ArePresent held [] = ⊤
ArePresent held (name ∷ names) = (held name ≡ Absent → ⊥) × ArePresent held names

-- the first fault that the first round finds of these files, whose interfaces are those from a number on
unfoldable pub IsEarly : ℕ → ℕ → List Held → CaptureFault → Type 0
IsEarly lead interface [] found = ⊥
IsEarly lead interface (held ∷ more) found =
    ((found.interface ≡ interface) × OfFile held (λ bytes. first_found lead interface bytes ≡ Err found.fault))
    ⊎ (OfFile held (λ bytes. (time : Option ℕ) × (first_found lead interface bytes ≡ Ok time)) × IsEarly lead (interface + 1) more found)

-- these files call for that fault: it is that of the first round, or, where that finds none, that of the second
abbrev pub CallFor : ℕ → List Held → CaptureFault → Type 0
CallFor lead helds found =
    IsEarly lead 1 helds found ⊎ OfFiles helds (λ files. (base : Option ℕ) × (first_round lead 1 files ≡ Ok base) × IsLater base lead 1 files found)
