-- Facts of files, and of the captures that are judged and begun.
use Rattle.std.proofs.Common.{◌≡◌, ℕ, List, [], ◌∷◌, map, inl, inr, refl, ap, subst, ◌∙◌}
use Rattle.rm_edge.specs.Outside.{Held, Untold, Absent, File, OfFile}
use Rattle.rm_edge.specs.Uses.{file_use}
use Rattle.rm_captures.specs.Reading.{AreHeld, OneRose}
use Rattle.rm_captures.specs.Told.{OfFiles}
use Rattle.rm_probe.specs.Capture.{AreTold, HasReadFaults, helds_of}

-- a fact of a file, from one of its octets
pub of_told : (held : Held) (P Q : List ℕ → Type 0) → ((bytes : List ℕ) → held ≡ File bytes → P bytes → Q bytes) → OfFile held P → OfFile held Q
of_told Untold P Q to p = tt
of_told Absent P Q to p = absurd p
of_told (File bytes) P Q to p = to bytes refl p

-- a fact of a file that is told
pub told : (held : Held) (bytes : List ℕ) (P : List ℕ → Type 0) → held ≡ File bytes → OfFile held P → P bytes
told held bytes P is p = subst (λ (h : Held). OfFile h P) is p

-- a fact of files, from one of their octets
pub of_files : (helds : List Held) (P Q : List (List ℕ) → Type 0) → ((files : List (List ℕ)) → helds ≡ map File files → P files → Q files) → OfFiles helds P → OfFiles helds Q
unfolding OfFiles
of_files [] P Q to p = to [] refl p
of_files (held ∷ more) P Q to p =
    of_told held (λ bytes. OfFiles more (λ files. P (bytes ∷ files))) (λ bytes. OfFiles more (λ files. Q (bytes ∷ files)))
    (λ bytes is rest. of_files more (λ files. P (bytes ∷ files)) (λ files. Q (bytes ∷ files))
    (λ files are q. to (bytes ∷ files) (ap (λ (h : Held). h ∷ more) is ∙ ap (λ (hs : List Held). File bytes ∷ hs) are) q) rest) p

-- a fact of files that are told
pub told_files : (helds : List Held) (files : List (List ℕ)) (P : List (List ℕ) → Type 0) → helds ≡ map File files → OfFiles helds P → P files
unfolding OfFiles
told_files helds files P are p = by_files files P (subst (λ (hs : List Held). OfFiles hs P) are p)
  where
    by_files : (files : List (List ℕ)) (P : List (List ℕ) → Type 0) → OfFiles (map File files) P → P files
    by_files [] P p = p
    by_files (bytes ∷ files) P p = by_files files (λ (more : List (List ℕ)). P (bytes ∷ more)) p

-- the files that are told
pub files_of : (helds : List Held) (P : List (List ℕ) → Type 0) → AreTold helds → OfFiles helds P → (files : List (List ℕ)) × (helds ≡ map File files) × P files
unfolding AreTold OfFiles
files_of [] P are p = ([], refl, p)
files_of (Untold ∷ more) P are p = absurd are
files_of (Absent ∷ more) P are p = absurd p
files_of (File bytes ∷ more) P are p =
    let (files, same, q) = files_of more (λ (files : List (List ℕ)). P (bytes ∷ files)) are p in (bytes ∷ files, ap (λ (hs : List Held). File bytes ∷ hs) same, q)

-- files that are held under names
pub held_are : (held : List ℕ → Held) (names files : List (List ℕ)) → map held names ≡ map File files → AreHeld held names files
unfolding AreHeld
held_are held [] [] are = tt
held_are held [] (bytes ∷ files) are = absurd cc
held_are held (name ∷ names) [] are = absurd cc
held_are held (name ∷ names) (bytes ∷ files) are =
    let first : held name ≡ File bytes = cc in
    let rest : map held names ≡ map File files = cc in
    (first, held_are held names files rest)

module _ {F : Type 0} (held : F → List ℕ → Held) (faults : F → List ℕ → ℕ) (old new : F) where
  -- what is held of the files of these names
  pub helds_are : (names : List (List ℕ)) → helds_of (map (file_use held faults old new) names) ≡ map (held old) names
  helds_are [] = refl
  helds_are (name ∷ names) = ap (λ (hs : List Held). held old name ∷ hs) (helds_are names)

  -- a read of one of them failed
  pub read_faults : (names : List (List ℕ)) → OneRose (faults old) (faults new) names → HasReadFaults (map (file_use held faults old new) names)
  unfolding OneRose HasReadFaults
  read_faults [] rose = rose
  read_faults (name ∷ names) (inl rose) = inl rose
  read_faults (name ∷ names) (inr rose) = inr (read_faults names rose)
