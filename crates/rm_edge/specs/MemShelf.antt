-- A shelf in memory as its callers see it.
use Rattle.std.specs.Prelude.{ℕ, Bool, List, Option, Some, None, find, Contains}
use Rattle.std.specs.Str.{bytes_eq}
use Rattle.rm_edge.specs.Outside.{Held, Absent, File, one_more}

-- a file, and how often a read of it has failed
pub record NamedFile : Type 0 where
  pub name : List ℕ
  pub bytes : List ℕ
  pub faults : ℕ

-- a shelf, with the numbers of the reads that are to fail, and the most octets that a read gives
pub record ShelfState : Type 0 where
  pub files : List NamedFile
  pub absent_faults : ℕ
  pub calls : ℕ
  pub failing : List ℕ
  pub most : ℕ

-- the file has that name
abbrev pub is_named : List ℕ → NamedFile → Bool
is_named name file = bytes_eq file.name name

-- the file of that name
abbrev pub file_in : List NamedFile → List ℕ → Option NamedFile
file_in files name = find (is_named name) files

-- what is held, given the file that a name means
abbrev pub held_of : Option NamedFile → Held
held_of None = Absent
held_of (Some file) = File file.bytes

-- what a shelf holds under a name
abbrev pub held_in : ShelfState → List ℕ → Held
held_in shelf name = held_of (file_in shelf.files name)

-- how many faults count, given the file that a name means
abbrev pub faults_of : ℕ → Option NamedFile → ℕ
faults_of absent None = absent
faults_of absent (Some file) = file.faults

-- how often a read of a name has failed
abbrev pub faults_in : ShelfState → List ℕ → ℕ
faults_in shelf name = faults_of shelf.absent_faults (file_in shelf.files name)

-- the next read is one of those that are to fail
abbrev pub IsToFail : ShelfState → Type 0
IsToFail shelf = Contains shelf.failing (one_more shelf.calls)
