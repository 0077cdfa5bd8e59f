-- The slots of protocols in the order of the numbers of these.
use Rattle.std.specs.Prelude.{◌≡◌, ℕ, ◌<◌, ◌≤◌, List, [], ◌∷◌, length, if◌then◌else◌, ◌==◌, slice_index_or, Option, Some, None}
use Rattle.rm_path.specs.declared.entry.Entry.{Entry}

-- the slot of the first entry that has a number
abbrev pub slot_with : List Entry → ℕ → Option ℕ
slot_with [] number = None
slot_with (entry ∷ more) number = if entry.number == number then Some entry.slot else slot_with more number

-- what stands for an entry where there is none
abbrev pub no_entry : Entry
no_entry = record { number = 0; slot = 0 }

-- the number of the entry at a place
abbrev pub number_at : List Entry → ℕ → ℕ
number_at entries place = (slice_index_or entries place no_entry).number

-- the numbers rise
abbrev pub AreRising : List Entry → Type 0
AreRising entries = (i j : ℕ) → i < j → j < length entries → number_at entries i < number_at entries j

-- the entry at a place has a number
pub record IsAt (entries : List Entry) (number place : ℕ) : Type 0 where
  pub within : place < length entries
  pub has_number : number_at entries place ≡ number

-- a number would go to a place: the numbers before it are less, those from it on greater
pub record IsGap (entries : List Entry) (number place : ℕ) : Type 0 where
  pub within : place ≤ length entries
  pub less_before : (i : ℕ) → i < place → number_at entries i < number
  pub greater_after : (i : ℕ) → place ≤ i → i < length entries → number < number_at entries i
