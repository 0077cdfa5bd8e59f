-- What is kept of the protocols that a row counts, in the order of their local indexes.
use Rattle.std.specs.Prelude.{◌≡◌, ℕ, suc, ◌+◌, ◌%◌, ◌^◌, ◌<◌, List, [], ◌∷◌, length, slice_index_or, Bool, true, false, ◌&&◌, ◌||◌, nat_eq, nat_le, nat_lt, find, is_some, Option, Some, None, if◌then◌else◌}
use Rattle.rm_dist.specs.declared.count.Count.{Count}

-- the one with a local index
abbrev pub count_in : List Count → ℕ → Option Count
count_in counts local = find (λ count. nat_eq count.local local) counts

-- the local indexes rise
abbrev pub AllAbove : ℕ → List Count → Type 0
AllAbove local [] = Unit {0}
AllAbove local (count ∷ counts) = (local < count.local) × AllAbove local counts

abbrev pub Rising : List Count → Type 0
Rising [] = Unit {0}
Rising (count ∷ counts) = AllAbove count.local counts × Rising counts

-- the least local index that has a count, or nothing where there is none
abbrev pub IsFirstLocal : List Count → Option ℕ → Type 0
IsFirstLocal counts None = (local : ℕ) → count_in counts local ≡ None
IsFirstLocal counts (Some first) = (is_some (count_in counts first) ≡ true) × ((local : ℕ) → local < first → count_in counts local ≡ None)

-- one with one more frame of so many octets
abbrev pub with_frame : ℕ → Count → Count
with_frame octets count = record count { packets = (count.packets + 1) % 2 ^ 32; octets = (count.octets + octets) % 2 ^ 32 }

-- one of the first frame
abbrev pub first_frame : (local octets : ℕ) → Count
first_frame local octets = record { local = local; packets = 1; octets = octets % 2 ^ 32 }

-- where the counts of local indexes from one on begin
abbrev pub place_for : List Count → ℕ → ℕ
place_for [] local = 0
place_for (count ∷ counts) local = if nat_le local count.local then 0 else suc (place_for counts local)

-- what stands for a count where there is none
abbrev pub no_count : Count
no_count = record { local = 0; packets = 0; octets = 0 }

-- whether the count at the place for a local index has it
abbrev pub is_found : List Count → ℕ → Bool
is_found counts local = nat_lt (place_for counts local) (length counts) && nat_eq (slice_index_or counts (place_for counts local) no_count).local local

-- the place of a local index, and that of one that has no count
pub record IsFoundAt (counts : List Count) (local place : ℕ) : Type 0 where
  pub at : place ≡ place_for counts local
  pub found : is_found counts local ≡ true

pub record IsMissingAt (counts : List Count) (local place : ℕ) : Type 0 where
  pub at : place ≡ place_for counts local
  pub missing : is_found counts local ≡ false

-- one frame more of a protocol, which has a count then
abbrev pub marked : List Count → (local octets : ℕ) → List Count
marked [] local octets = first_frame local octets ∷ []
marked (count ∷ counts) local octets =
    if nat_le local count.local
    then (if nat_eq count.local local then with_frame octets count ∷ counts else first_frame local octets ∷ count ∷ counts)
    else count ∷ marked counts local octets

-- the same where it has a count already, or there is room for one more
abbrev pub with_mark : List Count → (local octets : ℕ) → List Count
with_mark counts local octets = if nat_lt (length counts) 32 || is_some (count_in counts local) then marked counts local octets else counts

-- one frame more of some protocols
abbrev pub with_marks : List Count → (locals : List ℕ) → (octets : ℕ) → List Count
with_marks counts [] octets = counts
with_marks counts (local ∷ locals) octets = with_mark (with_marks counts locals octets) local octets
