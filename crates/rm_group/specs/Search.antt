-- Where the search for the next cell of a table begins, and what it finds.
use Rattle.std.specs.Prelude.{◌≡◌, ℕ, ◌<◌, List, [], ◌∷◌, Bool, true, false, ◌&&◌, ◌⊎◌, nat_lt, if◌then◌else◌, Option, Some, None, IsTrue}
use Rattle.std.specs.Ordering.{nat_cmp, is_lt}
use Rattle.std.specs.Cmp.Lexicographic.{slice_cmp}
use Rattle.rm_model.specs.Names.{Below}
use Rattle.rm_model.specs.Cells.{behind, is_one_of}
use Rattle.rm_model.specs.declared.instance.Instance.{Instance}

-- each number is below the next one
abbrev pub are_rising : List ℕ → Bool
are_rising [] = true
are_rising (x ∷ []) = true
are_rising (x ∷ y ∷ more) = nat_lt x y && are_rising (y ∷ more)

-- before every instance of a table
abbrev pub at_first : Instance
at_first = record { column = 0; index = [] }

-- the instance of which the numbers behind an entry are the name
abbrev pub start_behind : List ℕ → Instance
start_behind [] = at_first
start_behind (column ∷ index) = record { column = column; index = index }

-- the same by what is left of the name behind the entry, and whether it comes before the entry
abbrev pub start_at : Bool → Option (List ℕ) → Option Instance
start_at is_before (Some left) = Some (start_behind left)
start_at is_before None = if is_before then Some at_first else None

-- the instance behind which the cells above a name begin; nothing where the name is above all cells of the table
abbrev pub start_of : List ℕ → List ℕ → Option Instance
start_of entry name = start_at (is_lt (slice_cmp nat_cmp name entry)) (behind entry name)

-- an instance is behind another: in a greater column, or in the same one with a greater index
abbrev pub Follows : Instance → Instance → Type 0
Follows start at = (start.column < at.column) ⊎ ((start.column ≡ at.column) × Below start.index at.index)

-- whether there is a cell: an answered column and the index of a row
abbrev pub is_present : List ℕ → (List ℕ → Bool) → Instance → Bool
is_present columns is_row at = is_one_of columns at.column && is_row at.index

-- the first instance behind another that has a cell, or nothing where there is none
abbrev pub IsNextInstance : List ℕ → (List ℕ → Bool) → Instance → Option Instance → Type 0
IsNextInstance columns is_row start (Some found) =
    Follows start found × IsTrue (is_present columns is_row found)
    × ((at : Instance) → Follows start at → Follows at found → is_present columns is_row at ≡ false)
IsNextInstance columns is_row start None = (at : Instance) → Follows start at → is_present columns is_row at ≡ false
