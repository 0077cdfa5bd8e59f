-- The order of names, and the least name above another.
use Rattle.std.specs.Prelude.{◌≡◌, ℕ, List, Bool, false, Option, Some, None, IsTrue}
use Rattle.std.specs.Ordering.{nat_cmp}
use Rattle.std.specs.declared.cmp.Ordering.TheVariants.{Less}
use Rattle.std.specs.Cmp.Lexicographic.{slice_cmp}

-- a name comes before another: the first numbers that differ decide, and a proper prefix comes first
abbrev pub Below : List ℕ → List ℕ → Type 0
Below name other = slice_cmp nat_cmp name other ≡ Less

-- the least of the names above one that pass a test, or nothing where there is none
abbrev pub IsLeastAbove : (List ℕ → Bool) → List ℕ → Option (List ℕ) → Type 0
IsLeastAbove test asked (Some found) =
    Below asked found × IsTrue (test found) × ((name : List ℕ) → Below asked name → Below name found → test name ≡ false)
IsLeastAbove test asked None = (name : List ℕ) → Below asked name → test name ≡ false
