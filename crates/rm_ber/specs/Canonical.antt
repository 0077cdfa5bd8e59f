-- What values have canonical octets that are accepted, and what octets are the fewest.
use Rattle.std.specs.Prelude.{◌≡◌, ◌≤◌, ◌<◌, ◌^◌, FitsSigned, ℕ, List, ◌++◌, length, All}
use Rattle.std.specs.Int.{w32}
use Rattle.rm_val.specs.Val.{Val, int, octets, name, ip, counter, gauge, ticks, opaque_octets, big}
use Rattle.rm_ber.specs.Element.{value_element}
use Rattle.rm_ber.specs.Grammar.{ValueFirst}

-- a name as a value
abbrev pub name_value : List ℕ → Val
name_value numbers = name numbers

-- octets of a value are at most 4294967295, so that four octets can count them
abbrev pub HasLength : Val → Type 0
HasLength (octets bytes) = length bytes ≤ 4294967295
HasLength (opaque_octets bytes) = length bytes ≤ 4294967295
HasLength v = Unit {0}

-- the numbers in a value are in the ranges of their types, an address has 4 octets and a name at most 128 numbers
abbrev pub IsInRange : Val → Type 0
IsInRange (int z) = FitsSigned w32 z
IsInRange (name numbers) = All (λ n. n < 2 ^ 32) numbers × (length numbers ≤ 128)
IsInRange (ip bytes) = length bytes ≡ 4
IsInRange (counter n) = n < 2 ^ 32
IsInRange (gauge n) = n < 2 ^ 32
IsInRange (ticks n) = n < 2 ^ 32
IsInRange (big n) = n < 2 ^ 64
IsInRange v = Unit {0}

-- the canonical element of a value is accepted as the value, whatever follows
abbrev pub IsAccepted : Val → Type 0
IsAccepted v = (rest : List ℕ) → ValueFirst v rest (value_element v ++ rest)

-- octets are no fewer than the canonical ones, and are these where they are as many
pub record AreFewest (canonical octets : List ℕ) : Type 0 where
  pub few : length canonical ≤ length octets
  pub only : length octets ≡ length canonical → octets ≡ canonical
