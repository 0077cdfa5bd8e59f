-- Octets that stand in a list of numbers after their count.
use Rattle.std.specs.Prelude.{ℕ, ◌<◌, List, ◌∷◌, length, drop, All}
use Rattle.std.specs.Io.{StartsWith}

-- the octets after their count
abbrev pub counted : List ℕ → List ℕ
counted octets = length octets ∷ octets

-- from this place on the numbers begin with these octets after their count
pub record HasCountedAt (numbers : List ℕ) (place : ℕ) (octets : List ℕ) : Type 0 where
  pub are_octets : All (λ n. n < 256) octets
  pub begins : StartsWith (drop place numbers) (counted octets)
