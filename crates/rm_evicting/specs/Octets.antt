-- Octets as a number, the first one highest.
use Rattle.std.specs.Prelude.{ℕ, ◌+◌, ◌*◌, List, [], ◌∷◌}

-- what a number becomes where octets are put behind it
abbrev pub with_octets : ℕ → List ℕ → ℕ
with_octets number [] = number
with_octets number (octet ∷ octets) = with_octets (number * 256 + octet) octets

-- the number that octets are
abbrev pub number_of : List ℕ → ℕ
number_of octets = with_octets 0 octets
