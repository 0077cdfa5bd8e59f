-- What reads of a file, one after the other, put into a buffer.
use Rattle.std.specs.Prelude.{◌≡◌, ℕ, ◌<◌, List, length, take, drop}

-- The front of the buffer has so many octets, which are those of the file from a place on: as many as it has and as fit.
pub record Fills (bytes : List ℕ) (at count : ℕ) (into : List ℕ) : Type 0 where
  pub are : take count into ≡ take (length into) (drop at bytes)
  pub all : count ≡ length (take (length into) (drop at bytes))

-- some octets are those at the front of others
abbrev pub IsFront : List ℕ → List ℕ → Type 0
IsFront part whole = part ≡ take (length part) whole

-- some octets are those of a file from a place on, and fewer than are needed only where it has no more
pub record Holds (bytes : List ℕ) (at need : ℕ) (octets : List ℕ) : Type 0 where
  pub front : IsFront octets (drop at bytes)
  pub all : length octets < need → length octets ≡ length (drop at bytes)
