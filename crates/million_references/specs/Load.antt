-- The load: frames between hosts that a linear generator draws.
use Rattle.std.specs.Prelude.{ℕ, zero, suc, ◌+◌, ◌*◌, ◌/◌, ◌%◌, List, [], ◌∷◌, ◌++◌}
use Rattle.rm_evicting.specs.Mention.{Mention, refers}
use Rattle.million_references.specs.declared.times.Times.{Times}
use Rattle.million_references.specs.declared.load.TheConstants.{START, FACTOR, SUMMAND, MODULUS, HOSTS, FIRST_MOMENT}
use Rattle.million_references.specs.Times.{once}

abbrev pub next : ℕ → ℕ
next number = (FACTOR * number + SUMMAND) % MODULUS

-- what the generator gave for the frames: the number of a frame, counted from 1
abbrev pub number : ℕ → ℕ
number zero = START
number (suc i) = next (number i)

-- a host by its number
abbrev pub address : ℕ → List ℕ
address host = 2 ∷ 0 ∷ 0 ∷ 0 ∷ 0 ∷ host ∷ []

abbrev pub source_in : ℕ → List ℕ
source_in number = address (number / 65536 % HOSTS)

abbrev pub destination_in : ℕ → List ℕ
destination_in number = address (number / 65536 / HOSTS % HOSTS)

-- the moment of a frame, in hundredths of a second
abbrev pub tick : ℕ → ℕ
tick i = (FIRST_MOMENT + i) / 10

-- the references of so many frames, the newest first: each to its source, and then to its destination
abbrev pub host_references : ℕ → List (Mention (List ℕ) Times)
host_references zero = []
host_references (suc i) =
    refers (destination_in (number (suc i))) (2 * i + 1) (tick (suc i)) once
    ∷ (refers (source_in (number (suc i))) (2 * i) (tick (suc i)) once
    ∷ host_references i)

-- each to the pair of them
abbrev pub pair_references : ℕ → List (Mention (List ℕ) Times)
pair_references zero = []
pair_references (suc i) = refers (source_in (number (suc i)) ++ destination_in (number (suc i))) i (tick (suc i)) once ∷ pair_references i
