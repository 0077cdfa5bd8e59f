-- The two runs of packets in a ring, as packets come and go.
use Rattle.std.specs.Prelude.{ℕ, ◌+◌, ◌-◌, Bool, ◌&&◌, nat_eq, nat_le, if◌then◌else◌}
use Rattle.rm_ring.specs.declared.runs.Runs.{Runs}

-- whether a packet of a size goes behind the older run: there is no newer one, and it fits before the ring's end
abbrev pub fits_behind : Runs → (count storage size : ℕ) → Bool
fits_behind runs count storage size = nat_eq runs.older count && nat_le size (storage - runs.end)

-- where it begins
abbrev pub start_of : Runs → (count storage size : ℕ) → ℕ
start_of runs count storage size = if fits_behind runs count storage size then runs.end else runs.front

-- the runs with it
abbrev pub with_packet : Runs → (count storage size : ℕ) → Runs
with_packet runs count storage size =
    if fits_behind runs count storage size
    then record runs { older = runs.older + 1; end = runs.end + size }
    else record runs { front = runs.front + size }

-- the runs without the oldest of so many packets
abbrev pub without_oldest : Runs → (count size : ℕ) → Runs
without_oldest runs count size =
    if nat_eq runs.older 1
    then record { older = count - 1; start = 0; end = runs.front; front = 0 }
    else record runs { older = runs.older - 1; start = runs.start + size }
