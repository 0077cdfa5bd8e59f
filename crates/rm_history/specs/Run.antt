-- What is kept of the buckets of a history.
use Rattle.std.specs.Prelude.{◌≡◌, ℕ, ◌+◌, ◌-◌, ◌<◌, ◌≤◌, List, nat_le, nat_eq, slice_get, if◌then◌else◌}
use Rattle.std.specs.Option.{option_map_or}
use Rattle.rm_model.specs.Counting.{Counting}
use Rattle.rm_model.specs.Journal.{Frame}
use Rattle.rm_ether.specs.declared.counter.Counter.{Counter}
use Rattle.rm_ether.specs.declared.statistics.Statistics.{Statistics}
use Rattle.rm_ether.specs.Standing.{counter_of}
use Rattle.rm_history.specs.declared.run.Run.{Run}
use Rattle.rm_history.specs.Buckets.{bucket_sum}

-- A counter of a bucket, by how many are closed, by these, the newest first, and by the current one, which comes after them.
-- Those behind it have no frame yet. One that was given up counts as 0.
abbrev pub counter_in : ℕ → List Statistics → Statistics → ℕ → Counter → ℕ
counter_in closed ring current bucket each =
    if nat_le bucket closed then option_map_or (λ statistics. counter_of statistics each) (slice_get ring (closed - bucket)) 0
    else if nat_eq bucket (closed + 1) then counter_of current each
    else 0

-- a counter of a bucket, by what is kept
abbrev pub kept_counter : Run → ℕ → Counter → ℕ
kept_counter run bucket each = counter_in run.closed run.ring.items run.current bucket each

-- what is kept of each bucket that isn't given up is what these frames give
abbrev pub Keeps : Run → Counting → List Frame → Type 0
Keeps run settings frames =
    (bucket : ℕ) (each : Counter) → 1 ≤ bucket → run.closed < bucket + run.ring.capacity
    → kept_counter run bucket each ≡ bucket_sum settings run.plan frames bucket each
