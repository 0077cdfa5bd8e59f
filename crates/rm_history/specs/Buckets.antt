-- The buckets of a history (RFC 1757, section 5): each has the frames of one interval. They are numbered from 1, and follow
-- each other from the moment on at which the history began. Moments and lengths are in milliseconds.
use Rattle.std.specs.Prelude.{ℕ, ◌+◌, ◌-◌, ◌*◌, ◌/◌, min, List, Bool, ◌&&◌, nat_le, nat_lt, filter}
use Rattle.std.specs.List.{sum_by}
use Rattle.rm_model.specs.Counting.{Counting}
use Rattle.rm_model.specs.Journal.{Frame}
use Rattle.rm_model.specs.FrameFacts.{frame_facts}
use Rattle.rm_ether.specs.declared.counter.Counter.{Counter}
use Rattle.rm_ether.specs.Counted.{counted}
use Rattle.rm_history.specs.declared.plan.Plan.{Plan}

-- the length of a bucket
abbrev pub length_of : Plan → ℕ
length_of plan = 1000 * plan.seconds

-- the moment at which a bucket begins, and the one at which it ends, which is no longer in it
abbrev pub begin_of : Plan → ℕ → ℕ
begin_of plan bucket = plan.start + length_of plan * (bucket - 1)

abbrev pub end_of : Plan → ℕ → ℕ
end_of plan bucket = plan.start + length_of plan * bucket

-- whether a frame is in a bucket
abbrev pub falls_in : Plan → ℕ → Frame → Bool
falls_in plan bucket frame = nat_le (begin_of plan bucket) frame.moment && nat_lt frame.moment (end_of plan bucket)

-- a counter of a bucket: the sum of what each of its frames adds to it
abbrev pub bucket_sum : Counting → Plan → List Frame → ℕ → Counter → ℕ
bucket_sum settings plan frames bucket each =
    sum_by (λ frame. counted each (frame_facts settings frame)) (filter (falls_in plan bucket) frames)

-- how many buckets are complete at a moment
abbrev pub complete_at : Plan → ℕ → ℕ
complete_at plan now = (now - plan.start) / length_of plan

-- whether a bucket is one of the last complete ones, as many as are kept
abbrev pub is_shown : Plan → ℕ → ℕ → Bool
is_shown plan now bucket =
    nat_le 1 bucket && (nat_le bucket (complete_at plan now) && nat_lt (complete_at plan now) (bucket + plan.kept))

-- The utilization of an Ethernet of 10 megabits a second over so many seconds, in hundredths of a percent: a packet takes 160
-- bits beside its octets (RFC 1757, etherHistoryUtilization).
abbrev pub utilization : (packets octets seconds : ℕ) → ℕ
utilization packets octets seconds = min 10000 ((20 * packets + octets) / (125 * seconds))
