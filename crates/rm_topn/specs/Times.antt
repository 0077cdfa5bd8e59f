-- The times of a report, by what is kept of it.
use Rattle.std.specs.Prelude.{ℕ, ◌-◌, ◌/◌}
use Rattle.std.specs.Option.{option_map_or}
use Rattle.rm_topn.specs.declared.course.Course.{Course}

-- for how many seconds it runs, when it began, in hundredths of a second, and how many seconds of it are left at a moment, in milliseconds;
-- 0 where none began
abbrev pub duration_kept : Course → ℕ
duration_kept course = option_map_or (λ run. run.plan.seconds) course.run 0

abbrev pub start_kept : Course → ℕ
start_kept course = option_map_or (λ run. run.begun / 10) course.run 0

abbrev pub time_kept : Course → (now : ℕ) → ℕ
time_kept course now = option_map_or (λ run. run.plan.seconds - (now - run.begun) / 1000) course.run 0
