-- What a row shows of its report, by what is kept.
use Rattle.std.specs.Prelude.{◌≡◌, ℕ, ◌+◌, ◌*◌, length, Bool, true, false, ◌&&◌, nat_le, is_some, if◌then◌else◌, Option, None, refl}
use Rattle.std.specs.Option.{option_map, option_map_or}
use Rattle.rm_report.specs.declared.ranked.Ranked.{Ranked}
use Rattle.rm_report.specs.Ranking.{ranked_at}
use Rattle.rm_topn.specs.declared.course.Course.{Course}
use Rattle.rm_topn.specs.declared.course.Run.{Run}

-- when a report ends that began
abbrev pub end_at : Run → ℕ
end_at run = run.begun + 1000 * run.plan.seconds

-- the same once it has ended
abbrev pub ended_run : Run → Run
ended_run run = record run { runs = false }

-- whether one should end by a moment, and what it is then
abbrev pub is_due : (moment : ℕ) → Run → Bool
is_due moment run = run.runs && nat_le (end_at run) moment

abbrev pub run_by : (moment : ℕ) → Option Run → Option Run
run_by moment run = option_map (λ r. if is_due moment r then ended_run r else r) run

-- whether one began that has ended by a moment
abbrev pub has_ended : Course → (now : ℕ) → Bool
has_ended course now = option_map_or (λ run. nat_le (end_at run) now) course.run false

-- the host that is shown at a place, if there is one, and how many are shown
abbrev pub shown_in : Course → (now place : ℕ) → Option Ranked
shown_in course now place = if has_ended course now then ranked_at place course.report.rows else None

abbrev pub is_shown : Course → (now place : ℕ) → Bool
is_shown course now place = is_some (shown_in course now place)

abbrev pub count_shown : Course → (now : ℕ) → ℕ
count_shown course now = if has_ended course now then length course.report.rows else 0

-- the first place isn't 0
pub none_first : (course : Course) (now : ℕ) → is_shown course now 0 ≡ false
none_first course now = go (has_ended course now)
  where
    go : (t : Bool) → is_some (if t then ranked_at 0 course.report.rows else None) ≡ false
    go true = refl
    go false = refl
