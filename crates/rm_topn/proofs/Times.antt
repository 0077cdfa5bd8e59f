-- What a report shows by what is kept of it is what it shows by the journal.
use Rattle.std.proofs.Common.{◌≡◌, ℕ, zero, suc, ◌+◌, ◌-◌, ◌*◌, ◌/◌, ◌<◌, ◌≤◌, Bool, true, false, cond, ◌&&◌, [], nat_le, refl, sym, ap, ◌∙◌, arith, Option, Some, None}
use Rattle.std.specs.Option.{option_and_then, option_map_or}
use Rattle.std.proofs.lemmas.Bool.Decides.{nat_tests}
use Rattle.rm_model.specs.Counting.{Counting}
use Rattle.rm_model.specs.Journal.{Journal, last_moment}
use Rattle.rm_report.specs.declared.ranked.Ranked.{Ranked}
use Rattle.rm_report.specs.Ranking.{ranked_at}
use Rattle.rm_topn.specs.declared.course.Course.{Course}
use Rattle.rm_topn.specs.declared.course.Run.{Run}
use Rattle.rm_topn.specs.Control.{seconds_set}
use Rattle.rm_topn.specs.Courses.{end_at, shown_in}
use Rattle.rm_topn.specs.Kept.{HasCome, IsAskable, IsCourse, IsCourseOf, IsRun, still_runs, has_ended, had_none}
use Rattle.rm_topn.specs.Reports.{duration, host_shown, ranked_in, start_time}
use Rattle.rm_topn.specs.Starts.{before_moment, end_of, last_start}
use Rattle.rm_topn.specs.Times.{duration_kept, start_kept, time_kept}

isnt_le : (m n : ℕ) → n < m → nat_le m n ≡ false
isnt_le m n lt = grind (arith, nat_tests)

is_le : (m n : ℕ) → m ≤ n → nat_le m n ≡ true
is_le m n le = grind (arith, nat_tests)

none_in : (place : ℕ) → ranked_at place [] ≡ None
none_in zero = refl
none_in (suc i) = refl

none_either : (t : Bool) → ◌≡◌ {A = Option Ranked} (cond t None None) None
none_either true = refl
none_either false = refl

-- how many seconds are left of a report that began so
abbrev pub left_of : (row now : ℕ) → Option Journal → ℕ
left_of row now start = option_map_or (λ from. seconds_set from row - (now - last_moment from) / 1000) start 0

module _ (settings : Counting) (journal : Journal) (row : ℕ) (course : Course) where
  module _ (is : IsCourse settings journal row course) where
    pub duration_is : duration_kept course ≡ duration journal row
    duration_is = go (last_start row journal) course.run is
      where
        go : (o : Option Journal) (r : Option Run) → IsCourseOf settings journal row course o r → option_map_or (λ run. run.plan.seconds) r 0 ≡ option_map_or (λ from. seconds_set from row) o 0
        go None None none = refl
        go None (Some run) nothing = absurd nothing
        go (Some from) None nothing = absurd nothing
        go (Some from) (Some run) its = its.plan.seconds

    pub start_is : start_kept course ≡ start_time journal row
    start_is = go (last_start row journal) course.run is
      where
        go : (o : Option Journal) (r : Option Run) → IsCourseOf settings journal row course o r → option_map_or (λ run. run.begun / 10) r 0 ≡ option_map_or (λ from. last_moment from / 10) o 0
        go None None none = refl
        go None (Some run) nothing = absurd nothing
        go (Some from) None nothing = absurd nothing
        go (Some from) (Some run) its = ap (λ n. n / 10) its.begun

    pub time_is : (now : ℕ) → time_kept course now ≡ left_of row now (last_start row journal)
    time_is now = go (last_start row journal) course.run is
      where
        go : (o : Option Journal) (r : Option Run) → IsCourseOf settings journal row course o r → option_map_or (λ run. run.plan.seconds - (now - run.begun) / 1000) r 0 ≡ left_of row now o
        go None None none = refl
        go None (Some run) nothing = absurd nothing
        go (Some from) None nothing = absurd nothing
        go (Some from) (Some run) its = λ d. its.plan.seconds d - (now - its.begun d) / 1000

  -- the host at a place
  module _ (now place : ℕ) where
    abbrev by_run : Option Run → Option Ranked
    by_run run = cond (option_map_or (λ run. nat_le (end_at run) now) run false) (ranked_at place course.report.rows) None

    abbrev ranked_from : Journal → Option Ranked
    ranked_from from = ranked_in settings from (before_moment (end_of row from) journal) row place

    abbrev by_start : Option Journal → Option Ranked
    by_start start = option_and_then (λ from. cond (nat_le 1 (seconds_set from row) && nat_le (end_of row from) now) (ranked_from from) None) start

    module _ (askable : IsAskable course now) (from : Journal) (run : Run) (here : course.run ≡ Some run) (its : IsRun settings from journal row course run) where
      same_end : end_at run ≡ end_of row from
      same_end = λ d. its.begun d + 1000 * its.plan.seconds d

      -- one that runs for some time, and one that runs for none
      some_by : 1 ≤ run.plan.seconds → by_start (Some from) ≡ cond (nat_le (end_at run) now) (ranked_from from) None
      some_by some =
          ap (λ n. cond (nat_le 1 n && nat_le (end_of row from) now) (ranked_from from) None) (sym its.plan.seconds)
          ∙ ap (λ t. cond (t && nat_le (end_of row from) now) (ranked_from from) None) (is_le 1 run.plan.seconds some)
          ∙ ap (λ n. cond (nat_le n now) (ranked_from from) None) (sym same_end)

      none_by : run.plan.seconds ≡ 0 → by_start (Some from) ≡ None
      none_by none = ap (λ n. cond (nat_le 1 n && nat_le (end_of row from) now) (ranked_from from) None) (sym its.plan.seconds ∙ none)

      of_run : by_run (Some run) ≡ by_start (Some from)
      of_run = go its.come
        where
          go : HasCome settings from journal row course run → by_run (Some run) ≡ by_start (Some from)
          go (still_runs runs some rows copies) =
              let late : nat_le (end_at run) now ≡ false = isnt_le (end_at run) now (askable run here runs) in
              ap (λ t. cond t (ranked_at place course.report.rows) None) late
              ∙ sym (some_by some ∙ ap (λ t. cond t (ranked_from from) None) late)
          go (has_ended over some reported) =
              ap (λ (o : Option Ranked). cond (nat_le (end_at run) now) o None) (reported place) ∙ sym (some_by some)
          go (had_none over no_second rows) =
              ap (λ l. cond (nat_le (end_at run) now) (ranked_at place l) None) rows
              ∙ ap (λ (o : Option Ranked). cond (nat_le (end_at run) now) o None) (none_in place)
              ∙ none_either (nat_le (end_at run) now)
              ∙ sym (none_by no_second)

    pub host_is : IsCourse settings journal row course → IsAskable course now → shown_in course now place ≡ host_shown settings journal now row place
    host_is is askable = go (last_start row journal) course.run refl is
      where
        go : (o : Option Journal) (r : Option Run) → course.run ≡ r → IsCourseOf settings journal row course o r → by_run r ≡ by_start o
        go None None here none = refl
        go None (Some run) here nothing = absurd nothing
        go (Some from) None here nothing = absurd nothing
        go (Some from) (Some run) here its = of_run askable from run here its
