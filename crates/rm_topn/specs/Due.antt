-- The ends of reports, which fall due.
use Rattle.std.proofs.Common.{◌≡◌, ℕ, ◌<◌, ◌≤◌, List, Bool, true, false, cond, ◌&&◌, nat_le, nat_lt, max, Option, Some, None, refl, ap, ◌∙◌, subst, arith}
use Rattle.std.specs.Prelude.{◌↔◌, if◌then◌else◌}
use Rattle.std.specs.Option.{option_and_then, option_map, option_map_or}
use Rattle.rm_group.specs.Due.{HaveEnded}
use Rattle.rm_group.specs.declared.due.Due.{Due}
use Rattle.rm_model.specs.Journal.{Journal, last_moment}
use Rattle.rm_model.specs.Judgement.{count_below}
use Rattle.rm_pool.specs.declared.slot.Slot.{Slot}
use Rattle.rm_topn.specs.declared.course.Course.{Course}
use Rattle.rm_topn.specs.declared.course.Run.{Run}
use Rattle.rm_topn.specs.declared.due.TheConstants.{REPORTS}
use Rattle.rm_topn.specs.declared.reports.Reports.{Reports}
use Rattle.rm_topn.specs.Control.{seconds_set}
use Rattle.rm_topn.specs.Courses.{end_at}
use Rattle.rm_topn.specs.Held.{AreAskable, run_in}
use Rattle.rm_topn.specs.Starts.{end_of, last_start}

-- The moment at which the last report of a row ends after a journal, where reports have ended up to a moment, and this one hasn't. One that
-- runs for no second ends at once.
abbrev pub end_after : (ended : ℕ) → Journal → (row : ℕ) → Option ℕ
end_after ended journal row =
    option_and_then (λ from. if nat_lt 0 (seconds_set from row) && nat_lt ended (end_of row from) then Some (end_of row from) else None) (last_start row journal)

-- by which moment reports have ended that are held after a journal
abbrev pub ended_by : Reports → Journal → ℕ
ended_by reports journal = max reports.last (last_moment journal)

-- when a report ends that runs, and the one of a row, by what is kept
abbrev pub end_ahead : Run → Option ℕ
end_ahead run = if run.runs then Some (end_at run) else None

abbrev pub end_in : List (Slot Course) → (row : ℕ) → Option ℕ
end_in courses row = option_and_then end_ahead (run_in courses row)

-- what falls due is the end of a report that runs, which has the number of its row
abbrev pub IsEnd : (ℕ → Option ℕ) → Due → Type 0
IsEnd end due = (due.kind ≡ REPORTS) × (end due.number ≡ Some due.moment)

abbrev pub IsEndDue : Reports → Due → Type 0
IsEndDue reports = IsEnd (end_in reports.courses)

-- the same of one row
abbrev pub due_end : List (Slot Course) → (row : ℕ) → Option Due
due_end courses row = option_map (λ moment. record { moment = moment; kind = REPORTS; number = row }) (end_in courses row)

-- whether a report ends up to a moment, and how many that run do
abbrev pub ends_by : (latest : ℕ) → Option ℕ → Bool
ends_by latest end = option_map_or (λ moment. nat_le moment latest) end false

abbrev pub reports_left : Reports → (latest : ℕ) → ℕ
reports_left reports latest = count_below (λ row. ends_by latest (end_in reports.courses row)) 65536

-- What ended up to a moment falls due no more, and all else does as before. No more are left than were, and fewer where something ended.
pub record HasEnded (moment : ℕ) (old new : Due → Type 0) (before after : (latest : ℕ) → ℕ) : Type 0 where
  pub others : (due : Due) → new due ↔ (old due × (moment < due.moment))
  pub no_more : (latest : ℕ) → after latest ≤ before latest
  pub fewer : (due : Due) (latest : ℕ) → old due → due.moment ≤ moment → due.moment ≤ latest → after latest < before latest

-- reports may be asked at a moment exactly where those have ended that are due by then
pub are_asked : (reports : Reports) (moment : ℕ) → AreAskable reports.courses moment ↔ HaveEnded (IsEndDue reports) moment
are_asked reports moment = (there, back)
  where
    -- the end of a report that runs
    of_run : (run : Run) (t : Bool) → run.runs ≡ t → (at : ℕ) → cond t (Some (end_at run)) None ≡ Some at → (run.runs ≡ true) × (end_at run ≡ at)
    of_run run true runs at is = (runs, cc)
    of_run run false over at is = absurd (cc)

    there : AreAskable reports.courses moment → HaveEnded (IsEndDue reports) moment
    there asked due is below = by_run (run_in reports.courses due.number) refl is.1
      where
        by_run : (o : Option Run) → run_in reports.courses due.number ≡ o → option_and_then end_ahead o ≡ Some due.moment → moment < due.moment
        by_run None here ends = absurd (cc)
        by_run (Some run) here ends =
            let (runs, at) = of_run run run.runs refl due.moment ends in
            subst (λ (n : ℕ). moment < n) at (asked due.number run here runs)

    back : HaveEnded (IsEndDue reports) moment → AreAskable reports.courses moment
    back ended row run here runs =
        ended (record { moment = end_at run; kind = REPORTS; number = row })
        (refl, ap (option_and_then end_ahead) here ∙ ap (λ t. cond t (Some (end_at run)) None) runs) (omega arith)
