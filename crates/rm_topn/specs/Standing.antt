-- When what is kept of reports is what a journal gives.
use Rattle.std.specs.Prelude.{◌≡◌, ℕ, ◌<◌, max, length, true, Option, Some, None}
use Rattle.rm_model.specs.Counting.{Counting}
use Rattle.rm_model.specs.Journal.{Journal, frames_in, last_moment}
use Rattle.rm_model.specs.ControlRows.{no_rows}
use Rattle.rm_status.specs.RowsAfter.{AreRowsAfter}
use Rattle.rm_pool.specs.Slots.{part_in}
use Rattle.rm_collect.specs.Rows.{IsKept}
use Rattle.rm_report.specs.Measured.{IsMeasured}
use Rattle.rm_topn.specs.declared.course.Course.{Course}
use Rattle.rm_topn.specs.declared.course.Run.{Run}
use Rattle.rm_topn.specs.declared.plan.Plan.{Plan}
use Rattle.rm_topn.specs.declared.reports.Reports.{Reports}
use Rattle.rm_topn.specs.Control.{top_control}
use Rattle.rm_topn.specs.ControlColumns.{set_to}
use Rattle.rm_topn.specs.Courses.{end_at}
use Rattle.rm_topn.specs.Held.{AreAskable}
use Rattle.rm_topn.specs.Kept.{IsCourse}
use Rattle.rm_topn.specs.Plans.{IsPlan}
use Rattle.rm_topn.specs.Starts.{last_start}

-- The rows are those after a journal, and it was given the frames of the journal, none of which is too long, and which aren't too many.
pub record HasRows (reports : Reports) (settings : Counting) (journal : Journal) : Type 0 where
  pub rows : AreRowsAfter top_control no_rows set_to reports.rows journal
  pub given : reports.frames ≡ length (frames_in journal)
  pub measured : IsMeasured settings journal

-- The group stands for a journal: so it is, exactly the valid rows have what is kept of their reports, none is to begin, and no report that
-- runs should have ended by the last act, or by the moment that it was given last.
pub record Stands (reports : Reports) (settings : Counting) (journal : Journal) : Type 0 where
  pub held : HasRows reports settings journal
  pub courses : (row : ℕ) → IsKept top_control IsCourse settings journal row (part_in reports.courses row)
  pub timely : AreAskable reports.courses (max reports.last (last_moment journal))

-- what is kept of a row is what a journal gives, or a report is to begin by the last act
abbrev pub IsCourseThen : Counting → Journal → (row : ℕ) → Course → Option Plan → Type 0
IsCourseThen settings journal row course None = IsCourse settings journal row course × ((run : Run) → course.run ≡ Some run → run.runs ≡ true → last_moment journal < end_at run)
IsCourseThen settings journal row course (Some plan) = (last_start row journal ≡ Some journal) × IsPlan plan journal row

abbrev pub IsBegunOf : Counting → Journal → (row : ℕ) → Course → Type 0
IsBegunOf settings journal row course = IsCourseThen settings journal row course course.next

-- The group has begun the Set that is the last act of a journal: the reports of some rows are still to begin.
pub record HasBegun (reports : Reports) (settings : Counting) (journal : Journal) : Type 0 where
  pub held : HasRows reports settings journal
  pub courses : (row : ℕ) → IsKept top_control IsBegunOf settings journal row (part_in reports.courses row)
