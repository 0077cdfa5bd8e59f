-- What is kept of the reports of a row is what the journal gives.
use Rattle.std.specs.Prelude.{◌≡◌, ℕ, ◌<◌, ◌≤◌, [], true, false, Option, Some, None}
use Rattle.rm_model.specs.Counting.{Counting}
use Rattle.rm_model.specs.Journal.{Journal, last_moment}
use Rattle.rm_collect.specs.Group.{Stands}
use Rattle.rm_collect.specs.Held.{Held}
use Rattle.rm_collect.specs.Rows.{GoesOnOrSawNone}
use Rattle.rm_hosts.specs.Collection.{host_collection}
use Rattle.rm_hosts.specs.Control.{host_control}
use Rattle.rm_hosts.specs.ControlColumns.{ControlColumns, control_rows}
use Rattle.rm_hosts.specs.declared.host_room.HostRoom.{HostRoom}
use Rattle.rm_hosts.specs.Tables.{HostTable}
use Rattle.rm_report.specs.Copies.{AreCopies}
use Rattle.rm_report.specs.Linked.{IsLinked}
use Rattle.rm_report.specs.RateBase.{count_of}
use Rattle.rm_report.specs.Ranking.{IsReport}
use Rattle.rm_report.specs.Rates.{hosts_held, rate_of}
use Rattle.rm_topn.specs.declared.course.Course.{Course}
use Rattle.rm_topn.specs.declared.course.Run.{Run}
use Rattle.rm_topn.specs.Control.{host_row, rate_base, size_granted}
use Rattle.rm_topn.specs.Courses.{end_at}
use Rattle.rm_topn.specs.Plans.{IsPlan}
use Rattle.rm_topn.specs.Starts.{before_moment, end_of, last_start}

-- the hosts that are kept are those of the report that began so, by the acts of an earlier journal
abbrev pub AreReported : Counting → (from ended : Journal) → (row : ℕ) → Course → Type 0
AreReported settings from ended row course =
    IsReport (rate_of settings from ended (host_row from row) (count_of (rate_base from row))) (hosts_held settings ended (host_row from row)) (size_granted from row) course.report.rows

-- What has come of a report by the acts of a journal. While it runs, no host is kept, and the copies are those of its beginning, unless it
-- should have ended; once it has ended, its hosts are kept. One of no second has ended at once, without hosts.
pub data HasCome (settings : Counting) (from journal : Journal) (row : ℕ) (course : Course) (run : Run) : Type 0 where
  still_runs : run.runs ≡ true → 1 ≤ run.plan.seconds → course.report.rows ≡ []
      → (last_moment journal < end_of row from → AreCopies settings from (host_row from row) (rate_base from row) course.report.copies × IsLinked from journal (host_row from row))
      → HasCome settings from journal row course run
  has_ended : run.runs ≡ false → 1 ≤ run.plan.seconds → AreReported settings from (before_moment (end_of row from) journal) row course → HasCome settings from journal row course run
  had_none : run.runs ≡ false → run.plan.seconds ≡ 0 → course.report.rows ≡ [] → HasCome settings from journal row course run

-- a run that began with a journal, and what has come of it
pub record IsRun (settings : Counting) (from journal : Journal) (row : ℕ) (course : Course) (run : Run) : Type 0 where
  pub begun : run.begun ≡ last_moment from
  pub plan : IsPlan run.plan from row
  pub come : HasCome settings from journal row course run

-- by the last report that began, if one did
abbrev pub IsCourseOf : Counting → Journal → (row : ℕ) → Course → Option Journal → Option Run → Type 0
IsCourseOf settings journal row course None None = Unit {0}
IsCourseOf settings journal row course None (Some run) = ⊥
IsCourseOf settings journal row course (Some from) None = ⊥
IsCourseOf settings journal row course (Some from) (Some run) = IsRun settings from journal row course run

-- what is kept of a row is what the journal gives
abbrev pub IsCourse : Counting → Journal → (row : ℕ) → Course → Type 0
IsCourse settings journal row course = IsCourseOf settings journal row course (last_start row journal) course.run

-- what is kept may be asked at a moment: no report that runs should have ended by then
abbrev pub IsAskable : Course → (now : ℕ) → Type 0
IsAskable course now = (run : Run) → course.run ≡ Some run → run.runs ≡ true → now < end_at run

-- a report that has ended did so by a moment
abbrev pub HasEndedBy : Course → (moment : ℕ) → Type 0
HasEndedBy course moment = (run : Run) → course.run ≡ Some run → run.runs ≡ false → end_at run ≤ moment

-- over an act each row of hostControl goes on, or has seen no frame after it
abbrev pub DoHostsGoOn : (earlier later : Journal) → Type 0
DoHostsGoOn earlier later = (host : ℕ) → GoesOnOrSawNone host_control host earlier later

-- the hosts that are held are those of a journal
abbrev pub DoHostsStand : Held ControlColumns HostTable HostRoom → Counting → Journal → Type 0
DoHostsStand = Stands control_rows host_collection
