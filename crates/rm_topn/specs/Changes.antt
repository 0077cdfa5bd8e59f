-- What becomes of what is kept of a row's reports.
use Rattle.std.specs.Prelude.{◌≡◌, ℕ, nat_lt, Option, Some, None}
use Rattle.rm_model.specs.Counting.{Counting}
use Rattle.rm_model.specs.Journal.{Journal, last_moment}
use Rattle.rm_collect.specs.Held.{Held}
use Rattle.rm_hosts.specs.ControlColumns.{ControlColumns}
use Rattle.rm_hosts.specs.declared.host_room.HostRoom.{HostRoom}
use Rattle.rm_hosts.specs.Tables.{HostTable}
use Rattle.rm_report.specs.Measured.{IsMeasured}
use Rattle.rm_topn.specs.declared.course.Course.{Course}
use Rattle.rm_topn.specs.declared.plan.Plan.{Plan}
use Rattle.rm_topn.specs.Courses.{run_by}
use Rattle.rm_topn.specs.Kept.{DoHostsStand, IsAskable, IsCourse}
use Rattle.rm_topn.specs.Plans.{IsPlan}
use Rattle.rm_topn.specs.Starts.{last_start}

-- the hosts of the rows of hostControl that are held
abbrev pub HostsHeld : Type 0
HostsHeld = Held ControlColumns HostTable HostRoom

-- A report ends that is due by a moment: what is kept is what a journal gives as before, where no report should have ended by its last act.
pub record EndsBy (hosts : HostsHeld) (moment : ℕ) (old new : Course) : Type 0 where
  pub run : new.run ≡ run_by moment old.run
  pub next : new.next ≡ old.next
  pub course : (settings : Counting) (journal : Journal) (row : ℕ) → IsMeasured settings journal → DoHostsStand hosts settings journal
      → IsAskable old (last_moment journal) → IsCourse settings journal row old → IsCourse settings journal row new

-- A report that was asked for begins at a moment.
pub record BeginsAs (hosts : HostsHeld) (now : ℕ) (plan : Plan) (new : Course) : Type 0 where
  pub run : new.run ≡ Some (record { plan = plan; begun = now; runs = nat_lt 0 plan.seconds })
  pub course : (settings : Counting) (journal : Journal) (row : ℕ) → last_start row journal ≡ Some journal → IsPlan plan journal row
      → last_moment journal ≡ now → DoHostsStand hosts settings journal → IsCourse settings journal row new

abbrev pub BeginsBy : HostsHeld → (now : ℕ) → Option Plan → (old new : Course) → Type 0
BeginsBy hosts now None old new = (new.run ≡ old.run) × (new.report ≡ old.report)
BeginsBy hosts now (Some plan) old new = BeginsAs hosts now plan new

-- The report that is to begin begins at a moment, if there is one; none is to begin then.
pub record BeginsNext (hosts : HostsHeld) (now : ℕ) (old new : Course) : Type 0 where
  pub next : new.next ≡ None
  pub begun : BeginsBy hosts now old.next old new
