-- What is kept of a row's reports, as the journal goes on.
use Rattle.std.proofs.Common.{◌≡◌, ℕ, ◌+◌, ◌*◌, ◌<◌, ◌≤◌, Bool, true, false, cond, [], ◌∷◌, refl, sym, ap, ◌∙◌, arith, subst, Option, Some, None, inl, inr}
use Rattle.std.specs.Prelude.{nat_lt}
use Rattle.std.proofs.lemmas.Bool.{true≢false}
use Rattle.std.proofs.lemmas.Bool.Decides.{nat_tests}
use Rattle.rm_model.specs.Counting.{Counting}
use Rattle.rm_model.specs.Journal.{Assignments, Frame, Journal, assigns, passes, last_moment}
use Rattle.rm_model.specs.ControlRows.{is_valid}
use Rattle.rm_collect.specs.Rows.{GoesOnOrSawNone}
use Rattle.rm_hosts.specs.Control.{host_control}
use Rattle.rm_report.specs.Copies.{AreCopies}
use Rattle.rm_report.specs.Linked.{IsLinked}
use Rattle.rm_report.proofs.LinkedLaws.{link_begins, link_ends, link_frame, link_going}
use Rattle.rm_topn.specs.declared.course.Course.{Course}
use Rattle.rm_topn.specs.declared.course.Run.{Run}
use Rattle.rm_topn.specs.declared.plan.Plan.{Plan}
use Rattle.rm_topn.specs.Control.{control_state, host_row, rate_base}
use Rattle.rm_topn.specs.Courses.{end_at}
use Rattle.rm_topn.specs.Kept.{AreReported, HasCome, IsRun, IsCourse, IsCourseOf, still_runs, has_ended, had_none, DoHostsGoOn}
use Rattle.rm_topn.specs.Plans.{IsPlan}
use Rattle.rm_topn.specs.Starts.{end_of, is_start, last_start}
use Rattle.rm_topn.specs.Lasting.{reached_not, by_end, goes_on}
use Rattle.rm_topn.specs.StartLaws.{idle_start}

-- a frame begins none
pub frame_start : (row : ℕ) (frame : Frame) (journal : Journal) → last_start row (passes frame ∷ journal) ≡ last_start row journal
frame_start row frame journal = go (is_valid (control_state journal row)) refl
  where
    go : (t : Bool) → is_valid (control_state journal row) ≡ t → cond (is_valid (control_state journal row)) (last_start row journal) None ≡ last_start row journal
    go true valid = ap (λ t. cond t (last_start row journal) None) valid
    go false idle = ap (λ t. cond t (last_start row journal) None) idle ∙ sym (idle_start row journal idle)

-- a frame
pub frame_passes : (settings : Counting) (frame : Frame) (journal : Journal) (row : ℕ) (course : Course) → last_moment journal ≤ frame.moment
    → ((run : Run) → course.run ≡ Some run → run.runs ≡ false → end_at run ≤ frame.moment)
    → IsCourse settings journal row course → IsCourse settings (passes frame ∷ journal) row course
frame_passes settings frame journal row course later ended is =
    goes_on settings (passes frame) journal row course (frame_start row frame journal) later (by_end settings (passes frame) journal row course ended) (λ from linked. link_frame from (host_row from row) journal linked frame) is

-- A report begins.
pub begins : (settings : Counting) (journal : Journal) (row : ℕ) (course : Course) (run : Run) → last_start row journal ≡ Some journal → course.run ≡ Some run → run.begun ≡ last_moment journal → IsPlan run.plan journal row
    → run.runs ≡ nat_lt 0 run.plan.seconds → course.report.rows ≡ [] → AreCopies settings journal (host_row journal row) (rate_base journal row) course.report.copies → IsCourse settings journal row course
begins settings journal row course run start here begun plan runs rows copies =
    subst (λ (o : Option Journal). IsCourseOf settings journal row course o course.run) (sym start)
    (subst (λ (r : Option Run). IsCourseOf settings journal row course (Some journal) r) (sym here)
    (record { begun = begun; plan = plan; come = go (nat_lt 0 run.plan.seconds) refl }))
  where
    some : (n : ℕ) → nat_lt 0 n ≡ true → 1 ≤ n
    some n e = grind (arith, nat_tests)

    none : (n : ℕ) → nat_lt 0 n ≡ false → n ≡ 0
    none n e = grind (arith, nat_tests)

    go : (t : Bool) → nat_lt 0 run.plan.seconds ≡ t → HasCome settings journal journal row course run
    go true e = still_runs (runs ∙ e) (some run.plan.seconds e) rows (λ lt. (copies, link_begins journal (host_row journal row)))
    go false e = had_none (runs ∙ e) (none run.plan.seconds e) rows

-- The report that runs ends.
module _ (settings : Counting) (from journal : Journal) (row : ℕ) (old new : Course) (run : Run) (start : last_start row journal ≡ Some from) (was : old.run ≡ Some run) (runs : run.runs ≡ true) (in_time : last_moment journal < end_at run) where
  its_run : IsCourse settings journal row old → IsRun settings from journal row old run
  its_run is =
      subst (λ (r : Option Run). IsCourseOf settings journal row old (Some from) r) was
      (subst (λ (o : Option Journal). IsCourseOf settings journal row old o old.run) start is)

  pub copied : IsCourse settings journal row old → AreCopies settings from (host_row from row) (rate_base from row) old.report.copies × IsLinked from journal (host_row from row)
  copied is = go its.come
    where
      its : IsRun settings from journal row old run
      its = its_run is

      go : HasCome settings from journal row old run → AreCopies settings from (host_row from row) (rate_base from row) old.report.copies × IsLinked from journal (host_row from row)
      go (still_runs still some rows copies) = copies (subst (λ n. last_moment journal < n) (λ d. its.begun d + 1000 * its.plan.seconds d) in_time)
      go (has_ended over some reported) = absurd (true≢false (sym runs ∙ over))
      go (had_none over no_second rows) = absurd (true≢false (sym runs ∙ over))

  pub ends : new.run ≡ Some (record run { runs = false }) → IsCourse settings journal row old → AreReported settings from journal row new → IsCourse settings journal row new
  ends now is reported =
      subst (λ (o : Option Journal). IsCourseOf settings journal row new o new.run) (sym start)
      (subst (λ (r : Option Run). IsCourseOf settings journal row new (Some from) r) (sym now)
      (record { begun = its.begun; plan = its.plan; come = has_ended refl some (subst (λ (earlier : Journal). AreReported settings from earlier row new) (sym (reached_not (end_of row from) journal time)) reported) }))
    where
      its : IsRun settings from journal row old run
      its = its_run is

      time : last_moment journal < end_of row from
      time = subst (λ n. last_moment journal < n) (λ d. its.begun d + 1000 * its.plan.seconds d) in_time

      some : 1 ≤ run.plan.seconds
      some = go its.come
        where
          go : HasCome settings from journal row old run → 1 ≤ run.plan.seconds
          go (still_runs still some rows copies) = some
          go (has_ended over some reported) = some
          go (had_none over no_second rows) = absurd (true≢false (sym runs ∙ over))

-- The report that runs ends, whichever it is: the hosts are reported by its copies.
pub report_ends : (settings : Counting) (journal : Journal) (row : ℕ) (old new : Course) (run : Run) → old.run ≡ Some run → run.runs ≡ true → last_moment journal < end_at run → new.run ≡ Some (record run { runs = false })
    → ((from : Journal) → IsPlan run.plan from row → AreCopies settings from (host_row from row) (rate_base from row) old.report.copies → IsLinked from journal (host_row from row) → AreReported settings from journal row new)
    → IsCourse settings journal row old → IsCourse settings journal row new
report_ends settings journal row old new run was runs in_time now reported is = by_start (last_start row journal) refl
  where
    by_start : (o : Option Journal) → last_start row journal ≡ o → IsCourse settings journal row new
    by_start None none = absurd (subst (λ (r : Option Run). IsCourseOf settings journal row old None r) was (subst (λ (o : Option Journal). IsCourseOf settings journal row old o old.run) none is))
    by_start (Some from) start =
        let its = its_run settings from journal row old new run start was runs in_time is in
        let both = copied settings from journal row old new run start was runs in_time is in
        ends settings from journal row old new run start was runs in_time now is (reported from its.plan both.0 both.1)

-- a Set
pub set_passes : (settings : Counting) (moment : ℕ) (values : Assignments) (journal : Journal) (row : ℕ) (course : Course) → last_moment journal ≤ moment
    → ((run : Run) → course.run ≡ Some run → run.runs ≡ false → end_at run ≤ moment)
    → is_valid (control_state (assigns moment values ∷ journal) row) ≡ true → is_start row (assigns moment values) journal ≡ false → DoHostsGoOn journal (assigns moment values ∷ journal)
    → IsCourse settings journal row course → IsCourse settings (assigns moment values ∷ journal) row course
set_passes settings moment values journal row course later ended valid no_start hosts is =
    goes_on settings (assigns moment values) journal row course same later (by_end settings (assigns moment values) journal row course ended) (λ from linked. by_host (host_row from row) from linked (hosts (host_row from row))) is
  where
    same : last_start row (assigns moment values ∷ journal) ≡ last_start row journal
    same =
        ap (λ t. cond t (cond (is_start row (assigns moment values) journal) (Some (assigns moment values ∷ journal)) (last_start row journal)) None) valid
        ∙ ap (λ t. cond t (Some (assigns moment values ∷ journal)) (last_start row journal)) no_start

    by_host : (host : ℕ) (from : Journal) → IsLinked from journal host
        → GoesOnOrSawNone host_control host journal (assigns moment values ∷ journal)
        → IsLinked from (assigns moment values ∷ journal) host
    by_host host from linked (inl going) = link_going from host journal linked (assigns moment values) refl going
    by_host host from linked (inr unseen) = link_ends from host journal linked (assigns moment values) refl unseen

-- what is to begin makes no difference to what has come of a report
pub beside : (settings : Counting) (journal : Journal) (row : ℕ) (course : Course) (next : Option Plan) → IsCourse settings journal row course → IsCourse settings journal row (record course { next = next })
beside settings journal row course next is = by_start (last_start row journal) course.run is
  where
    come : (from : Journal) (run : Run) → HasCome settings from journal row course run → HasCome settings from journal row (record course { next = next }) run
    come from run (still_runs runs some rows copies) = still_runs runs some rows copies
    come from run (has_ended over some reported) = has_ended over some reported
    come from run (had_none over no_second rows) = had_none over no_second rows

    by_start : (o : Option Journal) (r : Option Run) → IsCourseOf settings journal row course o r → IsCourseOf settings journal row (record course { next = next }) o r
    by_start None None its = its
    by_start None (Some run) its = its
    by_start (Some from) None its = its
    by_start (Some from) (Some run) its = record { begun = its.begun; plan = its.plan; come = come from run its.come }
