-- What is kept of a row's reports lasts over an act by which none begins, and over the sample of an alarm.
use Rattle.std.proofs.Common.{◌≡◌, ℕ, ◌+◌, ◌*◌, ◌<◌, ◌≤◌, Bool, true, false, cond, List, [], ◌∷◌, length, refl, sym, ap, ◌∙◌, arith, subst, Option, Some, None}
use Rattle.std.specs.Prelude.{ℤ, nat_lt, nat_le, filter, flat_map, sum_by}
use Rattle.std.specs.Str.{bytes_eq}
use Rattle.std.proofs.lemmas.Bool.Decides.{nat_tests}
use Rattle.rm_model.specs.Counting.{Counting}
use Rattle.rm_model.specs.Interfaces.{is_interface}
use Rattle.rm_model.specs.Journal.{Act, Journal, samples, last_moment, moment_of}
use Rattle.rm_model.specs.ControlRows.{is_valid, no_rows}
use Rattle.rm_acts.specs.Seen.{Seen}
use Rattle.rm_status.proofs.RowsAfterLemmas.{state_sampled}
use Rattle.rm_evicting.specs.Held.{gains, held_keys, since_entry}
use Rattle.rm_evicting.specs.Mention.{keys}
use Rattle.rm_collect.specs.Rows.{GoesOn}
use Rattle.rm_collect.specs.Sampled.{goes_on as sampled_on}
use Rattle.rm_hosts.specs.Control.{host_control, control_set as host_set}
use Rattle.rm_hosts.specs.Mentions.{mentioned}
use Rattle.rm_report.specs.Linked.{IsLinked}
use Rattle.rm_report.specs.Ranking.{IsReport}
use Rattle.rm_report.specs.RateBase.{count_of}
use Rattle.rm_report.specs.Rates.{shorter}
use Rattle.rm_report.proofs.LinkedLaws.{link_going}
use Rattle.rm_topn.specs.declared.course.Course.{Course}
use Rattle.rm_topn.specs.declared.course.Run.{Run}
use Rattle.rm_topn.specs.Control.{control_state, host_row, rate_base, size_granted, top_control}
use Rattle.rm_topn.specs.Courses.{end_at}
use Rattle.rm_topn.specs.Kept.{AreReported, HasCome, IsCourse, IsCourseOf, still_runs, has_ended, had_none}
use Rattle.rm_topn.specs.StartLaws.{idle_start}
use Rattle.rm_topn.specs.Starts.{before_moment, end_of, last_start}

-- before a moment that no act has reached, and at a moment that the last one has
pub reached_not : (moment : ℕ) (journal : Journal) → last_moment journal < moment → before_moment moment journal ≡ journal
reached_not moment [] lt = refl
reached_not moment (act ∷ earlier) lt = ap (λ t. cond t (act ∷ earlier) (before_moment moment earlier)) (is_lt (moment_of act) moment lt)
  where
    is_lt : (m n : ℕ) → m < n → nat_lt m n ≡ true
    is_lt m n lt = grind (arith, nat_tests)

pub reached : (moment : ℕ) (act : Act) (journal : Journal) → moment ≤ moment_of act → before_moment moment (act ∷ journal) ≡ before_moment moment journal
reached moment act journal le = ap (λ t. cond t (act ∷ journal) (before_moment moment journal)) (isnt_lt (moment_of act) moment le)
  where
    isnt_lt : (m n : ℕ) → n ≤ m → nat_lt m n ≡ false
    isnt_lt m n le = grind (arith, nat_tests)

-- a report that has ended by the moment of an act stays as it is
pub by_end : (settings : Counting) (act : Act) (journal : Journal) (row : ℕ) (course : Course) → ((run : Run) → course.run ≡ Some run → run.runs ≡ false → end_at run ≤ moment_of act)
    → (from : Journal) (run : Run) → course.run ≡ Some run → run.runs ≡ false → end_at run ≡ end_of row from
    → AreReported settings from (before_moment (end_of row from) journal) row course → AreReported settings from (before_moment (end_of row from) (act ∷ journal)) row course
by_end settings act journal row course ended from run here over same_end its =
    let by : end_of row from ≤ moment_of act = subst (λ n. n ≤ moment_of act) same_end (ended run here over) in
    subst (λ (earlier : Journal). AreReported settings from earlier row course) (sym (reached (end_of row from) act journal by)) its

-- One act more that begins no report: the hosts of those that have ended stay as they are, and the hosts of the row that is reported go on.
module _ (settings : Counting) (act : Act) (journal : Journal) (row : ℕ) (course : Course) (same : last_start row (act ∷ journal) ≡ last_start row journal) (later : last_moment journal ≤ moment_of act)
    (reported : (from : Journal) (run : Run) → course.run ≡ Some run → run.runs ≡ false → end_at run ≡ end_of row from
    → AreReported settings from (before_moment (end_of row from) journal) row course → AreReported settings from (before_moment (end_of row from) (act ∷ journal)) row course)
    (linked : (from : Journal) → IsLinked from journal (host_row from row) → IsLinked from (act ∷ journal) (host_row from row)) where
  come_on : (from : Journal) (run : Run) → course.run ≡ Some run → end_at run ≡ end_of row from → HasCome settings from journal row course run → HasCome settings from (act ∷ journal) row course run
  come_on from run here same_end (still_runs runs some rows copies) =
      still_runs runs some rows (λ lt. let before : last_moment journal < end_of row from = omega arith in let are = copies before in (are.0, linked from are.1))
  come_on from run here same_end (has_ended over some its) = has_ended over some (reported from run here over same_end its)
  come_on from run here same_end (had_none over no_second rows) = had_none over no_second rows

  by_run : (o : Option Journal) (r : Option Run) → course.run ≡ r → IsCourseOf settings journal row course o r → IsCourseOf settings (act ∷ journal) row course o r
  by_run None None here its = tt
  by_run None (Some run) here its = its
  by_run (Some from) None here its = its
  by_run (Some from) (Some run) here its = record {
    begun = its.begun;
    plan = its.plan;
    come = come_on from run here (λ d. its.begun d + 1000 * its.plan.seconds d) its.come;
  }

  pub goes_on : IsCourse settings journal row course → IsCourse settings (act ∷ journal) row course
  goes_on is = subst (λ (o : Option Journal). IsCourseOf settings (act ∷ journal) row course o course.run) (sym same) (by_run (last_start row journal) course.run refl is)

-- a sample, which makes no difference to what rows of hostControl have seen
sample_start : (row moment alarm : ℕ) (reading : Option ℤ) (journal : Journal) → last_start row (samples moment alarm reading ∷ journal) ≡ last_start row journal
sample_start row moment alarm reading journal = go (is_valid (control_state journal row)) refl
  where
    same : control_state (samples moment alarm reading ∷ journal) row ≡ control_state journal row
    same = state_sampled top_control no_rows refl journal moment alarm reading (row ∷ [])

    go : (t : Bool) → is_valid (control_state journal row) ≡ t → cond (is_valid (control_state (samples moment alarm reading ∷ journal) row)) (last_start row journal) None ≡ last_start row journal
    go true valid = ap (λ t. cond t (last_start row journal) None) (ap is_valid same ∙ valid)
    go false idle = ap (λ t. cond t (last_start row journal) None) (ap is_valid same ∙ idle) ∙ sym (idle_start row journal idle)

-- the report of the hosts of a row, by what the row has seen
abbrev AreReportedBy : Counting → (from journal : Journal) → (row : ℕ) → Course → List Seen → Type 0
AreReportedBy settings from journal row course seen =
    let host = host_row from row in
    let of_source : Seen → Bool = λ one. is_interface (host_set journal (host ∷ []) 2) one.frame.interface in
    let mentions = flat_map (mentioned settings) (filter of_source seen) in
    let after = flat_map (mentioned settings) (filter of_source (filter (λ one. nat_le (length from) (length one.before)) seen)) in
    IsReport (λ address. sum_by (count_of (rate_base from row)) (gains bytes_eq address (shorter (since_entry bytes_eq settings.hosts address mentions) after)))
    (held_keys bytes_eq settings.hosts (keys mentions)) (size_granted from row) course.report.rows

pub sample_passes : (settings : Counting) (moment alarm : ℕ) (reading : Option ℤ) (journal : Journal) (row : ℕ) (course : Course) → last_moment journal ≤ moment
    → IsCourse settings journal row course → IsCourse settings (samples moment alarm reading ∷ journal) row course
sample_passes settings moment alarm reading journal row course later is =
    goes_on settings act journal row course (sample_start row moment alarm reading journal) later reported (λ from linked. link_going from (host_row from row) journal linked act refl (going (host_row from row))) is
  where
    act : Act
    act = samples moment alarm reading

    going : (host : ℕ) → GoesOn host_control host journal (act ∷ journal)
    going host = sampled_on host_control refl journal moment alarm reading later host

    below : (a m n : ℕ) → a ≤ m → nat_lt m n ≡ true → a < n
    below a m n le lt = grind (arith, nat_tests)

    stays : (from : Journal) → AreReported settings from journal row course → AreReported settings from (act ∷ journal) row course
    stays from its = subst (AreReportedBy settings from journal row course) (sym ((going (host_row from row)).seen)) its

    by_order : (from : Journal) (t : Bool) → nat_lt moment (end_of row from) ≡ t → AreReported settings from (before_moment (end_of row from) journal) row course → AreReported settings from (before_moment (end_of row from) (act ∷ journal)) row course
    by_order from true before its =
        subst (λ (earlier : Journal). AreReported settings from earlier row course) (sym (ap (λ t. cond t (act ∷ journal) (before_moment (end_of row from) journal)) before))
        (stays from (subst (λ (earlier : Journal). AreReported settings from earlier row course) (reached_not (end_of row from) journal (below (last_moment journal) moment (end_of row from) later before)) its))
    by_order from false by its =
        subst (λ (earlier : Journal). AreReported settings from earlier row course) (sym (ap (λ t. cond t (act ∷ journal) (before_moment (end_of row from) journal)) by)) its

    reported : (from : Journal) (run : Run) → course.run ≡ Some run → run.runs ≡ false → end_at run ≡ end_of row from
        → AreReported settings from (before_moment (end_of row from) journal) row course → AreReported settings from (before_moment (end_of row from) (act ∷ journal)) row course
    reported from run here over same_end its = by_order from (nat_lt moment (end_of row from)) refl its
