-- Which report ends next.
use Rattle.std.proofs.Common.{◌≡◌, ◌⊎◌, inl, inr, ℕ, ◌<◌, ◌≤◌, List, Bool, true, false, ◌&&◌, cond, nat_lt, Option, Some, None, refl, sym, ap, ◌∙◌, arith}
use Rattle.std.specs.Prelude.{is_some}
use Rattle.std.specs.Option.{option_and_then, option_map}
use Rattle.std.proofs.lemmas.Bool.{cases_lt}
use Rattle.std.proofs.lemmas.Bool.Decides.{nat_tests}
use Rattle.std.proofs.lemmas.Option.{same_Some}
use Rattle.rm_group.specs.Due.{IsFirst, IsSooner}
use Rattle.rm_group.specs.declared.due.Due.{Due}
use Rattle.rm_group.proofs.Dues.{of_sooner}
use Rattle.rm_collect.specs.Rows.{IsKept}
use Rattle.rm_model.specs.ControlRows.{is_valid}
use Rattle.rm_model.specs.Counting.{Counting}
use Rattle.rm_model.specs.Journal.{Journal}
use Rattle.rm_pool.specs.declared.slot.Slot.{Slot}
use Rattle.rm_pool.specs.Pools.{IsOfValid}
use Rattle.rm_pool.specs.Slots.{part_in}
use Rattle.rm_status.proofs.RowFacts.{no_row_0}
use Rattle.rm_status.specs.declared.row.Row.{Row}
use Rattle.rm_status.specs.Rows.{row_in, state_seen, AllThere, IsIndexAfter}
use Rattle.rm_topn.specs.declared.control_columns.ControlColumns.{ControlColumns}
use Rattle.rm_topn.specs.declared.course.Course.{Course}
use Rattle.rm_topn.specs.declared.due.TheConstants.{REPORTS}
use Rattle.rm_topn.specs.declared.course.Run.{Run}
use Rattle.rm_topn.specs.declared.reports.Reports.{Reports}
use Rattle.rm_topn.specs.Control.{seconds_set, top_control}
use Rattle.rm_topn.specs.Courses.{end_at}
use Rattle.rm_topn.specs.Due.{IsEnd, due_end, end_after, end_ahead, end_in, ended_by}
use Rattle.rm_topn.specs.Held.{run_in}
use Rattle.rm_topn.specs.Kept.{HasCome, IsCourse, IsCourseOf, IsRun, still_runs, has_ended, had_none}
use Rattle.rm_topn.specs.Standing.{Stands}
use Rattle.rm_topn.specs.StartLaws.{idle_start}
use Rattle.rm_topn.specs.Starts.{end_of, last_start}

pub first_alike : (some others : Due → Type 0) (next : Option Due) → ((due : Due) → some due → others due) → ((due : Due) → others due → some due) → IsFirst some next → IsFirst others next
first_alike some others None there back none = λ due is. none due (back due is)
first_alike some others (Some first) there back is = (there first is.0, λ due other. is.1 due (back due other))

none_some : (o : Option ℕ) (x : ℕ) → o ≡ None → o ≡ Some x → ⊥
none_some o x e f = cc

module _ (courses : List (Slot Course)) where
  -- no report of a row that there isn't
  no_end : (rows : List (Row ControlColumns)) → IsOfValid courses rows → (i : ℕ) → row_in rows i ≡ None → end_in courses i ≡ None
  no_end rows of_valid i none = by_part (part_in courses i) refl
    where
      by_part : (o : Option Course) → part_in courses i ≡ o → option_and_then end_ahead (option_and_then (λ course. course.run) o) ≡ None
      by_part None here = refl
      by_part (Some course) here =
          let has : true ≡ false = sym (ap is_some here) ∙ of_valid i ∙ ap (λ o. is_valid (state_seen o)) none in
          absurd (cc)

  -- the ends of the rows up to one, and those of one row
  abbrev pub IsEndTo : (last : ℕ) → Due → Type 0
  IsEndTo last due = IsEnd (end_in courses) due × (due.number ≤ last)

  abbrev IsOwnEnd : (row : ℕ) → Due → Type 0
  IsOwnEnd row due = IsEnd (end_in courses) due × (due.number ≡ row)

  own_end : (row : ℕ) → IsFirst (IsOwnEnd row) (due_end courses row)
  own_end row = by_end (end_in courses row) refl
    where
      by_end : (o : Option ℕ) → end_in courses row ≡ o → IsFirst (IsOwnEnd row) (option_map (λ moment. record { moment = moment; kind = REPORTS; number = row }) o)
      by_end None none = λ due is. none_some (end_in courses due.number) due.moment (ap (end_in courses) is.1 ∙ none) is.0.1
      by_end (Some moment) here = (
        ((refl, here), refl),
        λ due is. inr (same_Some moment due.moment (sym here ∙ ap (end_in courses) (sym is.1) ∙ is.0.1), inr (sym is.0.0, omega (arith, is.1))),
      )

  pub begins : (rows : List (Row ControlColumns)) → AllThere top_control rows → IsOfValid courses rows → IsFirst (IsEndTo 0) None
  begins rows there of_valid due is =
      let zero : due.number ≡ 0 = omega (arith, is.1) in
      none_some (end_in courses due.number) due.moment (ap (end_in courses) zero ∙ no_end rows of_valid 0 (no_row_0 top_control rows there)) is.0.1

  pub goes_on : (rows : List (Row ControlColumns)) → IsOfValid courses rows → (last row : ℕ) (next result : Option Due) → IsIndexAfter rows last (Some row) → IsSooner next (due_end courses row) result
      → IsFirst (IsEndTo last) next → IsFirst (IsEndTo row) result
  goes_on rows of_valid last row next result after is first =
      first_alike (λ due. IsEndTo last due ⊎ IsOwnEnd row due) (IsEndTo row) result there back (of_sooner (IsEndTo last) (IsOwnEnd row) next (due_end courses row) result is first (own_end row))
    where
      there : (due : Due) → IsEndTo last due ⊎ IsOwnEnd row due → IsEndTo row due
      there due (inl low) = (low.0, omega (arith, low.1, after.0))
      there due (inr own) = (own.0, omega (arith, own.1))

      back : (due : Due) → IsEndTo row due → IsEndTo last due ⊎ IsOwnEnd row due
      back due (ends, within) = by_last (cases_lt last due.number) (cases_lt due.number row)
        where
          by_last : (last < due.number) ⊎ (due.number ≤ last) → (due.number < row) ⊎ (row ≤ due.number) → IsEndTo last due ⊎ IsOwnEnd row due
          by_last (inr low) place = inl (ends, low)
          by_last (inl above) (inl before) = absurd (none_some (end_in courses due.number) due.moment (no_end rows of_valid due.number (after.2 due.number above before)) ends.1)
          by_last (inl above) (inr not_before) = inr (ends, omega (arith, within, not_before))

  pub ends : (rows : List (Row ControlColumns)) → IsOfValid courses rows → (last : ℕ) (next : Option Due) → IsIndexAfter rows last None → IsFirst (IsEndTo last) next → IsFirst (IsEnd (end_in courses)) next
  ends rows of_valid last next after first = first_alike (IsEndTo last) (IsEnd (end_in courses)) next (λ due is. is.0) back first
    where
      back : (due : Due) → IsEnd (end_in courses) due → IsEndTo last due
      back due is = by_last (cases_lt last due.number)
        where
          by_last : (last < due.number) ⊎ (due.number ≤ last) → IsEndTo last due
          by_last (inr low) = (is, low)
          by_last (inl above) = absurd (none_some (end_in courses due.number) due.moment (no_end rows of_valid due.number (after due.number above)) is.1)

-- Where reports stand for a journal, those end that haven't by the moment that they were given last, and by the last act.
module _ (reports : Reports) (settings : Counting) (journal : Journal) (stands : Stands reports settings journal) (row : ℕ) where
  abbrev after_start : Journal → Option ℕ
  after_start from = cond (nat_lt 0 (seconds_set from row) && nat_lt (ended_by reports journal) (end_of row from)) (Some (end_of row from)) None

  -- of a report that began so
  module _ (from : Journal) (course : Course) (run : Run) (here : run_in reports.courses row ≡ Some run) (is : IsRun settings from journal row course run) where
    same_end : end_at run ≡ end_of row from
    same_end = omega (arith, is.begun, is.plan.seconds)

    has_second : (n : ℕ) → 1 ≤ n → nat_lt 0 n ≡ true
    has_second n some = grind (arith, nat_tests)

    is_ahead : (a b : ℕ) → a < b → nat_lt a b ≡ true
    is_ahead a b lt = grind (arith, nat_tests)

    is_over : (a b : ℕ) → b ≤ a → nat_lt a b ≡ false
    is_over a b le = grind (arith, nat_tests)

    chosen : (seconds later : Bool) → nat_lt 0 (seconds_set from row) ≡ seconds → nat_lt (ended_by reports journal) (end_of row from) ≡ later → after_start from ≡ cond (seconds && later) (Some (end_of row from)) None
    chosen seconds later e f = ap (λ t. cond (t && nat_lt (ended_by reports journal) (end_of row from)) (Some (end_of row from)) None) e ∙ ap (λ t. cond (seconds && t) (Some (end_of row from)) None) f

    by_come : HasCome settings from journal row course run → end_ahead run ≡ after_start from
    by_come (still_runs runs some rows copies) =
        let timely = stands.timely row run here runs in
        ap (λ t. cond t (Some (end_at run)) None) runs ∙ ap Some same_end
        ∙ sym (chosen true true (has_second (seconds_set from row) (omega (arith, some, is.plan.seconds))) (is_ahead (ended_by reports journal) (end_of row from) (omega (arith, timely, same_end))))
    by_come (has_ended over some reported) =
        let by = reports.ended row run here over in
        ap (λ t. cond t (Some (end_at run)) None) over
        ∙ sym (chosen true false (has_second (seconds_set from row) (omega (arith, some, is.plan.seconds))) (is_over (ended_by reports journal) (end_of row from) (omega (arith, by, same_end))))
    by_come (had_none over none rows) =
        ap (λ t. cond t (Some (end_at run)) None) over
        ∙ sym (ap (λ t. cond (t && nat_lt (ended_by reports journal) (end_of row from)) (Some (end_of row from)) None) (ap (nat_lt 0) (sym is.plan.seconds ∙ none)))

  by_start : (course : Course) (r : Option Run) → run_in reports.courses row ≡ r → (s : Option Journal) → IsCourseOf settings journal row course s r → option_and_then end_ahead r ≡ option_and_then after_start s
  by_start course None here None is = refl
  by_start course (Some run) here None is = absurd is
  by_start course None here (Some from) is = absurd is
  by_start course (Some run) here (Some from) is = by_come from course run here is is.come

  by_kept : (o : Option Course) → part_in reports.courses row ≡ o → IsKept top_control IsCourse settings journal row o
      → option_and_then end_ahead (option_and_then (λ course. course.run) o) ≡ option_and_then after_start (last_start row journal)
  by_kept None here idle = sym (ap (option_and_then after_start) (idle_start row journal idle))
  by_kept (Some course) here is = by_start course course.run (ap (option_and_then (λ (k : Course). k.run)) here) (last_start row journal) is.1

  pub end_is : end_in reports.courses row ≡ end_after (ended_by reports journal) journal row
  end_is = by_kept (part_in reports.courses row) refl (stands.courses row)
