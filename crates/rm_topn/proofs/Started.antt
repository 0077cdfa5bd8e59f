-- The reports begin that are to begin by a Set.
use Rattle.std.proofs.Common.{◌≡◌, ℕ, ◌<◌, ◌≤◌, List, true, false, Option, Some, None, sym, ap, ◌∙◌, subst, arith}
use Rattle.std.specs.Prelude.{nat_lt}
use Rattle.std.specs.Option.{option_and_then}
use Rattle.std.proofs.lemmas.Bool.Decides.{nat_tests}
use Rattle.rm_model.specs.Counting.{Counting}
use Rattle.rm_model.specs.Journal.{Journal, last_moment}
use Rattle.rm_status.specs.declared.row.Row.{Row}
use Rattle.rm_pool.specs.declared.slot.Slot.{Slot}
use Rattle.rm_pool.specs.Pools.{Became, IsOfValid}
use Rattle.rm_pool.specs.Slots.{part_in}
use Rattle.rm_collect.specs.Rows.{IsKept}
use Rattle.rm_topn.proofs.Changed.{still_has}
use Rattle.rm_report.specs.Kept.{Kept}
use Rattle.rm_topn.specs.declared.control_columns.ControlColumns.{ControlColumns}
use Rattle.rm_topn.specs.declared.course.Course.{Course}
use Rattle.rm_topn.specs.declared.course.Run.{Run}
use Rattle.rm_topn.specs.declared.plan.Plan.{Plan}
use Rattle.rm_topn.specs.Changes.{HostsHeld, BeginsBy, BeginsNext}
use Rattle.rm_topn.specs.Control.{top_control}
use Rattle.rm_topn.specs.Courses.{end_at}
use Rattle.rm_topn.specs.Held.{AreAskable, HaveEndedBy}
use Rattle.rm_topn.specs.Kept.{DoHostsStand, IsCourse}
use Rattle.rm_topn.specs.Standing.{IsBegunOf, IsCourseThen}
use Rattle.rm_topn.proofs.Going.{beside}

-- one that begins now
module _ (now : ℕ) (plan : Plan) (run : Run) where
  abbrev begun_now : Run
  begun_now = record { plan = plan; begun = now; runs = nat_lt 0 plan.seconds }

  of_none : (n : ℕ) → nat_lt 0 n ≡ false → n ≡ 0
  of_none n e = grind (arith, nat_tests)

  of_some : (n : ℕ) → nat_lt 0 n ≡ true → 1 ≤ n
  of_some n e = grind (arith, nat_tests)

  is_begun : (r : Option Run) → r ≡ Some begun_now → r ≡ Some run → run ≡ begun_now
  is_begun r begun is = cc

  over_now : run ≡ begun_now → run.runs ≡ false → end_at run ≤ now
  over_now is over =
      let none : plan.seconds ≡ 0 = of_none plan.seconds (sym (ap (λ (r : Run). r.runs) is) ∙ over) in
      subst (λ (r : Run). end_at r ≤ now) (sym is) (omega (arith, none))

  later_now : run ≡ begun_now → run.runs ≡ true → now < end_at run
  later_now is runs =
      let some : 1 ≤ plan.seconds = of_some plan.seconds (sym (ap (λ (r : Run). r.runs) is) ∙ runs) in
      subst (λ (r : Run). now < end_at r) (sym is) (omega (arith, some))

module _ (hosts : HostsHeld) (now : ℕ) (old new : List (Slot Course)) (each : (row : ℕ) → Became (BeginsNext hosts now) (part_in old row) (part_in new row)) where
  pub of_valid_then : (rows : List (Row ControlColumns)) → IsOfValid old rows → IsOfValid new rows
  of_valid_then rows of_valid row = still_has (BeginsNext hosts now) (part_in old row) (part_in new row) (each row) ∙ of_valid row

  pub ended_then : (last : ℕ) → last ≤ now → HaveEndedBy old last → HaveEndedBy new now
  ended_then last later before row run here over = from (part_in old row) (part_in new row) (each row) (before row run) here
    where
      one : (course n : Course) (next : Option Plan) → BeginsBy hosts now next course n → (course.run ≡ Some run → run.runs ≡ false → end_at run ≤ last) → n.run ≡ Some run → end_at run ≤ now
      one course n None b ended is = let by = ended (sym b.0 ∙ is) over in omega (arith, by, later)
      one course n (Some plan) b ended is = over_now now plan run (is_begun now plan run n.run b.run is) over

      from : (o n : Option Course) → Became (BeginsNext hosts now) o n → (option_and_then (λ course. course.run) o ≡ Some run → run.runs ≡ false → end_at run ≤ last)
          → option_and_then (λ course. course.run) n ≡ Some run → end_at run ≤ now
      from None None b ended is = absurd (cc)
      from None (Some n) b ended is = absurd b
      from (Some course) None b ended is = absurd b
      from (Some course) (Some n) b ended is = one course n course.next b.begun ended is

  module _ (settings : Counting) (journal : Journal) (stand : DoHostsStand hosts settings journal) (at : last_moment journal ≡ now) where
    pub kept_then : (row : ℕ) → IsKept top_control IsBegunOf settings journal row (part_in old row) → IsKept top_control IsCourse settings journal row (part_in new row)
    kept_then row = from (part_in old row) (part_in new row) (each row)
      where
        one : (course n : Course) (next : Option Plan) → BeginsBy hosts now next course n → IsCourseThen settings journal row course next → IsCourse settings journal row n
        one course n None b is =
            subst (λ (k : Kept). IsCourse settings journal row (record { run = n.run; next = n.next; report = k })) (sym b.1)
            (subst (λ (r : Option Run). IsCourse settings journal row (record { run = r; next = n.next; report = course.report })) (sym b.0) (beside settings journal row course n.next is.0))
        one course n (Some plan) b is = b.course settings journal row is.0 is.1 at stand

        from : (o n : Option Course) → Became (BeginsNext hosts now) o n → IsKept top_control IsBegunOf settings journal row o → IsKept top_control IsCourse settings journal row n
        from None None b is = is
        from None (Some n) b is = absurd b
        from (Some course) None b is = absurd b
        from (Some course) (Some n) b is = (is.0, one course n course.next b.begun is.1)

    pub timely_then : ((row : ℕ) → IsKept top_control IsBegunOf settings journal row (part_in old row)) → AreAskable new (last_moment journal)
    timely_then are row run here runs = from (part_in old row) (part_in new row) (each row) (are row) here
      where
        one : (course n : Course) (next : Option Plan) → BeginsBy hosts now next course n → IsCourseThen settings journal row course next → n.run ≡ Some run → last_moment journal < end_at run
        one course n None b is here = is.1 run (sym b.0 ∙ here) runs
        one course n (Some plan) b is here = subst (λ (m : ℕ). m < end_at run) (sym at) (later_now now plan run (is_begun now plan run n.run b.run here) runs)

        from : (o n : Option Course) → Became (BeginsNext hosts now) o n → IsKept top_control IsBegunOf settings journal row o → option_and_then (λ course. course.run) n ≡ Some run → last_moment journal < end_at run
        from None None b is here = absurd (cc)
        from None (Some n) b is here = absurd b
        from (Some course) None b is here = absurd b
        from (Some course) (Some n) b is here = one course n course.next b.begun is.1 here
