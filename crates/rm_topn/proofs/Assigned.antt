-- What is kept of the rows of hostTopNControl once a Set has begun.
use Rattle.std.proofs.Common.{◌≡◌, ℕ, ◌<◌, ◌≤◌, List, [], ◌∷◌, Bool, true, false, not, cond, nat_eq, Option, Some, None, refl, sym, ap, ◌∙◌, subst, arith}
use Rattle.std.specs.Prelude.{is_some}
use Rattle.std.specs.Option.{option_and_then}
use Rattle.rm_model.specs.Counting.{Counting}
use Rattle.rm_model.specs.Journal.{Assignments, Journal, assigns, last_moment, value_given}
use Rattle.rm_model.specs.ControlRows.{no_rows, cell_name, is_valid}
use Rattle.rm_model.specs.Judgement.{Bindings}
use Rattle.rm_model.specs.declared.row.State.TheVariants.{Valid}
use Rattle.rm_status.specs.declared.row.Row.{Row}
use Rattle.rm_status.specs.Rows.{columns_in, state_in}
use Rattle.rm_status.specs.RowsAfter.{AreRowsAfter}
use Rattle.rm_status.proofs.Committed.{IsCommitted, rows_committed}
use Rattle.rm_status.proofs.RowFacts.{valid_columns, valid_is, valid_there}
use Rattle.rm_pool.specs.declared.slot.Slot.{Slot}
use Rattle.rm_pool.specs.Pools.{valid_in, Became, IsOfValid, IsThere}
use Rattle.rm_pool.specs.Slots.{part_in, has_part}
use Rattle.rm_collect.specs.Rows.{IsKept}
use Rattle.rm_topn.specs.declared.control_columns.ControlColumns.{ControlColumns}
use Rattle.rm_topn.specs.declared.course.Course.{Course}
use Rattle.rm_topn.specs.declared.course.Run.{Run}
use Rattle.rm_topn.specs.declared.plan.Plan.{Plan}
use Rattle.rm_topn.specs.Asking.{IsAsked, IsIdle, asked_again, if_runs, plan_in}
use Rattle.rm_topn.specs.Control.{control_entry, control_state, seconds_set, top_control}
use Rattle.rm_topn.specs.ControlColumns.{control_rows, set_to}
use Rattle.rm_topn.specs.Courses.{end_at}
use Rattle.rm_topn.specs.Held.{AreAskable, HaveEndedBy}
use Rattle.rm_topn.specs.Kept.{DoHostsGoOn, IsCourse}
use Rattle.rm_topn.specs.Plans.{IsPlan, plan_of}
use Rattle.rm_topn.specs.Standing.{IsBegunOf, IsCourseThen}
use Rattle.rm_topn.specs.Starts.{is_start, last_start}
use Rattle.rm_topn.specs.StartLaws.{idle_start}
use Rattle.rm_topn.proofs.Going.{beside, set_passes}
use Rattle.rm_topn.proofs.Planned.{plan_is}

module _ (settings : Counting) (journal : Journal) (now : ℕ) (later : last_moment journal ≤ now) (bs : Bindings) (values : Assignments) (rows new : List (Row ControlColumns)) (set : IsCommitted control_rows no_rows journal values bs rows new) where
  abbrev with_set : Journal
  with_set = assigns now values ∷ journal

  pub rows_with_set : AreRowsAfter top_control no_rows set_to new with_set
  rows_with_set = rows_committed control_rows set now

  module _ (i : ℕ) where
    abbrev time : List ℕ
    time = cell_name control_entry 4 (i ∷ [])

    state_then : state_in new i ≡ control_state with_set i
    state_then = rows_with_set.alike.states i

    abbrev kept_then : Option Course → Type 0
    kept_then o = IsKept top_control IsBegunOf settings with_set i o

    module _ (valid : valid_in new i ≡ true) where
      valid_now : control_state with_set i ≡ Valid
      valid_now = valid_is (control_state with_set i) (sym (ap is_valid state_then) ∙ valid)

      planned : (plan : Plan) × (plan_in new i ≡ Some plan) × IsPlan plan with_set i
      planned = from (valid_columns new i valid)
        where
          from : (columns : ControlColumns) × (columns_in new i ≡ Some columns) → (plan : Plan) × (plan_in new i ≡ Some plan) × IsPlan plan with_set i
          from (columns, here) = (plan_of columns, ap (λ (o : Option ControlColumns). option_and_then (λ c. Some (plan_of c)) o) here, plan_is new with_set rows_with_set i (valid_there (state_in new i) valid) columns here)

      -- a report begins, or none does
      starts : is_start i (assigns now values) journal ≡ true → last_start i with_set ≡ Some with_set
      starts start =
          ap (λ t. cond t (cond (is_start i (assigns now values) journal) (Some with_set) (last_start i journal)) None) (ap is_valid valid_now)
          ∙ ap (λ t. cond t (Some with_set) (last_start i journal)) start

      starts_none : is_start i (assigns now values) journal ≡ false → last_start i with_set ≡ last_start i journal
      starts_none none =
          ap (λ t. cond t (cond (is_start i (assigns now values) journal) (Some with_set) (last_start i journal)) None) (ap is_valid valid_now)
          ∙ ap (λ t. cond t (Some with_set) (last_start i journal)) none

      -- of a row that stays valid
      module _ (course : Course) (was : control_state journal i ≡ Valid) (is : IsCourse settings journal i course)
          (asked : (run : Run) → course.run ≡ Some run → run.runs ≡ true → now < end_at run) (ended : (run : Run) → course.run ≡ Some run → run.runs ≡ false → end_at run ≤ now)
          (hosts : DoHostsGoOn journal with_set) where
        given : is_start i (assigns now values) journal ≡ is_some (value_given bs time)
        given =
            ap (λ t. cond t (is_some (value_given values time)) (not (nat_eq (seconds_set with_set i) 0))) (ap is_valid was)
            ∙ ap is_some (set.gives time)

        abbrev then : Option Plan → Type 0
        then next = IsCourseThen settings with_set i (record course { next = next }) next

        by_given : (g : Bool) → is_some (value_given bs time) ≡ g → then (cond g (plan_in new i) None)
        by_given false none = (
          beside settings with_set i course None (set_passes settings now values journal i course later ended (ap is_valid valid_now) (given ∙ none) hosts is),
          asked,
        )
        by_given true some = from planned
          where
            from : (plan : Plan) × (plan_in new i ≡ Some plan) × IsPlan plan with_set i → then (plan_in new i)
            from (plan, here, asks) = subst then (sym here) (starts (given ∙ some), asks)

        stays_there : kept_then (Some (record course { next = asked_again new bs i }))
        stays_there = (valid_now, by_given (is_some (value_given bs time)) refl)

      -- of one that has become valid
      module _ (was : is_valid (control_state journal i) ≡ false) (course : Course) (idle : IsIdle new i course) where
        by_plan : (plan : Plan) × (plan_in new i ≡ Some plan) × IsPlan plan with_set i → IsBegunOf settings with_set i course
        by_plan (plan, here, asks) =
            subst (IsCourseThen settings with_set i course) (sym (idle.next ∙ ap (λ o. option_and_then if_runs o) here)) (by_time (nat_eq plan.seconds 0) refl)
          where
            start_is : (t : Bool) → nat_eq plan.seconds 0 ≡ t → is_start i (assigns now values) journal ≡ not t
            start_is t e =
                ap (λ t. cond t (is_some (value_given values time)) (not (nat_eq (seconds_set with_set i) 0))) was
                ∙ ap (λ n. not (nat_eq n 0)) (sym asks.seconds) ∙ ap not e

            by_time : (t : Bool) → nat_eq plan.seconds 0 ≡ t → IsCourseThen settings with_set i course (cond t None (Some plan))
            by_time true none = (
              idle.course settings with_set (starts_none (start_is true none) ∙ idle_start i journal was),
              λ run here runs. absurd (none_runs run (sym idle.run ∙ here)),
            )
              where
                none_runs : (run : Run) → ◌≡◌ {A = Option Run} None (Some run) → ⊥
                none_runs run e = cc
            by_time false some = (starts (start_is false some), asks)

        begins_there : kept_then (Some course)
        begins_there = (valid_now, by_plan planned)

    none_there : (n : Option Course) → valid_in new i ≡ false → is_some n ≡ false → kept_then n
    none_there None idle none = ap is_valid (sym state_then) ∙ idle
    none_there (Some course) idle none = absurd (cc)

    part_then : (o m n : Option Course) (t : Bool) → valid_in new i ≡ t → DoHostsGoOn journal with_set → IsKept top_control IsCourse settings journal i o
        → ((run : Run) → option_and_then (λ course. course.run) o ≡ Some run → run.runs ≡ true → now < end_at run)
        → ((run : Run) → option_and_then (λ course. course.run) o ≡ Some run → run.runs ≡ false → end_at run ≤ now)
        → Became (IsAsked new bs i) o m → is_some n ≡ t
        → (t ≡ true → is_some m ≡ true → n ≡ m) → (t ≡ true → m ≡ None → IsThere (IsIdle new i) n) → kept_then n
    part_then o m n false e hosts was asked ended marked held kept begun = none_there n e held
    part_then None None n true e hosts was asked ended marked held kept begun = from n (begun refl refl)
      where
        from : (n : Option Course) → IsThere (IsIdle new i) n → kept_then n
        from None idle = absurd idle
        from (Some course) idle = begins_there e was course idle
    part_then None (Some m) n true e hosts was asked ended marked held kept begun = absurd marked
    part_then (Some course) None n true e hosts was asked ended marked held kept begun = absurd marked
    part_then (Some course) (Some m) n true e hosts was asked ended marked held kept begun =
        subst kept_then (sym (kept refl refl ∙ ap (λ (c : Course). Some c) marked)) (stays_there e course was.0 was.1 asked ended hosts)

  pub courses_with_set : (courses marked then : List (Slot Course)) → DoHostsGoOn journal with_set → ((row : ℕ) → IsKept top_control IsCourse settings journal row (part_in courses row))
      → AreAskable courses now → HaveEndedBy courses now → ((row : ℕ) → Became (IsAsked new bs row) (part_in courses row) (part_in marked row)) → IsOfValid then new
      → ((row : ℕ) → valid_in new row ≡ true → has_part marked row ≡ true → part_in then row ≡ part_in marked row)
      → ((row : ℕ) → valid_in new row ≡ true → part_in marked row ≡ None → IsThere (IsIdle new row) (part_in then row))
      → (row : ℕ) → IsKept top_control IsBegunOf settings with_set row (part_in then row)
  courses_with_set courses marked then hosts are asked ended each of_valid kept begun i =
      part_then i (part_in courses i) (part_in marked i) (part_in then i) (valid_in new i) refl hosts (are i) (asked i) (ended i) (each i) (of_valid i) (kept i) (begun i)

-- the reports that have ended did so by a later moment too
module _ (last now : ℕ) (later : last ≤ now) (new : List (Row ControlColumns)) (bs : Bindings) (courses marked then : List (Slot Course)) (before : HaveEndedBy courses last)
    (each : (row : ℕ) → Became (IsAsked new bs row) (part_in courses row) (part_in marked row)) (of_valid : IsOfValid then new)
    (kept : (row : ℕ) → valid_in new row ≡ true → has_part marked row ≡ true → part_in then row ≡ part_in marked row)
    (begun : (row : ℕ) → valid_in new row ≡ true → part_in marked row ≡ None → IsThere (IsIdle new row) (part_in then row)) where
  ran : (row : ℕ) (o m n : Option Course) → Became (IsAsked new bs row) o m → is_some n ≡ valid_in new row
      → (valid_in new row ≡ true → is_some m ≡ true → n ≡ m) → (valid_in new row ≡ true → m ≡ None → IsThere (IsIdle new row) n)
      → (run : Run) → option_and_then (λ course. course.run) n ≡ Some run → option_and_then (λ course. course.run) o ≡ Some run
  ran row o m None marked held kept begun run here = absurd (cc)
  ran row None None (Some n) marked held kept begun run here =
      let idle : IsIdle new row n = begun (sym held) refl in
      absurd (no_run (sym idle.run ∙ here))
    where
      no_run : ◌≡◌ {A = Option Run} None (Some run) → ⊥
      no_run e = cc
  ran row None (Some m) (Some n) marked held kept begun run here = absurd marked
  ran row (Some course) None (Some n) marked held kept begun run here = absurd marked
  ran row (Some course) (Some m) (Some n) marked held kept begun run here =
      ap (λ (c : Course). c.run) (sym marked) ∙ sym (ap (λ (o : Option Course). option_and_then (λ c. c.run) o) (kept (sym held) refl)) ∙ here

  pub ended_with_set : HaveEndedBy then now
  ended_with_set row run here over =
      let by = before row run (ran row (part_in courses row) (part_in marked row) (part_in then row) (each row) (of_valid row) (kept row) (begun row) run here) over in omega (arith, by, later)
