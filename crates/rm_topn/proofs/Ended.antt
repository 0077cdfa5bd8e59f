-- Reports that are due by a moment end.
use Rattle.std.proofs.Common.{◌≡◌, ◌⊎◌, inl, inr, ℕ, zero, suc, ◌+◌, ◌<◌, ◌≤◌, List, Bool, true, false, ◌&&◌, cond, not, max, Option, Some, None, refl, sym, ap, ◌∙◌, subst, arith}
use Rattle.std.specs.Prelude.{◌↔◌, is_some, nat_le, nat_lt}
use Rattle.std.proofs.lemmas.Bool.{true≢false, cases_lt}
use Rattle.std.proofs.lemmas.Option.{same_Some}
use Rattle.std.proofs.lemmas.Bool.Decides.{nat_tests}
use Rattle.std.specs.Option.{option_and_then}
use Rattle.rm_model.specs.Counting.{Counting}
use Rattle.rm_model.specs.Journal.{Journal, last_moment}
use Rattle.rm_group.specs.declared.due.Due.{Due}
use Rattle.rm_model.specs.Judgement.{count_below}
use Rattle.rm_status.proofs.Valid.{count_less}
use Rattle.rm_status.specs.declared.row.Row.{Row}
use Rattle.rm_pool.specs.declared.slot.Slot.{Slot}
use Rattle.rm_pool.specs.Pools.{AreNumbered, Became, IsOfValid}
use Rattle.rm_pool.specs.Slots.{part_in}
use Rattle.rm_collect.specs.Rows.{IsKept}
use Rattle.rm_topn.proofs.Changed.{still_has}
use Rattle.rm_report.specs.Measured.{IsMeasured}
use Rattle.rm_topn.specs.declared.control_columns.ControlColumns.{ControlColumns}
use Rattle.rm_topn.specs.declared.course.Course.{Course}
use Rattle.rm_topn.specs.declared.course.Run.{Run}
use Rattle.rm_topn.specs.Changes.{HostsHeld, EndsBy}
use Rattle.rm_topn.specs.Control.{top_control}
use Rattle.rm_topn.specs.Courses.{end_at, ended_run, is_due, run_by}
use Rattle.rm_topn.specs.Due.{IsEnd, end_ahead, end_in, ends_by}
use Rattle.rm_topn.specs.Held.{AreAskable, HaveEndedBy, run_in}
use Rattle.rm_topn.specs.Kept.{DoHostsStand, IsCourse}

-- what a report is then: it has ended, since it was due, or it is as it was
data HasBecome (moment : ℕ) (was run : Run) : Type 0 where
  ended : run ≡ ended_run was → end_at was ≤ moment → HasBecome moment was run
  stayed : run ≡ was → (was.runs ≡ true → moment < end_at was) → HasBecome moment was run

become : (moment : ℕ) (was run : Run) → run_by moment (Some was) ≡ Some run → HasBecome moment was run
become moment was run is = by_test (is_due moment was) refl
  where
    one : (r : Run) → Some r ≡ Some run → run ≡ r
    one r e = cc

    due_by : (b : Bool) → (b && nat_le (end_at was) moment) ≡ true → end_at was ≤ moment
    due_by true e = grind (arith, nat_tests)
    due_by false e = absurd (true≢false (sym e))

    not_due : (b : Bool) → (b && nat_le (end_at was) moment) ≡ false → b ≡ true → moment < end_at was
    not_due true e runs = grind (arith, nat_tests)
    not_due false e runs = absurd (true≢false (sym runs))

    by_test : (t : Bool) → is_due moment was ≡ t → HasBecome moment was run
    by_test true due = ended (one (ended_run was) (sym (ap (λ t. Some (cond t (ended_run was) was)) due) ∙ is)) (due_by was.runs due)
    by_test false due = stayed (one was (sym (ap (λ t. Some (cond t (ended_run was) was)) due) ∙ is)) (not_due was.runs due)

-- the ends that are later than a moment
abbrev end_later : (moment : ℕ) → Option ℕ → Option ℕ
end_later moment end = option_and_then (λ at. cond (nat_lt moment at) (Some at) None) end

not_both : (a b : ℕ) → nat_le a b ≡ not (nat_lt b a)
not_both a b = by_test (nat_le a b) (nat_lt b a) refl refl
  where
    by_test : (s t : Bool) → nat_le a b ≡ s → nat_lt b a ≡ t → s ≡ not t
    by_test true true e f = absurd (grind (arith, nat_tests, e, f))
    by_test true false e f = refl
    by_test false true e f = refl
    by_test false false e f = absurd (grind (arith, nat_tests, e, f))

end_of_run : (moment : ℕ) (o : Option Run) → option_and_then end_ahead (run_by moment o) ≡ end_later moment (option_and_then end_ahead o)
end_of_run moment None = refl
end_of_run moment (Some run) = by_runs run.runs refl
  where
    ahead : Bool → Option ℕ
    ahead t = end_ahead (cond t (ended_run run) run)

    ends : Bool → Option ℕ
    ends t = cond t (Some (end_at run)) None

    by_later : (t : Bool) → run.runs ≡ true → ahead (not t) ≡ ends t
    by_later true runs = ap ends runs
    by_later false runs = refl

    by_runs : (t : Bool) → run.runs ≡ t → ahead (run.runs && nat_le (end_at run) moment) ≡ end_later moment (ends run.runs)
    by_runs true runs =
        ap (λ t. ahead (t && nat_le (end_at run) moment)) runs ∙ ap ahead (not_both (end_at run) moment) ∙ by_later (nat_lt moment (end_at run)) runs ∙ sym (ap (λ t. end_later moment (ends t)) runs)
    by_runs false over = ap (λ t. ahead (t && nat_le (end_at run) moment)) over ∙ ap ends over ∙ sym (ap (λ t. end_later moment (ends t)) over)

later_end : (moment at : ℕ) (o : Option ℕ) → end_later moment o ≡ Some at → (o ≡ Some at) × (moment < at)
later_end moment at None e = absurd (cc)
later_end moment at (Some end) e = by_test (nat_lt moment end) refl e
  where
    by_test : (t : Bool) → nat_lt moment end ≡ t → cond t (Some end) None ≡ Some at → (Some end ≡ Some at) × (moment < at)
    by_test true later is = (is, let same = same_Some end at is in subst (λ (n : ℕ). moment < n) same (grind (arith, nat_tests)))
    by_test false later is = absurd (cc)

still_later : (moment at : ℕ) → moment < at → end_later moment (Some at) ≡ Some at
still_later moment at later = ap (λ t. cond t (Some at) None) (by_test (nat_lt moment at) refl)
  where
    by_test : (t : Bool) → nat_lt moment at ≡ t → t ≡ true
    by_test true e = refl
    by_test false e = absurd (grind (arith, nat_tests, e, later))

still_ends : (moment latest : ℕ) (o : Option ℕ) → ends_by latest (end_later moment o) ≡ true → ends_by latest o ≡ true
still_ends moment latest None e = e
still_ends moment latest (Some at) e = by_test (nat_lt moment at) e
  where
    by_test : (t : Bool) → ends_by latest (cond t (Some at) None) ≡ true → nat_le at latest ≡ true
    by_test true is = is
    by_test false is = absurd (cc)

ended_not : (moment latest at : ℕ) → at ≤ moment → ends_by latest (end_later moment (Some at)) ≡ false
ended_not moment latest at by = by_test (nat_lt moment at) refl
  where
    by_test : (t : Bool) → nat_lt moment at ≡ t → ends_by latest (cond t (Some at) None) ≡ false
    by_test true e = absurd (grind (arith, nat_tests, e, by))
    by_test false e = refl

ends_within : (latest at : ℕ) → at ≤ latest → nat_le at latest ≡ true
ends_within latest at within = by_test (nat_le at latest) refl
  where
    by_test : (t : Bool) → nat_le at latest ≡ t → t ≡ true
    by_test true e = refl
    by_test false e = absurd (grind (arith, nat_tests, e, within))

-- where each that passes one test passes another, and one the other alone
count_fewer : (p q : ℕ → Bool) (n at : ℕ) → ((i : ℕ) → p i ≡ true → q i ≡ true) → at < n → p at ≡ false → q at ≡ true → count_below p n < count_below q n
unfolding count_below
count_fewer p q zero at h lt misses meets = absurd (omega (arith, lt))
count_fewer p q (suc n) at h lt misses meets = by_place (cases_lt at n) (λ low. count_fewer p q n at h low misses meets)
  where
    one : (a b : Bool) → (a ≡ true → b ≡ true) → cond a 1 0 ≤ cond b 1 0
    one true b h = let e : ◌≡◌ {A = ℕ} (cond b 1 0) 1 = ap (λ t. cond t 1 0) (h refl) in omega (arith, e)
    one false b h = omega arith

    by_place : (at < n) ⊎ (n ≤ at) → (at < n → count_below p n < count_below q n) → cond (p n) 1 0 + count_below p n < cond (q n) 1 0 + count_below q n
    by_place (inl low) fewer = let less = fewer low in let most = one (p n) (q n) (h n) in omega (arith, less, most)
    by_place (inr not_low) fewer =
        let last : at ≡ n = omega (arith, lt, not_low) in
        let none : ◌≡◌ {A = ℕ} (cond (p n) 1 0) 0 = ap (λ t. cond t 1 0) (ap p (sym last) ∙ misses) in
        let here : ◌≡◌ {A = ℕ} (cond (q n) 1 0) 1 = ap (λ t. cond t 1 0) (ap q (sym last) ∙ meets) in
        let rest = count_less p q n h in
        omega (arith, none, here, rest)

module _ (hosts : HostsHeld) (moment : ℕ) (old new : List (Slot Course)) (each : (row : ℕ) → Became (EndsBy hosts moment) (part_in old row) (part_in new row)) where
  run_then : (o n : Option Course) → Became (EndsBy hosts moment) o n → option_and_then (λ course. course.run) n ≡ run_by moment (option_and_then (λ course. course.run) o)
  run_then None None b = refl
  run_then None (Some n) b = absurd b
  run_then (Some course) None b = absurd b
  run_then (Some course) (Some n) b = b.run

  has_become : (row : ℕ) (run : Run) → run_in new row ≡ Some run → (was : Run) × (run_in old row ≡ Some was) × HasBecome moment was run
  has_become row run here = from (run_in old row) refl (sym (run_then (part_in old row) (part_in new row) (each row)) ∙ here)
    where
      from : (o : Option Run) → run_in old row ≡ o → run_by moment o ≡ Some run → (was : Run) × (run_in old row ≡ Some was) × HasBecome moment was run
      from None e is = absurd (cc)
      from (Some was) e is = (was, e, become moment was run is)

  pub ended_then : (last : ℕ) → HaveEndedBy old last → HaveEndedBy new (max last moment)
  ended_then last before row run here over = from (has_become row run here)
    where
      from : (was : Run) × (run_in old row ≡ Some was) × HasBecome moment was run → end_at run ≤ max last moment
      from (was, e, ended same by) = subst (λ (r : Run). end_at r ≤ max last moment) (sym same) (omega (arith, by))
      from (was, e, stayed same later) =
          let by : end_at was ≤ last = before row was e (ap (λ (r : Run). r.runs) (sym same) ∙ over) in
          subst (λ (r : Run). end_at r ≤ max last moment) (sym same) (omega (arith, by))

  pub askable_then : AreAskable new moment
  askable_then row run here runs = from (has_become row run here)
    where
      from : (was : Run) × (run_in old row ≡ Some was) × HasBecome moment was run → moment < end_at run
      from (was, e, ended same by) = absurd (true≢false (sym runs ∙ ap (λ (r : Run). r.runs) same))
      from (was, e, stayed same later) = subst (λ (r : Run). moment < end_at r) (sym same) (later (ap (λ (r : Run). r.runs) (sym same) ∙ runs))

  pub timely_then : (m : ℕ) → AreAskable old m → AreAskable new m
  timely_then m asked row run here runs = from (has_become row run here)
    where
      from : (was : Run) × (run_in old row ≡ Some was) × HasBecome moment was run → m < end_at run
      from (was, e, ended same by) = absurd (true≢false (sym runs ∙ ap (λ (r : Run). r.runs) same))
      from (was, e, stayed same later) = subst (λ (r : Run). m < end_at r) (sym same) (asked row was e (ap (λ (r : Run). r.runs) (sym same) ∙ runs))

  -- no report that runs should have ended by the later one of two moments, and so by neither
  pub askable_earlier : (last at : ℕ) → AreAskable old (max last at) → AreAskable old at
  askable_earlier last at asked row run here runs = let later = asked row run here runs in omega (arith, later)

  pub askable_both : (last at now : ℕ) → now ≡ max last moment → AreAskable old (max last at) → AreAskable new (max now at)
  askable_both last at now is asked row run here runs =
      let one = timely_then (max last at) asked row run here runs in
      let other = askable_then row run here runs in
      omega (arith, is, one, other)

  -- what is left of the ends that fall due
  end_then : (row : ℕ) → end_in new row ≡ end_later moment (end_in old row)
  end_then row = ap (option_and_then end_ahead) (run_then (part_in old row) (part_in new row) (each row)) ∙ end_of_run moment (run_in old row)

  pub due_then : (due : Due) → IsEnd (end_in new) due ↔ (IsEnd (end_in old) due × (moment < due.moment))
  due_then due = (there, back)
    where
      there : IsEnd (end_in new) due → IsEnd (end_in old) due × (moment < due.moment)
      there is =
          let (was, later) = later_end moment due.moment (end_in old due.number) (sym (end_then due.number) ∙ is.1) in
          ((is.0, was), later)

      back : IsEnd (end_in old) due × (moment < due.moment) → IsEnd (end_in new) due
      back (is, later) = (is.0, end_then due.number ∙ ap (end_later moment) is.1 ∙ still_later moment due.moment later)

  fewer_ends : (latest row : ℕ) → ends_by latest (end_in new row) ≡ true → ends_by latest (end_in old row) ≡ true
  fewer_ends latest row e = still_ends moment latest (end_in old row) (sym (ap (ends_by latest) (end_then row)) ∙ e)

  pub no_more_then : (latest : ℕ) → count_below (λ row. ends_by latest (end_in new row)) 65536 ≤ count_below (λ row. ends_by latest (end_in old row)) 65536
  no_more_then latest = count_less (λ row. ends_by latest (end_in new row)) (λ row. ends_by latest (end_in old row)) 65536 (fewer_ends latest)

  pub fewer_then : AreNumbered old → (due : Due) (latest : ℕ) → IsEnd (end_in old) due → due.moment ≤ moment → due.moment ≤ latest
      → count_below (λ row. ends_by latest (end_in new row)) 65536 < count_below (λ row. ends_by latest (end_in old row)) 65536
  fewer_then numbered due latest is by within =
      count_fewer (λ row. ends_by latest (end_in new row)) (λ row. ends_by latest (end_in old row)) 65536 due.number (fewer_ends latest) (fits (part_in old due.number) refl is.1)
      (ap (ends_by latest) (end_then due.number ∙ ap (end_later moment) is.1) ∙ ended_not moment latest due.moment by)
      (ap (ends_by latest) is.1 ∙ ends_within latest due.moment within)
    where
      fits : (o : Option Course) → part_in old due.number ≡ o → option_and_then end_ahead (option_and_then (λ course. course.run) o) ≡ Some due.moment → due.number < 65536
      fits None here e = absurd (cc)
      fits (Some course) here e = let high = numbered due.number (ap is_some here) in omega (arith, high)

  pub of_valid_then : (rows : List (Row ControlColumns)) → IsOfValid old rows → IsOfValid new rows
  of_valid_then rows of_valid row = still_has (EndsBy hosts moment) (part_in old row) (part_in new row) (each row) ∙ of_valid row

  pub kept_then : (settings : Counting) (journal : Journal) → IsMeasured settings journal → DoHostsStand hosts settings journal → AreAskable old (last_moment journal) → (row : ℕ)
      → IsKept top_control IsCourse settings journal row (part_in old row) → IsKept top_control IsCourse settings journal row (part_in new row)
  kept_then settings journal measured stand asked row = from (part_in old row) (part_in new row) (each row) (asked row)
    where
      from : (o n : Option Course) → Became (EndsBy hosts moment) o n
          → ((run : Run) → option_and_then (λ course. course.run) o ≡ Some run → run.runs ≡ true → last_moment journal < end_at run)
          → IsKept top_control IsCourse settings journal row o → IsKept top_control IsCourse settings journal row n
      from None None b timely is = is
      from None (Some n) b timely is = absurd b
      from (Some course) None b timely is = absurd b
      from (Some course) (Some n) b timely is = (is.0, b.course settings journal row measured stand timely is.1)
