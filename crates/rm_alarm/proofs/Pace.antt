-- That alarms which are valid have an interval, after each act, and that each sample leaves fewer.
use Rattle.std.proofs.Common.{◌≡◌, ℕ, ◌+◌, ◌-◌, ◌*◌, ◌<◌, ◌≤◌, List, [], ◌∷◌, length, Bool, true, false, cond, ◌&&◌, Option, Some, None, refl, sym, ap, subst, ◌∙◌, nat_eq, nat_le, option_map, arith}
use Rattle.std.specs.Prelude.{ℤ, pos, nat_abs, unwrap_or, is_some}
use Rattle.std.specs.Option.{option_or, option_and_then}
use Rattle.std.proofs.lemmas.Bool.Decides.{nat_tests}
use borrow.Author.Tests.{eqb-true}
use Rattle.rm_model.specs.Indexing.{one_within}
use Rattle.rm_val.specs.Val.{Val, int}
use Rattle.rm_model.specs.Journal.{value_given}
use Rattle.rm_model.specs.ControlRows.{cell_name, set_ask, next_state, is_absent, is_valid}
use Rattle.rm_model.specs.Judgement.{Bindings, first_pass, second_pass, is_ready_with}
use Rattle.rm_acts.specs.Alarms.{alarm_entry, alarm_table, number_of}
use Rattle.rm_model.specs.declared.row.Ask.{Ask}
use Rattle.rm_model.specs.declared.row.State.{State}
use Rattle.rm_model.specs.declared.row.State.TheVariants.{Absent, UnderCreation, Valid}
use Rattle.rm_acts.specs.declared.sampled.Sampled.{Sampled}
use Rattle.rm_status.specs.declared.row.Row.{Row}
use Rattle.rm_status.specs.Rows.{row_in, rows_before, state_seen, columns_seen, AreControlRows}
use Rattle.rm_status.specs.Change.{changed_row}
use Rattle.rm_status.specs.Commit.{put_all, row_after}
use Rattle.rm_status.proofs.Puts.{all_fine, set_in_all}
use Rattle.rm_status.proofs.RowsAfterLemmas.{was_there}
use Rattle.rm_alarm.specs.declared.course.Course.{Course}
use Rattle.rm_alarm.specs.declared.row.AlarmRow.{AlarmRow}
use Rattle.rm_alarm.specs.Due.{due_at}
use Rattle.rm_alarm.specs.Left.{sum_below, span_to}
use Rattle.rm_alarm.specs.Paced.{is_paced, ArePaced}
use Rattle.rm_alarm.specs.Rows.{set_to, with_column, blank_row, new_row, settled, interval_kept}
use Rattle.rm_alarm.specs.RowForm.{alarm_rows}
use Rattle.rm_alarm.specs.Taking.{with_course, HasTaken}
use Rattle.rm_alarm.proofs.AfterSets.{there_is}
use Rattle.rm_alarm.proofs.Intervals.{given_seconds}
use Rattle.rm_alarm.proofs.Sums.{sum_less}
use Rattle.rm_status.proofs.Bound.{ready_made, not_made_valid}
use Rattle.rm_status.proofs.RowFacts.{found_there}
use Rattle.rm_alarm.proofs.Taken.{Due}

in_some : {A : Type 0} (x y : A) → Some x ≡ Some y → x ≡ y
in_some x y e = cc

both_true : (a b : Bool) → (a && b) ≡ true → (a ≡ true) × (b ≡ true)
both_true true b h = (refl, h)
both_true false b h = absurd (cc)

no_first : {A : Type 0} (o p : Option A) → option_or o p ≡ None → o ≡ None
no_first None p h = refl
no_first (Some x) p h = cc

-- an alarm that keeps something of its samples has an interval
pub has_interval : (s : State) (o : Option ℤ) (course : Course) → is_paced s o (Some course) ≡ true → 1 ≤ nat_abs (unwrap_or o (pos 0))
has_interval s (Some z) course is = grind (arith, nat_tests)
has_interval Valid None course is = absurd (cc)
has_interval UnderCreation None course is = absurd (cc)
has_interval Absent None course is = absurd (cc)

other_course : (s : State) (o : Option ℤ) (course other : Course) → is_paced s o (Some course) ≡ is_paced s o (Some other)
other_course s (Some z) course other = refl
other_course Valid None course other = refl
other_course UnderCreation None course other = refl
other_course Absent None course other = refl

-- a change that leaves intervals and what is kept of samples
pub paced_changed : (change : ℕ → State → AlarmRow → AlarmRow) → ((index : ℕ) (state : State) (row : AlarmRow) → (change index state row).interval ≡ row.interval) → ((index : ℕ) (state : State) (row : AlarmRow) → (change index state row).course ≡ row.course)
    → (rows new : List (Row AlarmRow)) → ((i : ℕ) → row_in new i ≡ option_map (changed_row change) (row_in rows i)) → ArePaced rows → ArePaced new
paced_changed change intervals courses rows new changed paced i row here =
    let got = was_there (changed_row change) (row_in rows i) row (sym (changed i) ∙ here) in
    let old : Row AlarmRow = got.0 in
    let then_ : AlarmRow = change old.index old.state old.columns in
    subst (λ (r : Row AlarmRow). is_paced r.state r.columns.interval r.columns.course ≡ true) got.2
    (ap (λ o. is_paced old.state o then_.course) (intervals old.index old.state old.columns) ∙ ap (is_paced old.state old.columns.interval) (courses old.index old.state old.columns) ∙ paced i old got.1)

-- a sample
pub paced_taken : (rows new : List (Row AlarmRow)) (index moment : ℕ) (number : ℤ) (result : Sampled) → Due rows index moment → HasTaken rows new index moment number result → ArePaced rows → ArePaced new
paced_taken rows new index moment number result due taken paced i r is_r =
    elim (nat_eq index i) as (λ t. nat_eq index i ≡ t → is_paced r.state r.columns.interval r.columns.course ≡ true) [
      | true ↦ λ e.
          let got = taken.itself due.row due.course due.here due.has in
          let same : with_course due.row got.0 ≡ r = in_some (with_course due.row got.0) r (sym got.1 ∙ ap (row_in new) (eqb-true index i e) ∙ is_r) in
          subst (λ (x : Row AlarmRow). is_paced x.state x.columns.interval x.columns.course ≡ true) same
          (other_course due.row.state due.row.columns.interval got.0 due.course ∙ ap (is_paced due.row.state due.row.columns.interval) (sym due.has) ∙ paced index due.row due.here)
      | false ↦ λ e. paced i r (sym (taken.others i e) ∙ is_r)
    ] refl

pub paced_gone : (rows new : List (Row AlarmRow)) (index : ℕ) → ((i : ℕ) → row_in new i ≡ cond (nat_eq index i) None (row_in rows i)) → ArePaced rows → ArePaced new
paced_gone rows new index lacks paced i r is_r = by_test (nat_eq index i) (sym (lacks i) ∙ is_r)
  where
    by_test : (t : Bool) → cond t None (row_in rows i) ≡ Some r → is_paced r.state r.columns.interval r.columns.course ≡ true
    by_test true h = absurd (cc)
    by_test false h = paced i r h

-- A Set with which nothing is wrong.

interval_by : (given : Option Val) (new old : Option ℤ) → option_map int new ≡ option_or given (option_map int old) → ((v : Val) → given ≡ Some v → 1 ≤ nat_abs (number_of v))
    → ((z : ℤ) → old ≡ Some z → nat_le 1 (nat_abs z) ≡ true) → (z : ℤ) → new ≡ Some z → nat_le 1 (nat_abs z) ≡ true
interval_by None new None e seconds was z is = absurd (let none : option_map int new ≡ None = e in let some : option_map int new ≡ Some (int z) = ap (option_map int) is in cc)
interval_by None new (Some y) e seconds was z is = was z (let some : option_map int new ≡ Some (int z) = ap (option_map int) is in let same : y ≡ z = cc in ap Some same)
interval_by (Some v) new old e seconds was z is =
    let some : option_map int new ≡ Some (int z) = ap (option_map int) is in
    let same : v ≡ int z = cc in
    let one : 1 ≤ nat_abs z = subst (λ (v : Val). 1 ≤ nat_abs (number_of v)) same (seconds v refl) in
    grind (arith, nat_tests)

settled_paced : (now : ℕ) (s : State) (row : AlarmRow) → ((z : ℤ) → row.interval ≡ Some z → nat_le 1 (nat_abs z) ≡ true) → (s ≡ Valid → row.interval ≡ None → ⊥) → is_paced s (settled now s row).interval (settled now s row).course ≡ true
settled_paced now s row range needed = by_interval s row.interval refl needed
  where
    by_interval : (s : State) (o : Option ℤ) → row.interval ≡ o → (s ≡ Valid → row.interval ≡ None → ⊥) → is_paced s (settled now s row).interval (settled now s row).course ≡ true
    by_interval Valid (Some z) e needed = rw e (range z e)
    by_interval Valid None e needed = absurd (needed refl e)
    by_interval UnderCreation (Some z) e needed = rw e (range z e)
    by_interval UnderCreation None e needed = rw e refl
    by_interval Absent (Some z) e needed = rw e (range z e)
    by_interval Absent None e needed = rw e refl

module _ (now : ℕ) (bs : Bindings) (alone : (k : ℕ) → k < length bs → first_pass alarm_table bs k ≡ None)
    (rows middle new : List (Row AlarmRow)) (together : (k : ℕ) → k < length bs → second_pass alarm_table (rows_before alarm_table set_to rows) bs k ≡ None)
    (after : (i : ℕ) → row_in middle i ≡ row_after alarm_table with_column new_row bs i (row_in rows i))
    (settles : (i : ℕ) → row_in new i ≡ option_map (changed_row (λ index state row. settled now state row)) (row_in middle i))
    (paced : ArePaced rows) where
  module _ (i : ℕ) where
    abbrev given : ℕ → Option Val
    given n = value_given bs (cell_name alarm_entry n (i ∷ []))

    abbrev ask : Ask
    ask = set_ask alarm_table bs (i ∷ [])

    -- an alarm that is ready has an interval
    is_set : state_seen (row_in rows i) ≡ UnderCreation → is_ready_with alarm_table (rows_before alarm_table set_to rows) bs (i ∷ []) ≡ true → is_some (option_or (given 2) ((rows_before alarm_table set_to rows).set (i ∷ []) 2)) ≡ true
    is_set under is =
        ap (λ s. is_some (option_or (given 2) (cond (is_absent s) None ((rows_before alarm_table set_to rows).set (i ∷ []) 2)))) (sym under)
        ∙ (both_true _ _ (both_true _ _ is).0).0

    needs_interval : (o : Option (Row AlarmRow)) → row_in rows i ≡ o → next_state ask (state_seen o) ≡ Valid → given 2 ≡ None → (unwrap_or (columns_seen o) blank_row).interval ≡ None → ⊥
    needs_interval None e next none interval = not_made_valid (given 12) (ap is_valid next)
    needs_interval (Some r) e next none interval = by_state r.state refl
      where
        by_state : (s : State) → r.state ≡ s → ⊥
        by_state Absent is = not_made_valid (given 12) (ap (λ s. is_valid (next_state ask s)) (sym is) ∙ ap is_valid next)
        by_state Valid is =
            let no : is_paced Valid None r.columns.course ≡ true = ap (λ s. is_paced s None r.columns.course) (sym is) ∙ ap (λ o. is_paced r.state o r.columns.course) (sym interval) ∙ paced i r e in
            cc
        by_state UnderCreation is =
            let some = is_set (ap state_seen e ∙ is) (ready_made alarm_table (rows_before alarm_table set_to rows) bs together i (ap state_seen e ∙ is) (ap (λ s. is_valid (next_state ask s)) (sym is) ∙ ap is_valid next)) in
            let before : (rows_before alarm_table set_to rows).set (i ∷ []) 2 ≡ None = ap (λ o. option_and_then (λ c. set_to c 2) (columns_seen o)) e ∙ ap (option_map int) interval in
            let unset : option_or (given 2) ((rows_before alarm_table set_to rows).set (i ∷ []) 2) ≡ None = ap (λ g. option_or g ((rows_before alarm_table set_to rows).set (i ∷ []) 2)) none ∙ before in
            let no : false ≡ true = sym (ap is_some unset) ∙ some in
            cc

    was_in_range : (o : Option (Row AlarmRow)) → row_in rows i ≡ o → (z : ℤ) → (unwrap_or (columns_seen o) blank_row).interval ≡ Some z → nat_le 1 (nat_abs z) ≡ true
    was_in_range None e z is = absurd (cc)
    was_in_range (Some r) e z is = ap (λ o. is_paced r.state o r.columns.course) (sym is) ∙ paced i r e

    abbrev old : AlarmRow
    old = unwrap_or (columns_seen (row_in rows i)) blank_row

    abbrev put : AlarmRow
    put = put_all alarm_table with_column new_row bs i old

    set : option_map int put.interval ≡ option_or (given 2) (option_map int old.interval)
    set = set_in_all alarm_table with_column new_row set_to alarm_rows.set_with bs i 2 old refl (all_fine alarm_table bs alone)

    put_in_range : (z : ℤ) → put.interval ≡ Some z → nat_le 1 (nat_abs z) ≡ true
    put_in_range = interval_by (given 2) put.interval old.interval set (given_seconds bs alone i) (was_in_range (row_in rows i) refl)

    put_needed : next_state ask (state_seen (row_in rows i)) ≡ Valid → put.interval ≡ None → ⊥
    put_needed next none =
        let both : option_or (given 2) (option_map int old.interval) ≡ None = sym set ∙ ap (option_map int) none in
        let ungiven : given 2 ≡ None = no_first (given 2) (option_map int old.interval) both in
        let unset : option_map int old.interval ≡ None = ap (λ g. option_or g (option_map int old.interval)) (sym ungiven) ∙ both in
        needs_interval (row_in rows i) refl next ungiven (not_set old.interval unset)
      where
        not_set : (o : Option ℤ) → option_map int o ≡ None → o ≡ None
        not_set None e = refl
        not_set (Some z) e = cc

  pub paced_set : ArePaced new
  paced_set i row here =
      let got = was_there (changed_row (λ index state row. settled now state row)) (row_in middle i) row (sym (settles i) ∙ here) in
      let made = there_is _ got.0 (sym (after i) ∙ got.1) in
      let next : State = next_state (ask i) (state_seen (row_in rows i)) in
      subst (λ (r : Row AlarmRow). is_paced r.state r.columns.interval r.columns.course ≡ true) got.2
      (subst (λ (r : Row AlarmRow). is_paced r.state (settled now r.state r.columns).interval (settled now r.state r.columns).course ≡ true) made
      (settled_paced now next (put i) (put_in_range i) (put_needed i)))

-- Each sample up to a moment leaves fewer.

module _ (rows new : List (Row AlarmRow)) (index moment latest : ℕ) (within : moment ≤ latest) (held : AreControlRows alarm_table rows) (paced : ArePaced rows) (due : Due rows index moment) where
  abbrev left : List (Row AlarmRow) → ℕ → ℕ
  left some alarm = span_to latest (due_at some alarm)

  abbrev of_course : Option Course → ℕ
  of_course kept = span_to latest (option_map (λ course. course.due) kept)

  abbrev of_row : Option (Row AlarmRow) → ℕ
  of_row row = span_to latest (option_and_then (λ (r : Row AlarmRow). option_map (λ course. course.due) r.columns.course) row)

  was : left rows index ≡ latest + 1 - moment
  was = ap of_row due.here ∙ ap of_course due.has ∙ ap (λ d. latest + 1 - d) due.now

  fewer : ((i : ℕ) → nat_eq index i ≡ false → row_in new i ≡ row_in rows i) → left new index < left rows index → sum_below (left new) 65536 < sum_below (left rows) 65536
  fewer others less =
      let fits = one_within index (found_there alarm_table rows index due.row held.1 due.here).0 in
      sum_less (left new) (left rows) index 65536 fits.1 (λ i other. ap of_row (others i other)) less

  pub fewer_taken : (number : ℤ) (result : Sampled) → HasTaken rows new index moment number result → sum_below (left new) 65536 < sum_below (left rows) 65536
  fewer_taken number result taken =
      let got = taken.itself due.row due.course due.here due.has in
      let is : left new index ≡ latest + 1 - (moment + 1000 * interval_kept due.row.columns) = ap of_row got.1 ∙ ap (λ d. latest + 1 - d) got.2.due in
      let seconds : 1 ≤ interval_kept due.row.columns = has_interval due.row.state due.row.columns.interval due.course (ap (is_paced due.row.state due.row.columns.interval) (sym due.has) ∙ paced index due.row due.here) in
      let before = was in
      fewer taken.others (omega arith)

  pub fewer_gone : ((i : ℕ) → row_in new i ≡ cond (nat_eq index i) None (row_in rows i)) → sum_below (left new) 65536 < sum_below (left rows) 65536
  fewer_gone lacks =
      let is : left new index ≡ 0 = ap of_row (lacks index ∙ ap (λ t. cond t None (row_in rows index)) (itself index)) in
      let before = was in
      fewer (λ i other. lacks i ∙ ap (λ t. cond t None (row_in rows i)) other) (omega arith)
    where
      itself : (i : ℕ) → nat_eq i i ≡ true
      itself i = grind (arith, nat_tests)
