-- The journal of a run stays orderly with each act.
use Rattle.std.proofs.Common.{◌≡◌, ◌⊎◌, inl, inr, ℕ, ◌+◌, ◌*◌, ◌<◌, ◌≤◌, [], ◌∷◌, length, Bool, true, false, cond, ◌&&◌, Option, Some, None, refl, sym, ap, subst, ◌∙◌, nat_eq, arith}
use Rattle.std.specs.Prelude.{ℤ, nat_abs, is_some, unwrap_or}
use Rattle.std.specs.Option.{option_or}
use Rattle.std.specs.Str.{bytes_eq}
use Rattle.std.proofs.lemmas.Option.{same_Some}
use borrow.Author.Tests.{eqb-true}
use Rattle.rm_val.specs.Val.{Val}
use Rattle.rm_model.specs.Journal.{Act, Frame, Journal, passes, assigns, samples, value_given}
use Rattle.rm_model.specs.ControlTable.{default_of}
use Rattle.rm_model.specs.ControlRows.{no_rows, cell_name, value_ask, set_ask, next_state, is_absent, is_valid, stays_valid}
use Rattle.rm_model.specs.Judgement.{Bindings, first_pass, second_pass, is_ready_with, rows_after}
use Rattle.rm_model.specs.Accepted.{assignments_of}
use Rattle.rm_acts.specs.Alarms.{alarm_entry, alarm_table, alarm_state, interval_of, due_of, IsNextDue, number_of}
use Rattle.rm_model.specs.declared.row.StatusKind.TheVariants.{EntryStatus}
use Rattle.rm_model.specs.declared.row.Ask.{Ask}
use Rattle.rm_model.specs.declared.row.Ask.TheVariants.{Nothing, Destroy}
use Rattle.rm_model.specs.declared.row.State.{State}
use Rattle.rm_model.specs.declared.row.State.TheVariants.{Absent, UnderCreation, Valid}
use Rattle.rm_model.proofs.Accepted.{given_of}
use Rattle.rm_status.proofs.Bound.{fixed_column, ready_made, not_made_valid}
use Rattle.rm_alarm.proofs.Intervals.{given_seconds}
use Rattle.rm_agent.specs.Orderly.{NoneIsDue, interval_set, IsOrderly}
use Rattle.rm_acts.proofs.DueLaws.{valid_if_due, same_due, due_left, due_of_others, due_gone, due_next, due_begun}

none_some : {A : Type 0} (o : Option A) (x : A) → o ≡ None → o ≡ Some x → ⊥
none_some o x e f = cc

both_true : (a b : Bool) → (a && b) ≡ true → (a ≡ true) × (b ≡ true)
both_true true b h = (refl, h)
both_true false b h = absurd (cc)

-- a valid alarm has an interval
interval_by : (o : Option Val) → ((value : Val) → o ≡ Some value → 1 ≤ nat_abs (number_of value)) → is_some o ≡ true → 1 ≤ nat_abs (number_of (unwrap_or o (default_of alarm_table 2)))
interval_by None each some = absurd (cc)
interval_by (Some value) each some = each value refl

pub has_seconds : (journal : Journal) (i : ℕ) → IsOrderly journal → is_valid (alarm_state journal i) ≡ true → 1 ≤ interval_of journal i
has_seconds journal i orderly valid = interval_by (interval_set journal i) (orderly.interval i) (orderly.has_interval i valid)

pub orderly_begins : IsOrderly []
orderly_begins = record {
  timely = λ alarm moment is. absurd (none_some (due_of [] alarm) moment refl is);
  interval = λ alarm value is. absurd (none_some (interval_set [] alarm) value refl is);
  has_interval = λ alarm valid. absurd (cc);
}

-- a frame at a moment up to which no sample is due
pub orderly_passes : (journal : Journal) (frame : Frame) → NoneIsDue frame.moment journal → IsOrderly journal → IsOrderly (passes frame ∷ journal)
orderly_passes journal frame none orderly = record {
  timely = λ alarm moment is.
      let later = none alarm moment (sym (due_left journal (passes frame) alarm refl refl (λ acts. refl)) ∙ is) in
      let le : frame.moment ≤ moment = omega arith in le;
  interval = orderly.interval;
  has_interval = orderly.has_interval;
}

-- the sample that is taken next
module _ (journal : Journal) (next : ℕ × ℕ) (due : IsNextDue (due_of journal) (Some next)) (orderly : IsOrderly journal) where
  not_before : (i moment : ℕ) → due_of journal i ≡ Some moment → next.0 ≤ moment
  not_before i moment is = by_part (due.1 i moment is)
    where
      by_part : (next.0 < moment) ⊎ ((next.0 ≡ moment) × (next.1 ≤ i)) → next.0 ≤ moment
      by_part (inl h) = omega arith
      by_part (inr h) = let e = h.0 in omega arith

  after_own : (reading : Option ℤ) (moment : ℕ) → due_of (samples next.0 next.1 reading ∷ journal) next.1 ≡ Some moment → next.0 ≤ moment
  after_own None moment is = absurd (none_some _ moment (due_gone journal next.0 next.1 due.0) is)
  after_own (Some number) moment is =
      let same : next.0 + 1000 * interval_of journal next.1 ≡ moment = same_Some _ _ (sym (due_next journal next.0 next.1 due.0 number) ∙ is) in
      omega arith

  valid_before : (b : Bool) (s : State) → is_valid (next_state (cond b Destroy Nothing) s) ≡ true → is_valid s ≡ true
  valid_before true s h = absurd (cc)
  valid_before false s h = h

  was_valid : (reading : Option ℤ) (i : ℕ) → is_valid (alarm_state (samples next.0 next.1 reading ∷ journal) i) ≡ true → is_valid (alarm_state journal i) ≡ true
  was_valid None i h = valid_before (true && bytes_eq (i ∷ []) (next.1 ∷ [])) (alarm_state journal i) h
  was_valid (Some number) i h = h

  pub orderly_samples : (reading : Option ℤ) → IsOrderly (samples next.0 next.1 reading ∷ journal)
  orderly_samples reading = record {
    timely = λ i moment is. elim (nat_eq next.1 i) as (λ t. nat_eq next.1 i ≡ t → next.0 ≤ moment) [
      | true ↦ λ e. after_own reading moment (subst (λ (k : ℕ). due_of (samples next.0 next.1 reading ∷ journal) k ≡ Some moment) (sym (eqb-true next.1 i e)) is)
      | false ↦ λ e. not_before i moment (sym (due_of_others journal next.0 next.1 i e reading) ∙ is)
    ] refl;
    interval = orderly.interval;
    has_interval = λ i valid. orderly.has_interval i (was_valid reading i valid);
  }

-- A Set with which nothing is wrong.

module _ (journal : Journal) (now : ℕ) (bs : Bindings) (alone : (k : ℕ) → k < length bs → first_pass alarm_table bs k ≡ None)
    (together : (k : ℕ) → k < length bs → second_pass alarm_table (rows_after alarm_table no_rows journal) bs k ≡ None) (orderly : IsOrderly journal) where
  abbrev set : Act
  set = assigns now (assignments_of bs)

  abbrev before : Rattle.rm_model.specs.ControlRows.Beginning
  before = rows_after alarm_table no_rows journal

  module _ (i : ℕ) where
    abbrev given : ℕ → Option Val
    given n = value_given bs (cell_name alarm_entry n (i ∷ []))

    abbrev ask : Ask
    ask = set_ask alarm_table bs (i ∷ [])

    abbrev state : State
    state = alarm_state journal i

    asked : alarm_state (set ∷ journal) i ≡ next_state ask state
    asked = ap (λ o. next_state (value_ask EntryStatus o) state) (given_of bs (cell_name alarm_entry 12 (i ∷ [])))

    set_now : interval_set (set ∷ journal) i ≡ option_or (given 2) (cond (is_absent state) None (interval_set journal i))
    set_now = ap (λ o. option_or o (cond (is_absent state) None (interval_set journal i))) (given_of bs (cell_name alarm_entry 2 (i ∷ [])))

    kept_or_given : (g was : Option Val) (absent : Bool) → ((v : Val) → g ≡ Some v → 1 ≤ nat_abs (number_of v)) → ((v : Val) → was ≡ Some v → 1 ≤ nat_abs (number_of v))
        → (v : Val) → option_or g (cond absent None was) ≡ Some v → 1 ≤ nat_abs (number_of v)
    kept_or_given (Some x) was absent one other v is = one v is
    kept_or_given None was true one other v is = absurd (cc)
    kept_or_given None was false one other v is = other v is

    interval_after : (v : Val) → interval_set (set ∷ journal) i ≡ Some v → 1 ≤ nat_abs (number_of v)
    interval_after v is = kept_or_given (given 2) (interval_set journal i) (is_absent state) (given_seconds bs alone i) (orderly.interval i) v (sym set_now ∙ is)

    -- it was valid and stays so
    module _ (was : state ≡ Valid) (valid : is_valid (next_state ask state) ≡ true) where
      goes : is_valid (next_state ask Valid) ≡ true
      goes = ap (λ s. is_valid (next_state ask s)) (sym was) ∙ valid

      ungiven : given 2 ≡ None
      ungiven = fixed_column alarm_table before bs together i 2 refl refl was goes

      same_set : interval_set (set ∷ journal) i ≡ interval_set journal i
      same_set = set_now ∙ ap (λ g. option_or g (cond (is_absent state) None (interval_set journal i))) ungiven ∙ ap (λ s. cond (is_absent s) None (interval_set journal i)) was

      stays : stays_valid alarm_table no_rows set journal (i ∷ []) ≡ true
      stays = ap (λ s. is_valid state && is_valid s) asked ∙ ap (λ b. is_valid state && b) valid ∙ ap (λ s. is_valid s && true) was

      due_same : due_of (set ∷ journal) i ≡ due_of journal i
      due_same = same_due journal set i stays (λ acts. refl) (ap (λ o. nat_abs (number_of (unwrap_or o (default_of alarm_table 2)))) same_set)

    -- it becomes valid
    is_set : state ≡ UnderCreation → is_ready_with alarm_table before bs (i ∷ []) ≡ true → is_some (option_or (given 2) (interval_set journal i)) ≡ true
    is_set under is = ap (λ s. is_some (option_or (given 2) (cond (is_absent s) None (interval_set journal i)))) (sym under) ∙ (both_true _ _ (both_true _ _ is).0).0

    has_after : (s : State) → state ≡ s → is_valid (next_state ask s) ≡ true → is_some (interval_set (set ∷ journal) i) ≡ true
    has_after Absent e valid = absurd (not_made_valid (given 12) valid)
    has_after UnderCreation e valid =
        ap is_some (set_now ∙ ap (λ s. option_or (given 2) (cond (is_absent s) None (interval_set journal i))) e) ∙ is_set e (ready_made alarm_table before bs together i e valid)
    has_after Valid e valid =
        ap is_some (same_set e (ap (λ s. is_valid (next_state ask s)) e ∙ valid)) ∙ orderly.has_interval i (ap is_valid e)

    timely_after : NoneIsDue now journal → (s : State) → state ≡ s → is_valid (next_state ask s) ≡ true → (moment : ℕ) → due_of (set ∷ journal) i ≡ Some moment → now ≤ moment
    timely_after none Valid e valid moment is =
        let later = none i moment (sym (due_same e (ap (λ s. is_valid (next_state ask s)) e ∙ valid)) ∙ is) in omega arith
    timely_after none Absent e valid moment is = absurd (not_made_valid (given 12) valid)
    timely_after none UnderCreation e valid moment is =
        let starts : stays_valid alarm_table no_rows set journal (i ∷ []) ≡ false = ap (λ s. is_valid s && is_valid (alarm_state (set ∷ journal) i)) e in
        let valid_now : is_valid (alarm_state (set ∷ journal) i) ≡ true = ap is_valid (asked ∙ ap (next_state ask) e) ∙ valid in
        let same : now + 1000 * interval_of (set ∷ journal) i * (0 + 1) ≡ moment = same_Some _ _ (sym (due_begun journal now (assignments_of bs) i starts valid_now) ∙ is) in
        omega arith

  pub orderly_assigns : NoneIsDue now journal → IsOrderly (set ∷ journal)
  orderly_assigns none = record {
    timely = λ i moment is. timely_after i none (alarm_state journal i) refl (sym (ap is_valid (asked i)) ∙ valid_if_due (set ∷ journal) i moment is) moment is;
    interval = interval_after;
    has_interval = λ i valid. has_after i (alarm_state journal i) refl (sym (ap is_valid (asked i)) ∙ valid);
  }
