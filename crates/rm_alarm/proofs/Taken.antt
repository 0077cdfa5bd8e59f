-- The rows of which one took a sample, and those of which one is gone.
use Rattle.std.proofs.Common.{◌≡◌, ℕ, List, [], ◌∷◌, Bool, true, false, cond, Option, Some, None, refl, sym, ap, subst, ◌∙◌, nat_eq, option_map, rules}
use Rattle.std.specs.Prelude.{ℤ}
use Rattle.std.specs.Option.{option_and_then}
use Rattle.std.specs.Str.{bytes_eq}
use borrow.Author.Tests.{eqb-true}
use Rattle.rm_val.specs.Spellable.{IsSpellable}
use Rattle.rm_model.specs.Counting.{Counting}
use Rattle.rm_model.specs.Journal.{Act, Journal, samples}
use Rattle.rm_model.specs.ControlRows.{no_rows, is_absent, next_state, set_value}
use Rattle.rm_model.specs.Alike.{HasSameColumns}
use Rattle.rm_acts.specs.Alarms.{alarm_table, alarm_state}
use Rattle.rm_model.specs.declared.row.State.TheVariants.{Absent}
use Rattle.rm_model.specs.declared.row.Ask.TheVariants.{Nothing, Destroy}
use Rattle.rm_acts.specs.declared.sampled.Sampled.{Sampled}
use Rattle.rm_status.specs.declared.row.Row.{Row}
use Rattle.rm_status.specs.Rows.{row_in, state_seen, columns_seen, state_in, columns_in, with_columns}
use Rattle.rm_status.specs.RowsAfter.{AreRowsAfter}
use Rattle.rm_acts.proofs.DueLaws.{same_number, state_of_others}
use Rattle.rm_alarm.specs.declared.course.Course.{Course}
use Rattle.rm_alarm.specs.declared.row.AlarmRow.{AlarmRow}
use Rattle.rm_alarm.specs.Rows.{set_to, variable_kept}
use Rattle.rm_alarm.specs.Spelled.{AreSpelled}
use Rattle.rm_alarm.specs.Taking.{Took, with_course, HasTaken}
use Rattle.rm_alarm.specs.Standing.{AreKept}
use Rattle.rm_status.proofs.RowFacts.{written, with_w}
use Rattle.rm_alarm.proofs.RowFacts.{state_is}
use Rattle.rm_alarm.proofs.Samples.{Based, kept_other, based_other, valid_one}

in_some : {A : Type 0} (x y : A) → Some x ≡ Some y → x ≡ y
in_some x y e = cc

itself : (i : ℕ) → nat_eq i i ≡ true
itself i = search rules

pub taken_rows : (rows : List (Row AlarmRow)) (index moment : ℕ) (number : ℤ) (result : Sampled) (old new : AlarmRow) → columns_in rows index ≡ Some old → new ≡ record old { course = new.course }
    → ((course : Course) → old.course ≡ Some course → (after : Course) × (new.course ≡ Some after) × Took old course moment number after result)
    → HasTaken rows (with_columns rows index new) index moment number result
taken_rows rows index moment number result old new is leaves takes = record {
  others = λ i other. written rows index i new ∙ ap (λ b. cond b (option_map (with_w new) (row_in rows i)) (row_in rows i)) other;
  itself = λ row course here has.
      let same : row.columns ≡ old = in_some row.columns old (sym (ap columns_seen here) ∙ is) in
      let got = takes course (ap (λ c. c.course) (sym same) ∙ has) in
      let columns : new ≡ record row.columns { course = Some got.0 } = leaves ∙ ap (λ (c : AlarmRow). record c { course = new.course }) (sym same) ∙ ap (λ (k : Option Course). record row.columns { course = k }) got.1 in (
        got.0,
        written rows index index new ∙ ap (λ b. cond b (option_map (with_w new) (row_in rows index)) (row_in rows index)) (itself index) ∙ ap (option_map (with_w new)) here
            ∙ ap Some (λ d. record { index = row.index; state = row.state; columns = columns d }),
        subst (λ (c : AlarmRow). Took c course moment number got.0 result) (sym same) got.2,
      );
}

-- an alarm of which a sample is due
pub record Due (rows : List (Row AlarmRow)) (index moment : ℕ) : Type 0 where
  pub row : Row AlarmRow
  pub course : Course
  pub here : row_in rows index ≡ Some row
  pub has : row.columns.course ≡ Some course
  pub now : course.due ≡ moment

pub due_row : (rows : List (Row AlarmRow)) (index moment : ℕ) → option_and_then (λ (row : Row AlarmRow). option_map (λ course. course.due) row.columns.course) (row_in rows index) ≡ Some moment → Due rows index moment
due_row rows index moment due = by_row (row_in rows index) refl due
  where
    by_course : (row : Row AlarmRow) → row_in rows index ≡ Some row → (k : Option Course) → row.columns.course ≡ k → option_map (λ course. course.due) k ≡ Some moment → Due rows index moment
    by_course row here None has e = absurd (cc)
    by_course row here (Some course) has e = record { row = row; course = course; here = here; has = has; now = in_some course.due moment e }

    by_row : (o : Option (Row AlarmRow)) → row_in rows index ≡ o → option_and_then (λ (row : Row AlarmRow). option_map (λ course. course.due) row.columns.course) o ≡ Some moment → Due rows index moment
    by_row None here e = absurd (cc)
    by_row (Some row) here e = by_course row here row.columns.course refl e

-- what was spelled stays so
pub spelled_taken : (rows new : List (Row AlarmRow)) (index moment : ℕ) (number : ℤ) (result : Sampled) → Due rows index moment → HasTaken rows new index moment number result → AreSpelled rows → AreSpelled new
spelled_taken rows new index moment number result due taken spelled i r is_r =
    elim (nat_eq index i) as (λ t. nat_eq index i ≡ t → IsSpellable (variable_kept r.columns)) [
      | true ↦ λ e.
          let got = taken.itself due.row due.course due.here due.has in
          let same : with_course due.row got.0 ≡ r = in_some (with_course due.row got.0) r (sym got.1 ∙ ap (row_in new) (eqb-true index i e) ∙ is_r) in
          subst (λ (x : Row AlarmRow). IsSpellable (variable_kept x.columns)) same (spelled index due.row due.here)
      | false ↦ λ e. spelled i r (sym (taken.others i e) ∙ is_r)
    ] refl

-- rows without the one with an index
module _ (rows new : List (Row AlarmRow)) (index : ℕ) (lacks : (i : ℕ) → row_in new i ≡ cond (nat_eq index i) None (row_in rows i)) where
  was_there : (i : ℕ) (r : Row AlarmRow) → row_in new i ≡ Some r → (nat_eq index i ≡ false) × (row_in rows i ≡ Some r)
  was_there i r is_r = by_test (nat_eq index i) refl (sym (lacks i) ∙ is_r)
    where
      by_test : (t : Bool) → nat_eq index i ≡ t → cond t None (row_in rows i) ≡ Some r → (nat_eq index i ≡ false) × (row_in rows i ≡ Some r)
      by_test true e h = absurd (cc)
      by_test false e h = (e, h)

  pub spelled_gone : AreSpelled rows → AreSpelled new
  spelled_gone spelled i r is_r = spelled i r (was_there i r is_r).1

  module _ (settings : Counting) (journal : Journal) (moment : ℕ) (is : AreRowsAfter alarm_table no_rows set_to rows journal) where
    abbrev gone : Act
    gone = samples moment index None

    new_state : (i : ℕ) → alarm_state (gone ∷ journal) i ≡ next_state (cond (nat_eq index i) Destroy Nothing) (alarm_state journal i)
    new_state i = ap (λ b. next_state (cond b Destroy Nothing) (alarm_state journal i)) (same_number i index)

    states : (i : ℕ) → state_in new i ≡ alarm_state (gone ∷ journal) i
    states i =
        elim (nat_eq index i) as (λ t. nat_eq index i ≡ t → state_in new i ≡ next_state (cond t Destroy Nothing) (alarm_state journal i)) [
          | true ↦ λ e. ap state_seen (lacks i ∙ ap (λ b. cond b None (row_in rows i)) e)
          | false ↦ λ e. ap state_seen (lacks i ∙ ap (λ b. cond b None (row_in rows i)) e) ∙ is.alike.states i
        ] refl
        ∙ sym (new_state i)

    columns : (i : ℕ) → is_absent (state_in new i) ≡ false → HasSameColumns alarm_table (λ n. option_and_then (λ c. set_to c n) (columns_in new i)) (set_value alarm_table no_rows journal (i ∷ []))
    columns i there =
        elim (nat_eq index i) as (λ t. nat_eq index i ≡ t → HasSameColumns alarm_table (λ n. option_and_then (λ c. set_to c n) (columns_in new i)) (set_value alarm_table no_rows journal (i ∷ []))) [
          | true ↦ λ e. absurd (let no : true ≡ false = sym (ap (λ o. is_absent (state_seen o)) (lacks i ∙ ap (λ b. cond b None (row_in rows i)) e)) ∙ there in cc)
          | false ↦ λ e.
              let same : row_in new i ≡ row_in rows i = lacks i ∙ ap (λ b. cond b None (row_in rows i)) e in
              subst (λ (o : Option (Row AlarmRow)). HasSameColumns alarm_table (λ n. option_and_then (λ c. set_to c n) (columns_seen o)) (set_value alarm_table no_rows journal (i ∷ []))) (sym same)
              (is.alike.columns i (ap (λ o. is_absent (state_seen o)) (sym same) ∙ there))
        ] refl

    absent_stays : (b : Bool) → next_state (cond b Destroy Nothing) Absent ≡ Absent
    absent_stays true = refl
    absent_stays false = refl

    pub rows_gone : AreRowsAfter alarm_table no_rows set_to new (gone ∷ journal)
    rows_gone = record {
      alike = record {
        states = states;
        columns = columns;
      };
      others = λ l other. ap (next_state (cond (bytes_eq l (index ∷ [])) Destroy Nothing)) (is.others l other) ∙ absent_stays (bytes_eq l (index ∷ []));
    }

    pub kept_gone : AreKept rows settings journal → AreKept new settings (gone ∷ journal)
    kept_gone kept i r is_r =
        let was = was_there i r is_r in
        kept_other settings journal gone i (state_of_others journal moment index i was.0 None) refl refl (λ acts. refl) r.state r.columns r.columns.course (state_is rows journal is i r was.1) (kept i r was.1)

    pub based_gone : AreKept rows settings journal → Based rows settings journal → Based new settings (gone ∷ journal)
    based_gone kept based i r course is_r has =
        let was = was_there i r is_r in
        let one = valid_one settings journal i r.state r.columns r.columns.course course has (kept i r was.1) in
        based_other settings journal gone i (state_of_others journal moment index i was.0 None) refl refl (λ acts. refl) course (sym (state_is rows journal is i r was.1) ∙ one.0) (based i r course was.1 has)
