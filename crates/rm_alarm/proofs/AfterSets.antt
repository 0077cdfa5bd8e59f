-- The alarms after a Set with which nothing is wrong.
use Rattle.std.proofs.Common.{◌≡◌, ℕ, ◌+◌, ◌*◌, List, [], ◌∷◌, length, true, false, cond, ◌&&◌, Option, Some, None, refl, sym, ap, subst, ◌∙◌, nat_eq, option_map, arith}
use Rattle.std.specs.Prelude.{pos, unwrap_or}
use Rattle.std.specs.Option.{option_or}
use Rattle.rm_val.specs.Val.{Val, name, counter}
use Rattle.rm_model.specs.Counting.{Counting}
use Rattle.rm_model.specs.Journal.{Act, Assignments, Journal, assigns, value_given}
use Rattle.rm_model.specs.ControlRows.{no_rows, cell_name, set_ask, next_state, is_absent, is_valid, stays_valid, activated}
use Rattle.rm_model.specs.Judgement.{Bindings, is_always}
use Rattle.rm_acts.specs.Alarms.{number_of, name_of, alarm_entry, alarm_table, alarm_state, alarm_column, interval_of, variable_of, is_delta, bounds_of, readings_in, readings_of, base_of, newest_or, values_of_readings, is_counted, base_number, sample_values, due_of}
use Rattle.rm_model.specs.declared.row.State.{State}
use Rattle.rm_model.specs.declared.row.State.TheVariants.{Absent, UnderCreation, Valid}
use Rattle.rm_status.specs.declared.row.Row.{Row}
use Rattle.rm_status.specs.Rows.{row_in, state_seen, columns_seen, state_in}
use Rattle.rm_status.specs.Change.{changed_row}
use Rattle.rm_status.specs.Commit.{put_all, if_there}
use Rattle.rm_status.specs.RowsAfter.{AreRowsAfter}
use Rattle.rm_status.proofs.Puts.{all_fine, set_in_all}
use Rattle.rm_status.proofs.Committed.{IsCommitted, rows_committed, changed_committed, state_committed, other_left}
use Rattle.rm_status.proofs.RowsAfterLemmas.{since_starts, was_there}
use Rattle.rm_status.proofs.RowsThen.{column_stays}
use Rattle.rm_status.proofs.Bound.{not_made_valid}
use Rattle.rm_alarm.specs.declared.course.Course.{Course}
use Rattle.rm_alarm.specs.declared.row.AlarmRow.{AlarmRow}
use Rattle.rm_alarm.specs.Kept.{Keeps, bounds_in, starting, nothing_crossed}
use Rattle.rm_alarm.specs.Rows.{set_to, with_column, blank_row, new_row, settled, course_or_start, interval_kept, variable_with}
use Rattle.rm_alarm.specs.RowForm.{alarm_rows}
use Rattle.rm_alarm.specs.Standing.{IsRunning, IsKept, AreKept, IsBased}
use Rattle.rm_status.proofs.RowFacts.{row_there}
use Rattle.rm_alarm.proofs.RowFacts.{state_is, interval_is, variable_is, bounds_is}
use Rattle.rm_acts.proofs.DueLaws.{same_due}
use Rattle.rm_alarm.proofs.Steps.{same_values, still_based, keeps_by}
use Rattle.rm_alarm.proofs.Samples.{Based, valid_one}

in_some : {A : Type 0} (x y : A) → Some x ≡ Some y → x ≡ y
in_some x y e = cc

none_some : {A : Type 0} (x : A) → ◌≡◌ {A = Option A} None (Some x) → ⊥
none_some x e = cc

pub there_is : (r m : Row AlarmRow) → if_there alarm_table with_column new_row r ≡ Some m → r ≡ m
there_is r m e =
    elim (is_absent r.state) as (λ t. cond t None (Some r) ≡ Some m → r ≡ m) [
      | true ↦ λ h. absurd (none_some m h)
      | false ↦ λ h. in_some r m h
    ] e

not_valid_one : (settings : Counting) (journal : Journal) (i : ℕ) (s : State) (row : AlarmRow) (o : Option Course) → o ≡ None → IsKept settings journal i s row o → is_valid s ≡ false
not_valid_one settings journal i Valid row (Some c) e k = absurd (none_some c (sym e))
not_valid_one settings journal i Valid row None e k = absurd k
not_valid_one settings journal i UnderCreation row o e k = refl
not_valid_one settings journal i Absent row o e k = refl

first_interval : (x : ℕ) → 1000 * x * (0 + 1) ≡ 1000 * x
first_interval x = omega arith

under_creation : (s : State) → is_absent s ≡ false → is_valid s ≡ false → s ≡ UnderCreation
under_creation Absent p q = absurd (cc)
under_creation UnderCreation p q = refl
under_creation Valid p q = absurd (cc)

-- a variable with what a Set gives to it
with_given : (given : Option Val) (var x : Option (List ℕ)) → option_map name var ≡ option_or given (option_map name x) → unwrap_or var (0 ∷ 0 ∷ []) ≡ unwrap_or (option_or (option_map name_of given) x) (0 ∷ 0 ∷ [])
with_given None None None e = refl
with_given None None (Some m) e = absurd (cc)
with_given None (Some n) None e = absurd (cc)
with_given None (Some n) (Some m) e = let same : n ≡ m = cc in same
with_given (Some v) None x e = absurd (cc)
with_given (Some v) (Some n) x e = ap name_of (in_some (name n) v e)

module _ (settings : Counting) (journal : Journal) (now : ℕ) (bs : Bindings) (values : Assignments) (rows middle new : List (Row AlarmRow))
    (committed : IsCommitted alarm_rows no_rows journal values bs rows middle)
    (settles : (i : ℕ) → row_in new i ≡ option_map (changed_row (λ index state row. settled now state row)) (row_in middle i)) (kept : AreKept rows settings journal) where
  abbrev set : Act
  set = assigns now values

  is : AreRowsAfter alarm_table no_rows set_to rows journal
  is = committed.stood

  middle_rows : AreRowsAfter alarm_table no_rows set_to middle (set ∷ journal)
  middle_rows = rows_committed alarm_rows committed now

  settled_keeps : (index : ℕ) (state : State) (row : AlarmRow) (n : ℕ) → set_to (settled now state row) n ≡ set_to row n
  settled_keeps index Valid row n = refl
  settled_keeps index UnderCreation row n = refl
  settled_keeps index Absent row n = refl

  pub rows_set : AreRowsAfter alarm_table no_rows set_to new (set ∷ journal)
  rows_set = changed_committed alarm_rows committed now (λ index state row. settled now state row) settled_keeps new settles

  module _ (i : ℕ) where
    abbrev old : AlarmRow
    old = unwrap_or (columns_seen (row_in rows i)) blank_row

    module _ (m : Row AlarmRow) (here : row_in middle i ≡ Some m) where
      made : record { index = i; state = next_state (set_ask alarm_table bs (i ∷ [])) (state_in rows i); columns = put_all alarm_table with_column new_row bs i old } ≡ m
      made = there_is _ m (sym (committed.after i) ∙ here)

      its_course : m.columns.course ≡ old.course
      its_course = other_left alarm_rows committed i m here (λ c. c.course) (λ c n v. refl)

      its_base : m.columns.base ≡ old.base
      its_base = other_left alarm_rows committed i m here (λ c. c.base) (λ c n v. refl)

      module _ (valid : m.state ≡ Valid) where
        state_now : alarm_state (set ∷ journal) i ≡ Valid
        state_now = sym (state_committed alarm_rows committed now i m here) ∙ valid

        there : is_absent m.state ≡ false
        there = ap is_absent valid

        -- it was valid before
        module _ (r : Row AlarmRow) (was : row_in rows i ≡ Some r) (state : r.state ≡ Valid) where
          state_before : alarm_state journal i ≡ Valid
          state_before = sym (state_is rows journal is i r was) ∙ state

          stays : stays_valid alarm_table no_rows set journal (i ∷ []) ≡ true
          stays = ap (λ s. is_valid (alarm_state journal i) && is_valid s) state_now ∙ ap (λ s. is_valid s && true) state_before

          goes : is_valid (next_state (set_ask alarm_table bs (i ∷ [])) Valid) ≡ true
          goes =
              ap (λ s. is_valid (next_state (set_ask alarm_table bs (i ∷ [])) s)) (sym (ap state_seen was ∙ state))
              ∙ ap (λ (x : Row AlarmRow). is_valid x.state) made ∙ ap is_valid valid

          fixed : (n : ℕ) → nat_eq n 12 ≡ false → is_always alarm_table n ≡ false → alarm_column (set ∷ journal) i n ≡ alarm_column journal i n
          fixed n other always = column_stays alarm_table no_rows set_to journal now bs values committed.gives rows committed.fine.together is i n other always (ap is_valid state_before) goes

          same_interval : interval_of (set ∷ journal) i ≡ interval_of journal i
          same_interval = ap (λ v. Rattle.std.specs.Prelude.nat_abs (number_of v)) (fixed 2 refl refl)

          same_delta : is_delta (set ∷ journal) i ≡ is_delta journal i
          same_delta = ap (λ v. Rattle.std.specs.Ordering.int_eq (number_of v) (Rattle.std.specs.Prelude.pos 2)) (fixed 4 refl refl)

          same_bounds : bounds_of (set ∷ journal) i ≡ bounds_of journal i
          same_bounds = λ d. record { startup = number_of (fixed 6 refl refl d); rising = number_of (fixed 7 refl refl d); falling = number_of (fixed 8 refl refl d) }

          same_thresholds : bounds_in r.columns.thresholds ≡ bounds_in m.columns.thresholds
          same_thresholds =
              bounds_is rows journal is i r was (ap is_absent state) ∙ sym same_bounds
              ∙ sym (bounds_is middle (set ∷ journal) middle_rows i m here there)

          goes_on : (course : Course) → IsRunning settings journal i r.columns course → IsRunning settings (set ∷ journal) i (settled now Valid m.columns) course
          goes_on course k = record {
            due = same_due journal set i stays (λ acts. refl) same_interval ∙ k.due;
            keeps = keeps_by course.hysteresis r.columns.thresholds m.columns.thresholds (sample_values settings (set ∷ journal) i) same_thresholds
                (subst (Keeps course.hysteresis r.columns.thresholds) (sym (same_values settings journal set i stays (λ acts. refl) same_delta)) k.keeps);
          }

          based_on : (course : Course) → IsBased settings journal i course → IsBased settings (set ∷ journal) i course
          based_on = still_based settings journal set i stays (λ acts. refl)

        -- it wasn't
        module _ (idle : is_valid (alarm_state journal i) ≡ false) where
          starts : stays_valid alarm_table no_rows set journal (i ∷ []) ≡ false
          starts = ap (λ b. b && is_valid (alarm_state (set ∷ journal) i)) idle

          no_readings : readings_of (set ∷ journal) i ≡ []
          no_readings = ap (readings_in i) (since_starts alarm_table no_rows set journal (i ∷ []) starts)

          start : activated alarm_table no_rows (set ∷ journal) (i ∷ []) ≡ now
          start =
              ap (λ b. cond b (activated alarm_table no_rows journal (i ∷ [])) (cond (is_valid (alarm_state (set ∷ journal) i)) now 0)) starts
              ∙ ap (λ s. cond (is_valid s) now 0) state_now

          pub its_base_of : base_of settings (set ∷ journal) i ≡ settings.readings journal now (variable_of (set ∷ journal) i)
          its_base_of =
              ap (λ b. cond b (base_of settings journal i) (cond (is_valid (alarm_state (set ∷ journal) i)) (settings.readings journal now (variable_of (set ∷ journal) i)) None)) starts
              ∙ ap (λ s. cond (is_valid s) (settings.readings journal now (variable_of (set ∷ journal) i)) None) state_now

          due_then : due_of (set ∷ journal) i ≡ Some (now + 1000 * interval_kept m.columns)
          due_then =
              ap (λ s. cond (is_valid s) (Some (activated alarm_table no_rows (set ∷ journal) (i ∷ []) + 1000 * interval_of (set ∷ journal) i * (length (readings_of (set ∷ journal) i) + 1))) None) state_now
              ∙ ap (λ a. Some (a + 1000 * interval_of (set ∷ journal) i * (length (readings_of (set ∷ journal) i) + 1))) start
              ∙ ap (λ l. Some (now + 1000 * interval_of (set ∷ journal) i * (length l + 1))) no_readings
              ∙ ap (λ n. Some (now + n)) (first_interval (interval_of (set ∷ journal) i))
              ∙ ap (λ n. Some (now + 1000 * n)) (sym (interval_is middle (set ∷ journal) middle_rows i m here there))

          no_values : sample_values settings (set ∷ journal) i ≡ []
          no_values = ap (values_of_readings (is_delta (set ∷ journal) i) (is_counted (base_of settings (set ∷ journal) i)) (base_number (base_of settings (set ∷ journal) i))) no_readings

          begins : IsRunning settings (set ∷ journal) i (settled now Valid m.columns) (starting now (interval_kept m.columns) m.columns.base)
          begins = record {
            due = due_then;
            keeps = subst (Keeps nothing_crossed m.columns.thresholds) (sym no_values) (record { last = refl; risen = refl; fallen = refl });
          }

          begins_based : m.columns.base ≡ settings.readings journal now (variable_of (set ∷ journal) i) → IsBased settings (set ∷ journal) i (starting now (interval_kept m.columns) m.columns.base)
          begins_based read = record {
            counter = ap is_counted (read ∙ sym its_base_of);
            reading = ap base_number (read ∙ sym its_base_of) ∙ sym (ap (newest_or (base_number (base_of settings (set ∷ journal) i))) no_readings);
          }

        idle_before : (o : Option (Row AlarmRow)) → row_in rows i ≡ o → (unwrap_or (columns_seen o) blank_row).course ≡ None → is_valid (alarm_state journal i) ≡ false
        idle_before None was e = ap is_valid (sym (is.alike.states i) ∙ ap state_seen was)
        idle_before (Some r) was e = ap is_valid (sym (state_is rows journal is i r was)) ∙ not_valid_one settings journal i r.state r.columns r.columns.course e (kept i r was)

        valid_before : (o : Option (Row AlarmRow)) → row_in rows i ≡ o → (course : Course) → (unwrap_or (columns_seen o) blank_row).course ≡ Some course → (r : Row AlarmRow) × (row_in rows i ≡ Some r) × (r.columns.course ≡ Some course)
        valid_before None was course e = absurd (none_some course e)
        valid_before (Some r) was course e = (r, was, e)

        running : (k : Option Course) → m.columns.course ≡ k → IsRunning settings (set ∷ journal) i (settled now Valid m.columns) (course_or_start now m.columns k)
        running None e = begins (idle_before (row_in rows i) refl (sym its_course ∙ e))
        running (Some course) e =
            let got = valid_before (row_in rows i) refl course (sym its_course ∙ e) in
            let one = valid_one settings journal i got.0.state got.0.columns got.0.columns.course course got.2 (kept i got.0 got.1) in
            goes_on got.0 got.1 one.0 course one.1

      kept_by : (s : State) → m.state ≡ s → IsKept settings (set ∷ journal) i s (settled now s m.columns) (settled now s m.columns).course
      kept_by Valid e = running e m.columns.course refl
      kept_by UnderCreation e = refl
      kept_by Absent e = refl

    pub kept_set : (row : Row AlarmRow) → row_in new i ≡ Some row → IsKept settings (set ∷ journal) i row.state row.columns row.columns.course
    kept_set row here =
        let got = was_there (changed_row (λ index state row. settled now state row)) (row_in middle i) row (sym (settles i) ∙ here) in
        subst (λ (r : Row AlarmRow). IsKept settings (set ∷ journal) i r.state r.columns r.columns.course) got.2 (kept_by got.0 got.1 got.0.state refl)

    -- what it has read, where each row under creation remembers what its variable reads
    module _ (based : Based rows settings journal) (read : (alarm : ℕ) (row : Row AlarmRow) → row_in rows alarm ≡ Some row → row.state ≡ UnderCreation → row.columns.base ≡ settings.readings journal now (variable_with bs alarm row.columns)) where
      remembered : (m : Row AlarmRow) → row_in middle i ≡ Some m → m.state ≡ Valid → is_valid (alarm_state journal i) ≡ false → (o : Option (Row AlarmRow)) → row_in rows i ≡ o
          → (unwrap_or (columns_seen o) blank_row).base ≡ settings.readings journal now (variable_with bs i (unwrap_or (columns_seen o) blank_row))
      remembered m here valid idle None was =
          absurd (not_made_valid (value_given bs (cell_name alarm_entry 12 (i ∷ [])))
          (sym (ap (λ o. is_valid (next_state (set_ask alarm_table bs (i ∷ [])) (state_seen o))) was) ∙ ap (λ (x : Row AlarmRow). is_valid x.state) (made m here) ∙ ap is_valid valid))
      remembered m here valid idle (Some r) was =
          read i r was (under_creation r.state (row_there alarm_table rows i r committed.held was) (ap is_valid (state_is rows journal is i r was) ∙ idle))

      given_variable : (m : Row AlarmRow) → row_in middle i ≡ Some m → m.state ≡ Valid → variable_with bs i old ≡ variable_of (set ∷ journal) i
      given_variable m here valid =
          sym (with_given (value_given bs (cell_name alarm_entry 3 (i ∷ []))) m.columns.variable old.variable
          (ap (λ (x : Row AlarmRow). option_map Rattle.rm_val.specs.Val.name x.columns.variable) (sym (made m here))
          ∙ set_in_all alarm_table with_column new_row set_to alarm_rows.set_with bs i 3 old refl (all_fine alarm_table bs committed.fine.alone)))
          ∙ variable_is middle (set ∷ journal) middle_rows i m here (ap is_absent valid)

      base_read : (m : Row AlarmRow) → row_in middle i ≡ Some m → m.state ≡ Valid → is_valid (alarm_state journal i) ≡ false → m.columns.base ≡ settings.readings journal now (variable_of (set ∷ journal) i)
      base_read m here valid idle =
          its_base m here ∙ remembered m here valid idle (row_in rows i) refl ∙ ap (settings.readings journal now) (given_variable m here valid)

      based_by : (m : Row AlarmRow) (here : row_in middle i ≡ Some m) (valid : m.state ≡ Valid) (k : Option Course) → m.columns.course ≡ k → IsBased settings (set ∷ journal) i (course_or_start now m.columns k)
      based_by m here valid None e = begins_based m here valid (idle_before m here valid (row_in rows i) refl (sym (its_course m here) ∙ e))
          (base_read m here valid (idle_before m here valid (row_in rows i) refl (sym (its_course m here) ∙ e)))
      based_by m here valid (Some course) e =
          let got = valid_before m here valid (row_in rows i) refl course (sym (its_course m here) ∙ e) in
          let one = valid_one settings journal i got.0.state got.0.columns got.0.columns.course course got.2 (kept i got.0 got.1) in
          based_on m here valid got.0 got.1 one.0 course (based i got.0 course got.1 got.2)

      pub based_set : (row : Row AlarmRow) (course : Course) → row_in new i ≡ Some row → row.columns.course ≡ Some course → IsBased settings (set ∷ journal) i course
      based_set row course here has =
          let got = was_there (changed_row (λ index state row. settled now state row)) (row_in middle i) row (sym (settles i) ∙ here) in
          by_state got.0 got.1 got.0.state refl (ap (λ (r : Row AlarmRow). r.columns.course) got.2 ∙ has)
        where
          by_state : (m : Row AlarmRow) → row_in middle i ≡ Some m → (s : State) → m.state ≡ s → (settled now s m.columns).course ≡ Some course → IsBased settings (set ∷ journal) i course
          by_state m within Valid e h = subst (IsBased settings (set ∷ journal) i) (in_some (course_or_start now m.columns m.columns.course) course h) (based_by m within e m.columns.course refl)
          by_state m within UnderCreation e h = absurd (none_some course h)
          by_state m within Absent e h = absurd (none_some course h)
