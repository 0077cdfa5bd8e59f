-- The alarms after a frame, and after a sample.
use Rattle.std.proofs.Common.{◌≡◌, ℕ, List, [], ◌∷◌, true, false, cond, ◌&&◌, Option, Some, None, refl, sym, ap, subst, ◌∙◌, nat_eq}
use Rattle.std.specs.Prelude.{ℤ}
use Rattle.std.specs.Option.{option_and_then}
use borrow.Author.Tests.{eqb-true}
use Rattle.rm_model.specs.Counting.{Counting}
use Rattle.rm_model.specs.Journal.{Act, Frame, Journal, passes, samples}
use Rattle.rm_model.specs.ControlRows.{no_rows, is_absent, is_valid, stays_valid}
use Rattle.rm_acts.specs.Alarms.{alarm_table, alarm_state, interval_of, is_delta, readings_in, sampled}
use Rattle.rm_model.specs.declared.row.State.{State}
use Rattle.rm_model.specs.declared.row.State.TheVariants.{Absent, UnderCreation, Valid}
use Rattle.rm_acts.specs.declared.sampled.Sampled.{Sampled}
use Rattle.rm_status.specs.declared.row.Row.{Row}
use Rattle.rm_status.specs.Rows.{row_in, number_in, state_seen, columns_seen, state_in, columns_in, AreControlRows}
use Rattle.rm_status.specs.RowsAfter.{AreRowsAfter}
use Rattle.rm_alarm.specs.declared.course.Course.{Course}
use Rattle.rm_alarm.specs.declared.row.AlarmRow.{AlarmRow}
use Rattle.rm_alarm.specs.Kept.{Keeps}
use Rattle.rm_alarm.specs.Rows.{set_to}
use Rattle.rm_alarm.specs.Taking.{Took, with_course, HasTaken}
use Rattle.rm_alarm.specs.Standing.{IsRunning, IsKept, AreKept, IsBased}
use Rattle.rm_status.proofs.RowFacts.{row_there}
use Rattle.rm_status.proofs.RowsBefore.{after_alike}
use Rattle.rm_alarm.proofs.RowFacts.{state_is, interval_is, delta_is, bounds_is}
use Rattle.rm_acts.proofs.DueLaws.{same_due}
use Rattle.rm_alarm.proofs.Steps.{same_values, still_based, runs_on, based_on, comes_to}

-- rows that were set to the same are those after the same journals
pub rows_same : (rows new : List (Row AlarmRow)) (journal : Journal) → ((i : ℕ) → state_in new i ≡ state_in rows i) → ((i n : ℕ) → option_and_then (λ c. set_to c n) (columns_in new i) ≡ option_and_then (λ c. set_to c n) (columns_in rows i))
    → AreRowsAfter alarm_table no_rows set_to rows journal → AreRowsAfter alarm_table no_rows set_to new journal
rows_same rows new journal states columns is =
    after_alike alarm_table no_rows set_to set_to rows new journal
    (λ d. record { state = λ index. states (number_in alarm_table index) d; set = λ index n. columns (number_in alarm_table index) n d }) is

in_some : {A : Type 0} (x y : A) → Some x ≡ Some y → x ≡ y
in_some x y e = cc

no_course : {A : Type 0} (o : Option A) (x : A) → o ≡ Some x → o ≡ None → ⊥
no_course o x e f = cc

-- an act that isn't an alarm's own sample and leaves its row
module _ (settings : Counting) (journal : Journal) (act : Act) (i : ℕ) (same : alarm_state (act ∷ journal) i ≡ alarm_state journal i)
    (interval : interval_of (act ∷ journal) i ≡ interval_of journal i) (delta : is_delta (act ∷ journal) i ≡ is_delta journal i)
    (other : (acts : Journal) → readings_in i (act ∷ acts) ≡ readings_in i acts) where
  stays : alarm_state journal i ≡ Valid → stays_valid alarm_table no_rows act journal (i ∷ []) ≡ true
  stays valid = ap (λ s. is_valid (alarm_state journal i) && is_valid s) same ∙ ap (λ s. is_valid s && is_valid s) valid

  pub kept_other : (s : State) (row : AlarmRow) (o : Option Course) → s ≡ alarm_state journal i → IsKept settings journal i s row o → IsKept settings (act ∷ journal) i s row o
  kept_other Valid row (Some course) is k = record {
    due = same_due journal act i (stays (sym is)) other interval ∙ k.due;
    keeps = subst (Keeps course.hysteresis row.thresholds) (sym (same_values settings journal act i (stays (sym is)) other delta)) k.keeps;
  }
  kept_other Valid row None is k = k
  kept_other UnderCreation row o is k = k
  kept_other Absent row o is k = k

  pub based_other : (course : Course) → alarm_state journal i ≡ Valid → IsBased settings journal i course → IsBased settings (act ∷ journal) i course
  based_other course valid = still_based settings journal act i (stays valid) other course

-- a row that keeps something of its samples is valid
pub valid_one : (settings : Counting) (journal : Journal) (i : ℕ) (s : State) (row : AlarmRow) (o : Option Course) (course : Course) → o ≡ Some course → IsKept settings journal i s row o → (s ≡ Valid) × IsRunning settings journal i row course
valid_one settings journal i Valid row (Some c) course e k = (refl, subst (IsRunning settings journal i row) (in_some c course e) k)
valid_one settings journal i Valid row None course e k = absurd k
valid_one settings journal i UnderCreation row o course e k = absurd (no_course o course e k)
valid_one settings journal i Absent row o course e k = absurd (no_course o course e k)

abbrev pub Based : List (Row AlarmRow) → Counting → Journal → Type 0
Based rows settings journal = (i : ℕ) (row : Row AlarmRow) (course : Course) → row_in rows i ≡ Some row → row.columns.course ≡ Some course → IsBased settings journal i course

-- a frame
module _ (settings : Counting) (journal : Journal) (frame : Frame) (rows : List (Row AlarmRow)) (is : AreRowsAfter alarm_table no_rows set_to rows journal) (kept : AreKept rows settings journal) where
  pub kept_passes : AreKept rows settings (passes frame ∷ journal)
  kept_passes i row here = kept_other settings journal (passes frame) i refl refl refl (λ acts. refl) row.state row.columns row.columns.course (state_is rows journal is i row here) (kept i row here)

  pub based_passes : Based rows settings journal → Based rows settings (passes frame ∷ journal)
  based_passes based i row course here has =
      let one = valid_one settings journal i row.state row.columns row.columns.course course has (kept i row here) in
      based_other settings journal (passes frame) i refl refl refl (λ acts. refl) course (sym (state_is rows journal is i row here) ∙ one.0) (based i row course here has)

-- a sample of the alarm with that index
module _ (settings : Counting) (journal : Journal) (index moment : ℕ) (rows new : List (Row AlarmRow)) (held : AreControlRows alarm_table rows)
    (is : AreRowsAfter alarm_table no_rows set_to rows journal) (kept : AreKept rows settings journal) (based : Based rows settings journal)
    (row : Row AlarmRow) (here : row_in rows index ≡ Some row) (course : Course) (has : row.columns.course ≡ Some course) (now : course.due ≡ moment) where
  is_running : (row.state ≡ Valid) × IsRunning settings journal index row.columns course
  is_running = valid_one settings journal index row.state row.columns row.columns.course course has (kept index row here)

  its_state : alarm_state journal index ≡ Valid
  its_state = sym (state_is rows journal is index row here) ∙ is_running.0

  abbrev is_there : is_absent row.state ≡ false
  is_there = row_there alarm_table rows index row held here

  -- that reads a number
  module _ (number : ℤ) (result : Sampled) (taken : HasTaken rows new index moment number result) where
    abbrev own : Act
    own = samples moment index (Some number)

    after : Course
    after = (taken.itself row course here has).0

    new_here : row_in new index ≡ Some (with_course row after)
    unfolding after
    new_here = (taken.itself row course here has).1

    took : Took row.columns course moment number after result
    unfolding after
    took = (taken.itself row course here has).2

    not_own : (i : ℕ) → nat_eq index i ≡ false → (acts : Journal) → readings_in i (own ∷ acts) ≡ readings_in i acts
    not_own i other acts = ap (λ b. cond b (number ∷ readings_in i acts) (readings_in i acts)) other

    by_index : (P : ℕ → Type 0) → P index → ((i : ℕ) → nat_eq index i ≡ false → P i) → (i : ℕ) → P i
    by_index P itself others i =
        elim (nat_eq index i) as (λ t. nat_eq index i ≡ t → P i) [
          | true ↦ λ e. subst P (eqb-true index i e) itself
          | false ↦ λ e. others i e
        ] refl

    pub rows_samples : AreRowsAfter alarm_table no_rows set_to new (own ∷ journal)
    rows_samples =
        let same = rows_same rows new journal
        (by_index (λ i. state_in new i ≡ state_in rows i) (ap state_seen new_here ∙ sym (ap state_seen here)) (λ i other. ap state_seen (taken.others i other)))
        (λ i n. by_index (λ i. option_and_then (λ c. set_to c n) (columns_in new i) ≡ option_and_then (λ c. set_to c n) (columns_in rows i))
        (ap (λ o. option_and_then (λ c. set_to c n) (columns_seen o)) new_here ∙ sym (ap (λ o. option_and_then (λ c. set_to c n) (columns_seen o)) here))
        (λ i other. ap (λ o. option_and_then (λ c. set_to c n) (columns_seen o)) (taken.others i other)) i)
        is in
        record { alike = record { states = same.alike.states; columns = same.alike.columns }; others = same.others }

    -- what holds of each row that is there now
    each : (P : ℕ → Row AlarmRow → Type 0) → P index (with_course row after) → ((i : ℕ) (r : Row AlarmRow) → nat_eq index i ≡ false → row_in rows i ≡ Some r → P i r) → (i : ℕ) (r : Row AlarmRow) → row_in new i ≡ Some r → P i r
    each P itself others = by_index (λ i. (r : Row AlarmRow) → row_in new i ≡ Some r → P i r)
        (λ r is_r. subst (P index) (in_some (with_course row after) r (sym new_here ∙ is_r)) itself)
        (λ i other r is_r. others i r other (sym (taken.others i other) ∙ is_r))

    own_runs : IsRunning settings (own ∷ journal) index (with_course row after).columns after
    own_runs =
        runs_on settings journal index moment number (ap is_valid its_state) row.columns course after result
        (interval_is rows journal is index row here is_there) (delta_is rows journal is index row here is_there) (bounds_is rows journal is index row here is_there)
        took is_running.1 (based index row course here has) now (with_course row after).columns refl

    own_kept : (s : State) → s ≡ Valid → IsKept settings (own ∷ journal) index s (with_course row after).columns (Some after)
    own_kept Valid e = own_runs
    own_kept UnderCreation e = absurd (cc)
    own_kept Absent e = absurd (cc)

    pub kept_samples : AreKept new settings (own ∷ journal)
    kept_samples = each (λ i r. IsKept settings (own ∷ journal) i r.state r.columns r.columns.course)
        (own_kept row.state is_running.0)
        (λ i r other is_r. kept_other settings journal own i refl refl refl (not_own i other) r.state r.columns r.columns.course (state_is rows journal is i r is_r) (kept i r is_r))

    pub based_samples : Based new settings (own ∷ journal)
    based_samples i r c is_r has_r = each (λ i r. (c : Course) → r.columns.course ≡ Some c → IsBased settings (own ∷ journal) i c)
        (λ c has_c. subst (IsBased settings (own ∷ journal) index) (in_some after c has_c)
        (based_on settings journal index moment number (ap is_valid its_state) row.columns course after result
        (interval_is rows journal is index row here is_there) (delta_is rows journal is index row here is_there) (bounds_is rows journal is index row here is_there)
        took is_running.1 (based index row course here has) now))
        (λ i r other is_r c has_c.
        let one = valid_one settings journal i r.state r.columns r.columns.course c has_c (kept i r is_r) in
        based_other settings journal own i refl refl refl (not_own i other) c (sym (state_is rows journal is i r is_r) ∙ one.0) (based i r c is_r has_c))
        i r is_r c has_r

    pub sample_comes_to : result ≡ sampled settings journal moment index (Some number)
    sample_comes_to =
        comes_to settings journal index moment number (ap is_valid its_state) row.columns course after result
        (interval_is rows journal is index row here is_there) (delta_is rows journal is index row here is_there) (bounds_is rows journal is index row here is_there)
        took is_running.1 (based index row course here has) now
