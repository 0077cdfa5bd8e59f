-- What is kept of alarms after each act.
use Rattle.std.proofs.Common.{◌≡◌, ℕ, ◌+◌, ◌*◌, List, [], ◌∷◌, true, cond, ◌&&◌, Some, refl, sym, ap, subst, ◌∙◌}
use Rattle.std.specs.Prelude.{ℤ}
use Rattle.rm_model.specs.Counting.{Counting}
use Rattle.rm_model.specs.Journal.{Act, Journal, samples}
use Rattle.rm_model.specs.ControlRows.{no_rows, is_valid, stays_valid}
use Rattle.rm_acts.specs.Crossings.{Bounds, is_in_force, rising_of, falling_of, crossing}
use Rattle.rm_acts.specs.Alarms.{alarm_table, alarm_state, interval_of, is_delta, bounds_of, readings_in, readings_of, base_of, newest_or, values_of_readings, is_counted, base_number, difference, sample_values, sampled}
use Rattle.rm_acts.specs.declared.sampled.Sampled.{Sampled}
use Rattle.rm_acts.proofs.DueLaws.{same_readings, more_readings, due_next}
use Rattle.rm_alarm.specs.declared.course.Course.{Course}
use Rattle.rm_alarm.specs.declared.hysteresis.Hysteresis.{Hysteresis}
use Rattle.rm_alarm.specs.declared.thresholds.Thresholds.{Thresholds}
use Rattle.rm_alarm.specs.declared.row.AlarmRow.{AlarmRow}
use Rattle.rm_alarm.specs.Kept.{Keeps, bounds_in, value_read}
use Rattle.rm_alarm.specs.Rows.{interval_kept, delta_kept}
use Rattle.rm_alarm.specs.Taking.{Took}
use Rattle.rm_alarm.specs.Standing.{IsRunning, IsBased}

-- an act by which an alarm stays valid
module _ (settings : Counting) (journal : Journal) (act : Act) (i : ℕ) (stays : stays_valid alarm_table no_rows act journal (i ∷ []) ≡ true) where
  pub same_base : base_of settings (act ∷ journal) i ≡ base_of settings journal i
  same_base = rw stays refl

  values_after : (is_delta (act ∷ journal) i ≡ is_delta journal i) → (readings : List ℤ) → readings_of (act ∷ journal) i ≡ readings
      → sample_values settings (act ∷ journal) i ≡ values_of_readings (is_delta journal i) (is_counted (base_of settings journal i)) (base_number (base_of settings journal i)) readings
  values_after delta readings are =
      ap (λ d. values_of_readings d (is_counted (base_of settings (act ∷ journal) i)) (base_number (base_of settings (act ∷ journal) i)) (readings_of (act ∷ journal) i)) delta
      ∙ ap (λ b. values_of_readings (is_delta journal i) (is_counted b) (base_number b) (readings_of (act ∷ journal) i)) same_base
      ∙ ap (values_of_readings (is_delta journal i) (is_counted (base_of settings journal i)) (base_number (base_of settings journal i))) are

  -- one that isn't its own sample
  module _ (other : (acts : Journal) → readings_in i (act ∷ acts) ≡ readings_in i acts) where
    readings : readings_of (act ∷ journal) i ≡ readings_of journal i
    readings = same_readings journal act i stays other

    pub same_values : is_delta (act ∷ journal) i ≡ is_delta journal i → sample_values settings (act ∷ journal) i ≡ sample_values settings journal i
    same_values delta = values_after delta (readings_of journal i) readings

    pub still_based : (course : Course) → IsBased settings journal i course → IsBased settings (act ∷ journal) i course
    still_based course is = record {
      counter = is.counter ∙ ap is_counted (sym same_base);
      reading = is.reading ∙ ap (λ b. newest_or (base_number b) (readings_of journal i)) (sym same_base) ∙ ap (newest_or (base_number (base_of settings (act ∷ journal) i))) (sym readings);
    }

-- what is kept by a row with other thresholds that are the same numbers
pub keeps_by : (kept : Hysteresis) (thresholds others : Thresholds) (values : List ℤ) → bounds_in thresholds ≡ bounds_in others → Keeps kept thresholds values → Keeps kept others values
keeps_by kept thresholds others values same is = record {
  last = is.last;
  risen = is.risen ∙ ap (λ (b : Bounds). is_in_force (rising_of b) values) same;
  fallen = is.fallen ∙ ap (λ (b : Bounds). is_in_force (falling_of b) values) same;
}

-- an alarm's own sample
module _ (settings : Counting) (journal : Journal) (i moment : ℕ) (number : ℤ) (valid : is_valid (alarm_state journal i) ≡ true) where
  abbrev own : Act
  own = samples moment i (Some number)

  stays : stays_valid alarm_table no_rows own journal (i ∷ []) ≡ true
  stays = ap (λ b. b && b) valid

  own_readings : readings_of (own ∷ journal) i ≡ number ∷ readings_of journal i
  own_readings = more_readings journal moment i number stays

  more_values : sample_values settings (own ∷ journal) i
      ≡ cond (is_delta journal i) (difference (is_counted (base_of settings journal i)) number (newest_or (base_number (base_of settings journal i)) (readings_of journal i))) number ∷ sample_values settings journal i
  more_values = values_after settings journal own i stays refl (number ∷ readings_of journal i) own_readings

  module _ (row : AlarmRow) (course after : Course) (result : Sampled)
      (interval : interval_kept row ≡ interval_of journal i) (delta : delta_kept row ≡ is_delta journal i) (bounds : bounds_in row.thresholds ≡ bounds_of journal i)
      (took : Took row course moment number after result) (running : IsRunning settings journal i row course) (based : IsBased settings journal i course) (now : course.due ≡ moment) where
    its_value : value_read (delta_kept row) course number ∷ sample_values settings journal i ≡ sample_values settings (own ∷ journal) i
    its_value =
        ap (λ d. cond d (difference course.counter number course.reading) number ∷ sample_values settings journal i) delta
        ∙ ap (λ k. cond (is_delta journal i) (difference k number course.reading) number ∷ sample_values settings journal i) based.counter
        ∙ ap (λ b. cond (is_delta journal i) (difference (is_counted (base_of settings journal i)) number b) number ∷ sample_values settings journal i) based.reading
        ∙ sym more_values

    pub runs_on : (then_ : AlarmRow) → then_.thresholds ≡ row.thresholds → IsRunning settings (own ∷ journal) i then_ after
    runs_on then_ same = record {
      due = due_next journal moment i (running.due ∙ ap Some now) number ∙ ap Some (ap (λ n. moment + 1000 * n) (sym interval) ∙ sym took.due);
      keeps =
          let kept : Keeps after.hysteresis row.thresholds (sample_values settings (own ∷ journal) i) = subst (Keeps after.hysteresis row.thresholds) its_value (took.keeps (sample_values settings journal i) running.keeps) in
          subst (λ t. Keeps after.hysteresis t (sample_values settings (own ∷ journal) i)) (sym same) kept;
    }

    pub based_on : IsBased settings (own ∷ journal) i after
    based_on = record {
      counter = took.counter ∙ based.counter ∙ ap is_counted (sym (same_base settings journal own i stays));
      reading = took.reading ∙ ap (newest_or (base_number (base_of settings (own ∷ journal) i))) (sym own_readings);
    }

    pub comes_to : result ≡ sampled settings journal moment i (Some number)
    comes_to =
        took.crosses (sample_values settings journal i) running.keeps
        ∙ ap (λ b. crossing b (value_read (delta_kept row) course number ∷ sample_values settings journal i)) bounds
        ∙ ap (crossing (bounds_of journal i)) its_value
