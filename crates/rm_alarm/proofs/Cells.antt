-- What the rows show is what the table shows after the journal.
use Rattle.std.proofs.Common.{◌≡◌, ℕ, List, [], ◌∷◌, refl, sym, ◌∙◌, ap, false, cond, Option, Some, None, nat_eq}
use Rattle.std.specs.Prelude.{ℤ, pos, unwrap_or}
use Rattle.std.specs.Option.{option_map_or}
use Rattle.rm_val.specs.Val.{Val, int}
use Rattle.rm_model.specs.Counting.{Counting}
use Rattle.rm_model.specs.Journal.{Journal}
use Rattle.rm_model.specs.Cells.{cells_of, IsNext}
use Rattle.rm_model.specs.ControlRows.{no_rows, is_valid}
use Rattle.rm_acts.specs.Alarms.{alarm_table, alarm_state, readings_in, values_of_readings, is_delta, is_counted, base_number, base_of, sample_values, newest_or, saturated}
use Rattle.rm_model.specs.declared.row.State.{State}
use Rattle.rm_model.specs.declared.row.State.TheVariants.{Absent, UnderCreation, Valid}
use Rattle.rm_status.specs.declared.row.Row.{Row}
use Rattle.rm_status.specs.Rows.{row_in, AreControlRows}
use Rattle.rm_status.specs.RowsShown.{with_index}
use Rattle.rm_status.specs.RowsAfter.{AreRowsAfter}
use Rattle.rm_status.proofs.KeptCellsLaws.{same_control_cells}
use Rattle.rm_status.proofs.RowsAfterLemmas.{since_idle}
use Rattle.rm_status.proofs.Judged.{same_next}
use Rattle.rm_alarm.specs.declared.course.Course.{Course}
use Rattle.rm_alarm.specs.declared.row.AlarmRow.{AlarmRow}
use Rattle.rm_alarm.specs.Kept.{newest}
use Rattle.rm_alarm.specs.Rows.{set_to}
use Rattle.rm_alarm.specs.Shown.{last_value, kept_other, rows_table}
use Rattle.rm_alarm.specs.AlarmTable.{alarm_columns, alarm_other, alarms_table}
use Rattle.rm_alarm.specs.Standing.{IsKept, AreKept}
use Rattle.rm_status.proofs.RowFacts.{row_there}
use Rattle.rm_alarm.proofs.RowFacts.{state_is}

newest_is : (values : List ℤ) → unwrap_or (newest values) (pos 0) ≡ newest_or (pos 0) values
newest_is [] = refl
newest_is (value ∷ earlier) = refl

no_values : (settings : Counting) (journal : Journal) (i : ℕ) → is_valid (alarm_state journal i) ≡ false → sample_values settings journal i ≡ []
no_values settings journal i idle =
    ap (λ l. values_of_readings (is_delta journal i) (is_counted (base_of settings journal i)) (base_number (base_of settings journal i)) (readings_in i l)) (since_idle alarm_table no_rows journal (i ∷ []) idle)

-- the value that is kept
pub value_is : (settings : Counting) (journal : Journal) (i : ℕ) (s : State) (row : AlarmRow) (o : Option Course) → s ≡ alarm_state journal i → IsKept settings journal i s row o → last_value o ≡ newest_or (pos 0) (sample_values settings journal i)
value_is settings journal i Valid row (Some course) e k = ap (λ o. unwrap_or o (pos 0)) k.keeps.last ∙ newest_is (sample_values settings journal i)
value_is settings journal i Valid row None e k = absurd k
value_is settings journal i UnderCreation row o e k = ap last_value k ∙ sym (ap (newest_or (pos 0)) (no_values settings journal i (ap is_valid (sym e))))
value_is settings journal i Absent row o e k = ap last_value k ∙ sym (ap (newest_or (pos 0)) (no_values settings journal i (ap is_valid (sym e))))

module _ (rows : List (Row AlarmRow)) (held : AreControlRows alarm_table rows) (settings : Counting) (journal : Journal)
    (is : AreRowsAfter alarm_table no_rows set_to rows journal) (kept : AreKept rows settings journal) where
  same_other : (column i : ℕ) (row : Row AlarmRow) → row_in rows i ≡ Some row → with_index (kept_other rows) column (i ∷ []) ≡ with_index (alarm_other settings journal) column (i ∷ [])
  same_other column i row here =
      ap (λ v. cond (nat_eq column 1) (int (pos i)) (int (saturated v)))
      (ap (λ o. option_map_or (λ (r : Row AlarmRow). last_value r.columns.course) o (pos 0)) here
      ∙ value_is settings journal i row.state row.columns row.columns.course (state_is rows journal is i row here) (kept i row here))

  pub same_cells : (name : List ℕ) → cells_of (rows_table rows) name ≡ cells_of (alarms_table settings journal) name
  same_cells = same_control_cells alarm_table no_rows set_to rows held journal is alarm_columns (with_index (kept_other rows)) (with_index (alarm_other settings journal)) (λ i row here. row_there alarm_table rows i row held here) same_other

  -- what is next among the cells that are shown is next among those of the journal
  pub next_cell : (asked found : List ℕ) (value : Option Val) → IsNext (cells_of (rows_table rows)) asked value found → IsNext (cells_of (alarms_table settings journal)) asked value found
  next_cell = same_next (cells_of (rows_table rows)) (cells_of (alarms_table settings journal)) same_cells
