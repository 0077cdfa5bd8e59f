-- Rows of a control table, and the columns of alarms among them.
use Rattle.std.proofs.Common.{◌≡◌, ℕ, List, [], ◌∷◌, false, Option, Some, None, refl, sym, ap, subst, ◌∙◌, option_map}
use Rattle.std.specs.Prelude.{ℤ, pos, unwrap_or, nat_abs}
use Rattle.std.specs.Option.{option_and_then}
use Rattle.std.specs.Ordering.{int_eq}
use Rattle.rm_val.specs.Val.{int, name}
use Rattle.rm_model.specs.Journal.{Journal}
use Rattle.rm_model.specs.ControlRows.{no_rows, is_absent, set_value}
use Rattle.rm_model.specs.Alike.{HasSameColumns}
use Rattle.rm_acts.specs.Alarms.{number_of, name_of, alarm_table, alarm_state, interval_of, variable_of, is_delta, bounds_of}
use Rattle.rm_status.specs.declared.row.Row.{Row}
use Rattle.rm_status.specs.Rows.{row_in, state_seen, columns_seen}
use Rattle.rm_status.specs.RowsAfter.{AreRowsAfter}
use Rattle.rm_alarm.specs.declared.row.AlarmRow.{AlarmRow}
use Rattle.rm_alarm.specs.declared.sample_type.SampleType.{SampleType}
use Rattle.rm_alarm.specs.declared.sample_type.SampleType.TheVariants.{Absolute, Delta}
use Rattle.rm_alarm.specs.SampleType.{type_number, is_difference}
use Rattle.rm_alarm.specs.Kept.{bounds_in}
use Rattle.rm_alarm.specs.Rows.{set_to, interval_kept, variable_kept, delta_kept}

-- the columns of a row are those of the journal
module _ (rows : List (Row AlarmRow)) (journal : Journal) (is : AreRowsAfter alarm_table no_rows set_to rows journal) (i : ℕ) (row : Row AlarmRow) (here : row_in rows i ≡ Some row) where
  pub state_is : row.state ≡ alarm_state journal i
  state_is = sym (ap state_seen here) ∙ is.alike.states i

  module _ (there : is_absent row.state ≡ false) where
    pub columns : HasSameColumns alarm_table (set_to row.columns) (set_value alarm_table no_rows journal (i ∷ []))
    columns =
        subst (λ (o : Option (Row AlarmRow)). HasSameColumns alarm_table (λ n. option_and_then (λ c. set_to c n) (columns_seen o)) (set_value alarm_table no_rows journal (i ∷ []))) here
        (is.alike.columns i (ap (λ o. is_absent (state_seen o)) here ∙ there))

    of_interval : (o : Option ℤ) → nat_abs (number_of (unwrap_or (option_map int o) (int (pos 0)))) ≡ nat_abs (unwrap_or o (pos 0))
    of_interval None = refl
    of_interval (Some z) = refl

    of_variable : (o : Option (List ℕ)) → name_of (unwrap_or (option_map name o) (name (0 ∷ 0 ∷ []))) ≡ unwrap_or o (0 ∷ 0 ∷ [])
    of_variable None = refl
    of_variable (Some n) = refl

    pub interval_is : interval_kept row.columns ≡ interval_of journal i
    interval_is = sym (of_interval row.columns.interval) ∙ ap (λ v. nat_abs (number_of v)) columns.0.shown

    pub variable_is : variable_kept row.columns ≡ variable_of journal i
    variable_is = sym (of_variable row.columns.variable) ∙ ap name_of columns.1.0.shown

    of_type : (type : SampleType) → is_difference type ≡ int_eq (type_number type) (pos 2)
    of_type Absolute = refl
    of_type Delta = refl

    pub delta_is : delta_kept row.columns ≡ is_delta journal i
    delta_is = of_type row.columns.sample_type ∙ ap (λ v. int_eq (number_of v) (pos 2)) columns.1.1.0.shown

    pub bounds_is : bounds_in row.columns.thresholds ≡ bounds_of journal i
    bounds_is = λ d. record {
      startup = number_of (columns.1.1.1.0.shown d);
      rising = number_of (columns.1.1.1.1.0.shown d);
      falling = number_of (columns.1.1.1.1.1.0.shown d);
    }
