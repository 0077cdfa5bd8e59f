-- The columns of a row that is kept are what the cells of its alarm show.
use Rattle.std.proofs.Common.{◌≡◌, ℕ, List, [], ◌∷◌, true, false, Option, Some, None, refl, sym, ap, ◌∙◌}
use Rattle.std.specs.Prelude.{unwrap_or}
use Rattle.std.specs.Option.{option_map}
use Rattle.rm_val.specs.Val.{int, name}
use Rattle.rm_model.specs.Counting.{Counting}
use Rattle.rm_model.specs.Journal.{Journal}
use Rattle.rm_model.specs.ControlRows.{is_absent, is_valid}
use Rattle.rm_model.specs.declared.row.State.{State}
use Rattle.rm_model.specs.declared.row.State.TheVariants.{Absent, UnderCreation, Valid}
use Rattle.rm_acts.specs.Alarms.{alarm_state, saturated}
use Rattle.rm_status.specs.declared.row.Row.{Row}
use Rattle.rm_status.specs.Rows.{row_in, state_seen}
use Rattle.rm_alarm.specs.declared.alarms.Alarms.{Alarms}
use Rattle.rm_alarm.specs.declared.row.AlarmRow.{AlarmRow}
use Rattle.rm_alarm.specs.ShownRow.{AreShown}
use Rattle.rm_alarm.specs.Standing.{Stands}
use Rattle.rm_alarm.proofs.Cells.{value_is}
use Rattle.rm_alarm.proofs.RowFacts.{state_is, columns}

module _ (alarms : Alarms) (settings : Counting) (journal : Journal) (stands : Stands alarms settings journal) (i : ℕ) (valid : is_valid (alarm_state journal i) ≡ true) where
  -- a valid alarm has a row
  pub some_row : ◌≡◌ {A = Option (Row AlarmRow)} None (row_in alarms.rows i) → ⊥
  some_row none =
      let absent : Absent ≡ alarm_state journal i = ap state_seen none ∙ stands.rows.alike.states i in
      let never = ap is_valid absent ∙ valid in
      cc

  there : (state : State) → is_valid state ≡ true → is_absent state ≡ false
  there Valid h = refl
  there UnderCreation h = refl
  there Absent h = absurd (cc)

  variable_name : (variable : Option (List ℕ)) → name (unwrap_or variable (0 ∷ 0 ∷ [])) ≡ unwrap_or (option_map name variable) (name (0 ∷ 0 ∷ []))
  variable_name None = refl
  variable_name (Some numbers) = refl

  pub row_shown : (row : Row AlarmRow) → row_in alarms.rows i ≡ Some row → AreShown settings journal i row.columns
  row_shown row here =
      let state = state_is alarms.rows journal stands.rows i row here in
      let same = columns alarms.rows journal stands.rows i row here (ap is_absent state ∙ there (alarm_state journal i) valid) in
      record {
        variable = sym (variable_name row.columns.variable ∙ same.1.0.shown);
        sample_type = sym same.1.1.0.shown;
        value = ap (λ v. int (saturated v)) (sym (value_is settings journal i row.state row.columns row.columns.course state (stands.kept i row here)));
        rising = sym same.1.1.1.1.0.shown;
        falling = sym same.1.1.1.1.1.0.shown;
        rising_event = sym same.1.1.1.1.1.1.0.shown;
        falling_event = sym same.1.1.1.1.1.1.1.0.shown;
      }
