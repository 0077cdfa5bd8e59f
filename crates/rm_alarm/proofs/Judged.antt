-- Rows that are alike are judged alike by what their variables read.
use Rattle.std.proofs.Common.{◌≡◌, ℕ, [], ◌∷◌, Bool, false, cond, ◌&&◌, Option, Some, None, refl, ap, ◌∙◌, nat_eq, arith}
use Rattle.std.specs.Prelude.{is_none}
use Rattle.rm_val.specs.declared.error.ErrorStatus.{ErrorStatus}
use Rattle.rm_val.specs.declared.error.ErrorStatus.TheVariants.{InconsistentValue}
use Rattle.rm_model.specs.Journal.{value_given}
use Rattle.rm_model.specs.ControlTable.{default_of}
use Rattle.rm_model.specs.ControlRows.{Beginning, cell_name, is_absent}
use Rattle.rm_model.specs.declared.verdict.Verdict.{Verdict}
use Rattle.rm_model.specs.declared.verdict.Verdict.TheVariants.{Fine, Wrong}
use Rattle.rm_group.specs.Alone.{IsWithin}
use Rattle.rm_model.specs.Judgement.{Bindings, name_at, value_at, place_of, IsFirstFault}
use Rattle.rm_model.specs.Alike.{AreAlike}
use Rattle.rm_model.specs.Readings.{Readings}
use Rattle.rm_acts.specs.Alarms.{alarm_entry, alarm_table, name_of}
use Rattle.rm_model.specs.declared.place.Place.{Place}
use Rattle.rm_model.specs.declared.place.Place.TheVariants.{Outside, Entry, Column, Cell}
use Rattle.rm_model.specs.declared.row.State.{State}
use Rattle.rm_model.specs.declared.row.State.TheVariants.{Absent, UnderCreation, Valid}
use Rattle.rm_model.proofs.Alike.{with_given}
use Rattle.rm_alarm.specs.Group.{makes_valid, is_under_creation, variable_then, unread_fault, variable_fault}

there_alone : (s t : State) (u w : Bool) → s ≡ t → (is_absent s ≡ false → u ≡ w) → (is_under_creation s && u) ≡ (is_under_creation t && w)
there_alone Absent t u w e same = ap (λ x. is_under_creation x && w) e
there_alone UnderCreation t u w e same = same refl ∙ ap (λ x. is_under_creation x && w) e
there_alone Valid t u w e same = ap (λ x. is_under_creation x && w) e

module _ (readings : Readings) (rows others : Beginning) (alike : AreAlike alarm_table rows others) (bs : Bindings) where
  same_variable : (row : ℕ) → is_absent (rows.state (row ∷ [])) ≡ false → variable_then rows bs row ≡ variable_then others bs row
  same_variable row there =
      ap name_of (with_given (value_given bs (cell_name alarm_entry 3 (row ∷ []))) (rows.set (row ∷ []) 3) (others.set (row ∷ []) 3) (default_of alarm_table 3) (alike.columns row there).1.0.shown)

  unread : (row : ℕ) → (is_under_creation (rows.state (row ∷ [])) && is_none (readings (variable_then rows bs row))) ≡ (is_under_creation (others.state (row ∷ [])) && is_none (readings (variable_then others bs row)))
  unread row =
      there_alone (rows.state (row ∷ [])) (others.state (row ∷ [])) (is_none (readings (variable_then rows bs row))) (is_none (readings (variable_then others bs row))) (alike.states row)
      (λ there. ap (λ v. is_none (readings v)) (same_variable row there))

  pub variable_alike : (k : ℕ) → variable_fault readings rows bs k ≡ variable_fault readings others bs k
  variable_alike k = of_place (place_of alarm_table (name_at bs k))
    where
      of_place : (p : Place) → unread_fault readings rows bs (value_at bs k) p ≡ unread_fault readings others bs (value_at bs k) p
      of_place Outside = refl
      of_place Entry = refl
      of_place (Column c) = refl
      of_place (Cell c row) = ap (λ b. cond (nat_eq c 12 && (makes_valid (value_at bs k) && b)) (Some InconsistentValue) None) (unread row)

-- a verdict names one of the bindings that it is on
pub fault_within : (count : ℕ) (fault : ℕ → Option ErrorStatus) (verdict : Verdict) → IsFirstFault count fault verdict → IsWithin count verdict
fault_within count fault Fine is = tt
fault_within count fault (Wrong status index) (place, within, numbered, here, before) = omega (arith, within, numbered)
