-- The alarms after a change of what they remember.
use Rattle.std.proofs.Common.{◌≡◌, ℕ, ◌<◌, List, [], ◌∷◌, length, Option, Some, None, refl, sym, ap, subst, ◌∙◌, option_map, arith}
use Rattle.std.specs.Prelude.{unwrap_or}
use Rattle.std.specs.Option.{option_or}
use Rattle.rm_val.specs.Val.{Val, name}
use Rattle.rm_val.specs.Spellable.{IsSpellable, HasSpelling}
use Rattle.rm_model.specs.Counting.{Counting}
use Rattle.rm_model.specs.Journal.{Journal, value_given}
use Rattle.rm_model.specs.ControlRows.{cell_name}
use Rattle.rm_model.specs.Judgement.{Bindings, first_pass}
use Rattle.rm_acts.specs.Alarms.{alarm_entry, alarm_table}
use Rattle.rm_model.specs.declared.row.State.{State}
use Rattle.rm_model.specs.declared.row.State.TheVariants.{Absent, UnderCreation, Valid}
use Rattle.rm_status.specs.declared.row.Row.{Row}
use Rattle.rm_status.specs.Rows.{row_in, columns_seen}
use Rattle.rm_status.specs.Change.{changed_row}
use Rattle.rm_status.specs.Commit.{put_all, row_after}
use Rattle.rm_status.proofs.Puts.{all_fine, set_in_all}
use Rattle.rm_status.proofs.RowsAfterLemmas.{was_there}
use Rattle.rm_status.proofs.Bound.{bound_at}
use Rattle.rm_alarm.specs.declared.course.Course.{Course}
use Rattle.rm_alarm.specs.declared.thresholds.Thresholds.{Thresholds}
use Rattle.rm_alarm.specs.declared.row.AlarmRow.{AlarmRow}
use Rattle.rm_alarm.specs.Kept.{Keeps}
use Rattle.rm_alarm.specs.Group.{AreSpelledValues}
use Rattle.rm_alarm.specs.Rows.{set_to, with_column, blank_row, new_row, settled, variable_kept}
use Rattle.rm_alarm.specs.RowForm.{alarm_rows}
use Rattle.rm_alarm.specs.Spelled.{AreSpelled}
use Rattle.rm_alarm.specs.Standing.{IsKept, AreKept}
use Rattle.rm_alarm.proofs.AfterSets.{there_is}
use Rattle.rm_alarm.proofs.Samples.{Based}

in_some : {A : Type 0} (x y : A) → Some x ≡ Some y → x ≡ y
in_some x y e = cc

kept_same : (settings : Counting) (journal : Journal) (i : ℕ) (s : State) (row other : AlarmRow) (o : Option Course) → other.thresholds ≡ row.thresholds → IsKept settings journal i s row o → IsKept settings journal i s other o
kept_same settings journal i Valid row other (Some course) same k = record { due = k.due; keeps = subst (λ (t : Thresholds). Keeps course.hysteresis t (Rattle.rm_acts.specs.Alarms.sample_values settings journal i)) (sym same) k.keeps }
kept_same settings journal i Valid row other None same k = k
kept_same settings journal i UnderCreation row other o same k = k
kept_same settings journal i Absent row other o same k = k

-- a change that leaves what columns were set to and what is kept of samples
module _ (change : ℕ → State → AlarmRow → AlarmRow) (sets : (index : ℕ) (state : State) (row : AlarmRow) (n : ℕ) → set_to (change index state row) n ≡ set_to row n)
    (thresholds : (index : ℕ) (state : State) (row : AlarmRow) → (change index state row).thresholds ≡ row.thresholds)
    (courses : (index : ℕ) (state : State) (row : AlarmRow) → (change index state row).course ≡ row.course)
    (rows new : List (Row AlarmRow)) (changed : (i : ℕ) → row_in new i ≡ option_map (changed_row change) (row_in rows i)) where
  pub kept_changed : (settings : Counting) (journal : Journal) → AreKept rows settings journal → AreKept new settings journal
  kept_changed settings journal kept i row here =
      let got = was_there (changed_row change) (row_in rows i) row (sym (changed i) ∙ here) in
      subst (λ (r : Row AlarmRow). IsKept settings journal i r.state r.columns r.columns.course) got.2
      (kept_same settings journal i got.0.state got.0.columns (change got.0.index got.0.state got.0.columns) (change got.0.index got.0.state got.0.columns).course (thresholds got.0.index got.0.state got.0.columns)
      (subst (IsKept settings journal i got.0.state got.0.columns) (sym (courses got.0.index got.0.state got.0.columns)) (kept i got.0 got.1)))

  pub based_changed : (settings : Counting) (journal : Journal) → Based rows settings journal → Based new settings journal
  based_changed settings journal based i row course here has =
      let got = was_there (changed_row change) (row_in rows i) row (sym (changed i) ∙ here) in
      based i got.0 course got.1 (sym (courses got.0.index got.0.state got.0.columns) ∙ ap (λ (r : Row AlarmRow). r.columns.course) got.2 ∙ has)

-- A variable that a Set gives has a spelling.

given_spelled : (bs : Bindings) (n : List ℕ) (v : Val) → AreSpelledValues bs → value_given bs n ≡ Some v → HasSpelling v
given_spelled bs n v spelled e = let (k, at) = bound_at bs n v e in subst HasSpelling at.given (spelled k at.within)

spelled_by : (given : Option Val) (var x : Option (List ℕ)) → option_map name var ≡ option_or given (option_map name x) → ((v : Val) → given ≡ Some v → HasSpelling v) → IsSpellable (unwrap_or x (0 ∷ 0 ∷ [])) → IsSpellable (unwrap_or var (0 ∷ 0 ∷ []))
spelled_by None None None e spelled is = is
spelled_by None None (Some m) e spelled is = absurd (cc)
spelled_by None (Some n) None e spelled is = absurd (cc)
spelled_by None (Some n) (Some m) e spelled is = let same : n ≡ m = cc in subst IsSpellable (sym same) is
spelled_by (Some v) None x e spelled is = absurd (cc)
spelled_by (Some v) (Some n) x e spelled is = subst HasSpelling (sym (in_some (name n) v e)) (spelled v refl)

blank_spelled : IsSpellable (0 ∷ 0 ∷ [])
blank_spelled = (omega arith, λ _. omega arith, omega arith)

module _ (now : ℕ) (bs : Bindings) (alone : (k : ℕ) → k < length bs → first_pass alarm_table bs k ≡ None) (values : AreSpelledValues bs)
    (rows middle new : List (Row AlarmRow))
    (after : (i : ℕ) → row_in middle i ≡ row_after alarm_table with_column new_row bs i (row_in rows i))
    (settles : (i : ℕ) → row_in new i ≡ option_map (changed_row (λ index state row. settled now state row)) (row_in middle i)) where
  settled_variable : (s : State) (row : AlarmRow) → (settled now s row).variable ≡ row.variable
  settled_variable Valid row = refl
  settled_variable UnderCreation row = refl
  settled_variable Absent row = refl

  old_spelled : AreSpelled rows → (i : ℕ) (o : Option (Row AlarmRow)) → row_in rows i ≡ o → IsSpellable (variable_kept (unwrap_or (columns_seen o) blank_row))
  old_spelled spelled i None e = blank_spelled
  old_spelled spelled i (Some r) e = spelled i r e

  pub spelled_set : AreSpelled rows → AreSpelled new
  spelled_set spelled i row here =
      let got = was_there (changed_row (λ index state row. settled now state row)) (row_in middle i) row (sym (settles i) ∙ here) in
      let made = there_is _ got.0 (sym (after i) ∙ got.1) in
      let old : AlarmRow = unwrap_or (columns_seen (row_in rows i)) blank_row in
      let put : AlarmRow = put_all alarm_table with_column new_row bs i old in
      let variable : put.variable ≡ row.columns.variable =
      ap (λ (r : Row AlarmRow). r.columns.variable) made ∙ sym (settled_variable got.0.state got.0.columns) ∙ ap (λ (r : Row AlarmRow). r.columns.variable) got.2 in
      subst (λ (v : Option (List ℕ)). IsSpellable (unwrap_or v (0 ∷ 0 ∷ []))) variable
      (spelled_by (value_given bs (cell_name alarm_entry 3 (i ∷ []))) put.variable old.variable
      (set_in_all alarm_table with_column new_row set_to alarm_rows.set_with bs i 3 old refl (all_fine alarm_table bs alone))
      (λ v e. given_spelled bs (cell_name alarm_entry 3 (i ∷ [])) v values e)
      (old_spelled spelled i (row_in rows i) refl))
