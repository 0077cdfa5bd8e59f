-- A report runs for as many seconds as TimeRemaining was set to last.
use Rattle.std.proofs.Common.{◌≡◌, ℕ, Bool, true, false, cond, [], ◌∷◌, refl, sym, ap, ◌∙◌, Option, Some, None}
use Rattle.std.specs.Prelude.{is_some, not, nat_eq, unwrap_or}
use Rattle.std.specs.Option.{option_or}
use Rattle.rm_val.specs.Val.{Val}
use Rattle.rm_columns.specs.Values.{natural_in}
use Rattle.rm_model.specs.Journal.{Act, Journal, passes, assigns, samples, value_given}
use Rattle.rm_model.specs.ControlTable.{default_of}
use Rattle.rm_model.specs.ControlRows.{cell_name, is_absent, is_valid, no_rows, set_value}
use Rattle.rm_status.proofs.RowFacts.{valid_there}
use Rattle.rm_topn.specs.Control.{control_entry, control_state, seconds_set, top_control}
use Rattle.rm_topn.specs.StartLaws.{valid_start}
use Rattle.rm_topn.specs.Starts.{is_start, last_start}

-- an act after which a valid row has begun no report leaves what was set
module _ (row : ℕ) where
  none_given : (o : Option Val) → is_some o ≡ false → o ≡ None
  none_given None none = refl
  none_given (Some value) none = absurd (cc)

  stays_set : (act : Act) (earlier : Journal) → is_valid (control_state earlier row) ≡ true → is_start row act earlier ≡ false → seconds_set (act ∷ earlier) row ≡ seconds_set earlier row
  stays_set (passes frame) earlier valid none = refl
  stays_set (samples moment alarm reading) earlier valid none = refl
  stays_set (assigns moment values) earlier valid none =
      ap (λ o. natural_in (unwrap_or (option_or o (cond (is_absent (control_state earlier row)) (top_control.rules.first (row ∷ []) 4) (set_value top_control no_rows earlier (row ∷ []) 4))) (default_of top_control 4))) ungiven
      ∙ ap (λ t. natural_in (unwrap_or (cond t (top_control.rules.first (row ∷ []) 4) (set_value top_control no_rows earlier (row ∷ []) 4)) (default_of top_control 4))) (valid_there (control_state earlier row) valid)
    where
      given : Option Val
      given = value_given values (cell_name control_entry 4 (row ∷ []))

      ungiven : given ≡ None
      ungiven =
          none_given given
          (sym (ap (λ t. cond t (is_some given) (not (nat_eq (seconds_set (assigns moment values ∷ earlier) row) 0))) valid) ∙ none)

  -- by what holds of the acts before one
  module _ (act : Act) (earlier from : Journal) (before : last_start row earlier ≡ Some from → seconds_set from row ≡ seconds_set earlier row) where
    by_start : (t : Bool) → is_start row act earlier ≡ t → cond t (Some (act ∷ earlier)) (last_start row earlier) ≡ Some from → seconds_set from row ≡ seconds_set (act ∷ earlier) row
    by_start true begins is = let same : act ∷ earlier ≡ from = cc in ap (λ (journal : Journal). seconds_set journal row) (sym same)
    by_start false begins is = before is ∙ sym (stays_set act earlier (valid_start row earlier from is) begins)

    by_valid : (t : Bool) → cond t (cond (is_start row act earlier) (Some (act ∷ earlier)) (last_start row earlier)) None ≡ Some from → seconds_set from row ≡ seconds_set (act ∷ earlier) row
    by_valid true is = by_start (is_start row act earlier) refl is
    by_valid false is = absurd (cc)

  pub same_seconds : (journal from : Journal) → last_start row journal ≡ Some from → seconds_set from row ≡ seconds_set journal row
  same_seconds [] from start = absurd (cc)
  same_seconds (act ∷ earlier) from start = by_valid act earlier from (λ is. same_seconds earlier from is) (is_valid (control_state (act ∷ earlier) row)) start
