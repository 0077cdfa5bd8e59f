-- What a firing makes of the channels that are kept.
use Rattle.std.proofs.Common.{◌≡◌, ℕ, List, [], ◌∷◌, ◌++◌, Bool, true, false, cond, ◌&&◌, nat_eq, Option, Some, refl, sym, ap, subst, ◌∙◌, option_map}
use Rattle.std.specs.Prelude.{unwrap_or}
use Rattle.std.specs.Option.{option_and_then}
use Rattle.rm_val.specs.Val.{Val}
use Rattle.rm_val.specs.Contents.{natural_in}
use Rattle.rm_model.specs.Counting.{Counting}
use Rattle.rm_model.specs.Journal.{Act, Journal}
use Rattle.rm_model.specs.ControlTable.{default_of}
use Rattle.rm_model.specs.ControlRows.{no_rows, is_absent, is_valid}
use Rattle.rm_status.specs.declared.row.Row.{Row}
use Rattle.rm_status.specs.Rows.{row_in, state_in, columns_in, state_seen, columns_seen}
use Rattle.rm_status.specs.Change.{changed_row}
use Rattle.rm_status.specs.RowsAfter.{AreRowsAfter}
use Rattle.rm_status.proofs.RowFacts.{valid_there}
use Rattle.rm_status.proofs.RowsAfterLemmas.{rows_changed, was_there}
use Rattle.rm_acts.specs.declared.firing.Firing.{Firing}
use Rattle.rm_acts.specs.Rows.{has_valid}
use Rattle.rm_acts.specs.Channels.{channel_table, turn_on_event, turn_off_event, event_of}
use Rattle.rm_acts.specs.Fired.{Fired, data_control, event_status, switched, spent, is_by}
use Rattle.rm_acts.proofs.TurnedLaws.{present_more}
use Rattle.rm_filter.specs.declared.channel.Channel.{Channel}
use Rattle.rm_filter.specs.declared.channel_row.ChannelRow.{ChannelRow}
use Rattle.rm_filter.specs.declared.data_control.DataControl.{DataControl}
use Rattle.rm_filter.specs.declared.data_control.DataControl.TheVariants.{On, Off}
use Rattle.rm_filter.specs.declared.event_status.EventStatus.{EventStatus}
use Rattle.rm_filter.specs.declared.event_status.EventStatus.TheVariants as status
use Rattle.rm_filter.specs.ChannelForm.{set_to}
use Rattle.rm_filter.specs.DataControl.{control_number}
use Rattle.rm_filter.specs.EventStatus.{status_number}
use Rattle.rm_filter.specs.Changes.{turned, status_after, taking}
use Rattle.rm_filter.specs.Tables.{IsPresent, ArePresent}
use Rattle.rm_filter.proofs.JudgeLemmas.{index_is}

-- the events of a channel, by what its columns were set to
module _ (rows : List (Row Channel)) (journal : Journal) (is : AreRowsAfter channel_table no_rows set_to rows journal) (i : ℕ) (row : Row Channel) (here : row_in rows i ≡ Some row) (valid : is_valid row.state ≡ true) where
  is_there : is_absent (state_in rows i) ≡ false
  is_there = ap (λ o. is_absent (state_seen o)) here ∙ valid_there row.state valid

  has : columns_in rows i ≡ Some row.columns
  has = ap columns_seen here

  abbrev shows : ℕ → Option Channel → Val
  shows n o = unwrap_or (option_and_then (λ c. set_to c n) o) (default_of channel_table n)

  pub on_event : row.columns.set.turn_on_event ≡ turn_on_event journal i
  on_event = ap natural_in (ap (shows 5) (sym has) ∙ (is.alike.columns i is_there).1.1.1.0.shown)

  pub off_event : row.columns.set.turn_off_event ≡ turn_off_event journal i
  off_event = ap natural_in (ap (shows 6) (sym has) ∙ (is.alike.columns i is_there).1.1.1.1.0.shown)

  pub own_event : row.columns.set.event ≡ event_of journal i
  own_event = ap natural_in (ap (shows 7) (sym has) ∙ (is.alike.columns i is_there).1.1.1.1.1.0.shown)

-- a channel that is turned, by whether it is valid, and whether the event is one that turns it on or off
abbrev switched_by : Bool → Bool → Bool → ℕ → ℕ
switched_by valid on off value = cond (valid && (nat_eq value 2 && on)) 1 (cond (valid && (nat_eq value 1 && off)) 2 value)

turned_is : (set : ChannelRow) (control : DataControl) (event : ℕ) → control_number (turned set control event) ≡ switched_by true (nat_eq event set.turn_on_event) (nat_eq event set.turn_off_event) (control_number control)
turned_is set Off event = elim (nat_eq event set.turn_on_event) as (λ t. control_number (cond t On Off) ≡ cond t 1 2) [ true ↦ refl | false ↦ refl ]
turned_is set On event = elim (nat_eq event set.turn_off_event) as (λ t. control_number (cond t Off On) ≡ cond t 2 1) [ true ↦ refl | false ↦ refl ]

-- and one that is spent, by whether the firing is by it
spent_is : (by : Bool) (status : EventStatus) → status_number (status_after status by) ≡ cond (by && nat_eq (status_number status) 1) 2 (status_number status)
spent_is true status.Ready = refl
spent_is true status.Fired = refl
spent_is true status.AlwaysReady = refl
spent_is false status.Ready = refl
spent_is false status.Fired = refl
spent_is false status.AlwaysReady = refl

module _ (settings : Counting) (act : Act) (earlier : Journal) (some : List Firing) (before : Fired) (firing : Firing) (rows new : List (Row Channel))
    (changed : (i : ℕ) → row_in new i ≡ option_map (changed_row (taking firing)) (row_in rows i))
    (is : AreRowsAfter channel_table no_rows set_to rows earlier) (are : ArePresent rows settings (act ∷ earlier) (some ∷ before)) where
  pub rows_with_firing : AreRowsAfter channel_table no_rows set_to new earlier
  rows_with_firing = rows_changed channel_table no_rows set_to (taking firing) (λ index state channel n. refl) rows new changed earlier is

  module _ (i : ℕ) (row : Row Channel) (here : row_in rows i ≡ Some row) where
    valid_is : has_valid channel_table earlier i ≡ is_valid row.state
    valid_is = ap is_valid (sym (is.alike.states i) ∙ ap state_seen here)

    turns : (t : Bool) → is_valid row.state ≡ t
        → control_number (cond t (turned row.columns.set row.columns.control firing.event) row.columns.control) ≡ switched earlier i firing (control_number row.columns.control)
    turns true valid =
        turned_is row.columns.set row.columns.control firing.event
        ∙ ap (λ n. switched_by true (nat_eq firing.event n) (nat_eq firing.event row.columns.set.turn_off_event) (control_number row.columns.control)) (on_event rows earlier is i row here valid)
        ∙ ap (λ n. switched_by true (nat_eq firing.event (turn_on_event earlier i)) (nat_eq firing.event n) (control_number row.columns.control)) (off_event rows earlier is i row here valid)
        ∙ ap (λ b. switched_by b (nat_eq firing.event (turn_on_event earlier i)) (nat_eq firing.event (turn_off_event earlier i)) (control_number row.columns.control)) (sym (valid_is ∙ valid))
    turns false idle =
        ap (λ b. switched_by b (nat_eq firing.event (turn_on_event earlier i)) (nat_eq firing.event (turn_off_event earlier i)) (control_number row.columns.control)) (sym (valid_is ∙ idle))

    taken_is : IsPresent settings (act ∷ earlier) ((some ++ firing ∷ []) ∷ before) i (taking firing i row.state row.columns)
    taken_is = record {
      control = turns (is_valid row.state) refl ∙ ap (switched earlier i firing) (are i row here).control ∙ sym (present_more data_control act earlier some before firing i);
      status = spent_is (is_by i firing) row.columns.status ∙ ap (spent earlier i firing) (are i row here).status ∙ sym (present_more event_status act earlier some before firing i);
      matches = (are i row here).matches;
    }

  pub present_with_firing : ArePresent new settings (act ∷ earlier) ((some ++ firing ∷ []) ∷ before)
  present_with_firing i row here =
      let old = was_there (changed_row (taking firing)) (row_in rows i) row (sym (changed i) ∙ here) in
      let index : old.0.index ≡ i = index_is rows i old.0 old.1 in
      subst (λ (r : Row Channel). IsPresent settings (act ∷ earlier) ((some ++ firing ∷ []) ∷ before) i r.columns) (ap (λ n. record old.0 { columns = taking firing n old.0.state old.0.columns }) (sym index) ∙ old.2)
      (taken_is i old.0 old.1)
