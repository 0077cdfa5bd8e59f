-- What a Set makes of the channels that are kept.
use Rattle.std.proofs.Common.{◌≡◌, ℕ, ◌%◌, ◌^◌, List, [], ◌∷◌, Bool, true, false, cond, Option, Some, None, refl, sym, ap, subst, ◌∙◌, nat_eq, option_map}
use Rattle.std.specs.Prelude.{pos, unwrap_or}
use Rattle.std.specs.Option.{option_map_or, option_or}
use Rattle.rm_val.specs.Val.{Val, int}
use Rattle.rm_val.specs.Contents.{natural_in}
use Rattle.rm_model.specs.Counting.{Counting}
use Rattle.rm_model.specs.Journal.{Assignments, Journal, assigns, value_given}
use Rattle.rm_model.specs.ControlRows.{no_rows, cell_name, is_absent, is_valid, state_of, stays_valid}
use Rattle.rm_model.specs.Judgement.{Bindings, column_kind, value_fault}
use Rattle.rm_model.specs.declared.row.State.{State}
use Rattle.rm_model.specs.declared.row.State.TheVariants.{Absent}
use Rattle.rm_status.specs.declared.row.Row.{Row}
use Rattle.rm_status.specs.Rows.{row_in, state_seen, columns_seen}
use Rattle.rm_status.specs.Change.{changed_row}
use Rattle.rm_status.specs.RowsAfter.{AreRowsAfter}
use Rattle.rm_status.proofs.Committed.{IsCommitted, changed_committed, state_committed, row_committed, other_left}
use Rattle.rm_status.proofs.Puts.{all_fine, set_in_all}
use Rattle.rm_status.proofs.RowsAfterLemmas.{not_first, was_there}
use Rattle.rm_status.proofs.RowFacts.{row_there}
use Rattle.rm_acts.specs.Channels.{channel_entry, channel_table, match_count}
use Rattle.rm_acts.specs.Fired.{Turned, fired, present, unset, data_control, event_status}
use Rattle.rm_filter.specs.declared.channel.Channel.{Channel}
use Rattle.rm_filter.specs.ChannelForm.{set_to, blank_channel, new_channel, with_column, channel_form, present_row}
use Rattle.rm_filter.specs.ChannelRows as row
use Rattle.rm_filter.specs.Changes.{resting}
use Rattle.rm_filter.specs.DataControl.{control_number}
use Rattle.rm_filter.specs.EventStatus.{status_number}
use Rattle.rm_filter.specs.Tables.{IsPresent, ArePresent}
use Rattle.rm_filter.proofs.MatchCounts.{idle_count, begun_count, kept_count}

-- the columns with the present state are set as the others
abbrev shown : Channel → ℕ → Option Val
shown channel n = row.set_to (present_row channel) n

shown_with : (channel : Channel) (n m : ℕ) (v : Val) → value_fault (column_kind channel_table n) v ≡ None → shown (with_column channel n v) m ≡ cond (nat_eq n m) (Some v) (shown channel m)
shown_with channel n m v fine = row.channel_rows.set_with (present_row channel) n m v fine

-- a number that is what was given, or what it was
given_number : (given : Option Val) (new old : ℕ) → Some (int (pos new)) ≡ option_or given (Some (int (pos old))) → new ≡ option_map_or natural_in given old
given_number None new old is = ap (λ o. option_map_or natural_in o 0) is
given_number (Some v) new old is = ap (λ o. option_map_or natural_in o 0) is

module _ (settings : Counting) (journal : Journal) (moment : ℕ) (bs : Bindings) (values : Assignments) (rows middle new : List (Row Channel))
    (set : IsCommitted channel_form no_rows journal values bs rows middle)
    (rested : (i : ℕ) → row_in new i ≡ option_map (changed_row (λ index state channel. resting state channel)) (row_in middle i))
    (are : ArePresent rows settings journal (fired settings journal)) where
  abbrev with_set : Journal
  with_set = assigns moment values ∷ journal

  resting_keeps : (number : ℕ) (state : State) (channel : Channel) (n : ℕ) → set_to (resting state channel) n ≡ set_to channel n
  resting_keeps number state channel n = elim (is_valid state) as (λ b. set_to (cond b channel (record channel { matches = 0 })) n ≡ set_to channel n) [ true ↦ refl | false ↦ refl ]

  pub rows_with_set : AreRowsAfter channel_table no_rows set_to new with_set
  rows_with_set = changed_committed channel_form set moment (λ index state channel. resting state channel) resting_keeps new rested

  module _ (i : ℕ) (mid : Row Channel) (here : row_in middle i ≡ Some mid) where
    abbrev was : Option (Row Channel)
    was = row_in rows i

    abbrev old : Channel
    old = unwrap_or (columns_seen was) blank_channel

    abbrev absent : Bool
    absent = is_absent (state_of channel_table no_rows journal (i ∷ []))

    new_state : mid.state ≡ state_of channel_table no_rows with_set (i ∷ [])
    new_state = state_committed channel_form set moment i mid here

    -- what is present is what was given, or what it was
    set_number : (number : Channel → ℕ) (column : ℕ) → nat_eq 12 column ≡ false → ((c : Channel) → shown c column ≡ Some (int (pos (number c))))
        → number mid.columns ≡ option_map_or natural_in (value_given values (cell_name channel_entry column (i ∷ []))) (number old)
    set_number number column other is_shown =
        given_number (value_given values (cell_name channel_entry column (i ∷ []))) (number mid.columns) (number old)
        (sym (is_shown mid.columns)
        ∙ ap (λ c. shown c column) (row_committed channel_form set i mid here).1
        ∙ set_in_all channel_table with_column new_channel shown shown_with bs i column old other (all_fine channel_table bs set.fine.alone)
        ∙ ap (λ g. option_or g (shown old column)) (sym (set.gives (cell_name channel_entry column (i ∷ []))))
        ∙ ap (λ o. option_or (value_given values (cell_name channel_entry column (i ∷ []))) o) (is_shown old))

    -- what it was is the default where the row is made
    begins : (turned : Turned) (number : Channel → ℕ) → number blank_channel ≡ unset turned
        → ((r : Row Channel) → row_in rows i ≡ Some r → number r.columns ≡ present turned journal (fired settings journal) i)
        → number old ≡ cond absent (unset turned) (present turned journal (fired settings journal) i)
    begins turned number blank stood = by_row was refl
      where
        by_row : (o : Option (Row Channel)) → row_in rows i ≡ o → number (unwrap_or (columns_seen o) blank_channel) ≡ cond absent (unset turned) (present turned journal (fired settings journal) i)
        by_row None e =
            let none : is_absent Absent ≡ absent = ap (λ o. is_absent (state_seen o)) (sym e) ∙ ap is_absent (set.stood.alike.states i) in
            blank ∙ ap (λ b. cond b (unset turned) (present turned journal (fired settings journal) i)) none
        by_row (Some r) e =
            let there : absent ≡ false = ap is_absent (sym (set.stood.alike.states i)) ∙ ap (λ o. is_absent (state_seen o)) e ∙ row_there channel_table rows i r set.held e in
            stood r e ∙ ap (λ b. cond b (unset turned) (present turned journal (fired settings journal) i)) (sym there)

    control_is : control_number mid.columns.control ≡ present data_control with_set (fired settings with_set) i
    control_is =
        set_number (λ c. control_number c.control) 4 refl (λ c. refl)
        ∙ ap (λ n. option_map_or natural_in (value_given values (cell_name channel_entry 4 (i ∷ []))) n) (begins data_control (λ c. control_number c.control) refl (λ r e. (are i r e).control))

    status_is : status_number mid.columns.status ≡ present event_status with_set (fired settings with_set) i
    status_is =
        set_number (λ c. status_number c.status) 8 refl (λ c. refl)
        ∙ ap (λ n. option_map_or natural_in (value_given values (cell_name channel_entry 8 (i ∷ []))) n) (begins event_status (λ c. status_number c.status) refl (λ r e. (are i r e).status))

    matches_left : mid.columns.matches ≡ old.matches
    matches_left = other_left channel_form set i mid here (λ c. c.matches) (λ c n v. refl)

    old_matches : (o : Option (Row Channel)) → row_in rows i ≡ o → (unwrap_or (columns_seen o) blank_channel).matches ≡ match_count settings journal i % 2 ^ 32
    old_matches None e =
        let absent_is : Absent ≡ state_of channel_table no_rows journal (i ∷ []) = ap state_seen (sym e) ∙ set.stood.alike.states i in
        ap (λ n. n % 2 ^ 32) (sym (idle_count settings i journal (ap is_valid (sym absent_is))))
    old_matches (Some r) e = (are i r e).matches

    valid_matches : is_valid mid.state ≡ true → (b : Bool) → stays_valid channel_table no_rows (assigns moment values) journal (i ∷ []) ≡ b → mid.columns.matches ≡ match_count settings with_set i % 2 ^ 32
    valid_matches valid true stays =
        matches_left ∙ old_matches was refl ∙ ap (λ n. n % 2 ^ 32) (sym (kept_count settings i moment values journal stays))
    valid_matches valid false starts =
        let idle : is_valid (state_of channel_table no_rows journal (i ∷ [])) ≡ false = not_first (is_valid (state_of channel_table no_rows journal (i ∷ []))) (is_valid (state_of channel_table no_rows with_set (i ∷ []))) (sym (ap is_valid new_state) ∙ valid) starts in
        matches_left ∙ old_matches was refl
        ∙ ap (λ n. n % 2 ^ 32) (idle_count settings i journal idle ∙ sym (begun_count settings i (assigns moment values) journal starts))

    rested_is : (b : Bool) → is_valid mid.state ≡ b → IsPresent settings with_set (fired settings with_set) i (cond b mid.columns (record mid.columns { matches = 0 }))
    rested_is true valid = record {
      control = control_is;
      status = status_is;
      matches = valid_matches valid (stays_valid channel_table no_rows (assigns moment values) journal (i ∷ [])) refl;
    }
    rested_is false idle = record {
      control = control_is;
      status = status_is;
      matches = ap (λ n. n % 2 ^ 32) (sym (idle_count settings i with_set (ap is_valid (sym new_state) ∙ idle)));
    }

  pub present_with_set : ArePresent new settings with_set (fired settings with_set)
  present_with_set i row here =
      let mid = was_there (changed_row (λ index state channel. resting state channel)) (row_in middle i) row (sym (rested i) ∙ here) in
      subst (λ (r : Row Channel). IsPresent settings with_set (fired settings with_set) i r.columns) mid.2 (rested_is i mid.0 mid.1 (is_valid mid.0.state) refl)
