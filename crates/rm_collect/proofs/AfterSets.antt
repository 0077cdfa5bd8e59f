-- The rows of a control table, and what they have collected, after a Set with which nothing is wrong.
use Rattle.std.proofs.Common.{◌≡◌, ℕ, ◌<◌, ◌≤◌, List, [], ◌∷◌, length, Bool, true, false, cond, ◌&&◌, Option, Some, None, inl, inr, refl, sym, ◌∙◌, ap, subst}
use Rattle.std.specs.Prelude.{is_some}
use Rattle.std.specs.Option.{option_and_then}
use Rattle.std.proofs.lemmas.Bool.{and_from, and_left}
use Rattle.rm_val.specs.Val.{Val}
use Rattle.rm_model.specs.Alike.{HasSameColumns}
use Rattle.rm_model.specs.Counting.{Counting}
use Rattle.rm_model.specs.Journal.{Assignments, Journal, assigns, last_moment, value_given}
use Rattle.rm_model.specs.ControlTable.{row_index}
use Rattle.rm_model.specs.ControlRows.{no_rows, cell_name, value_ask, set_ask, next_state, is_absent, is_valid, state_of, set_value, stays_valid, activated}
use Rattle.rm_model.specs.Judgement.{Bindings, second_pass}
use Rattle.rm_model.specs.declared.row.State.TheVariants.{Valid}
use Rattle.rm_acts.specs.Seen.{with_act, seen_since}
use Rattle.rm_columns.specs.RowForm.{RowForm}
use Rattle.rm_status.specs.declared.row.Row.{Row}
use Rattle.rm_status.specs.Rows.{row_in, rows_before, state_seen, columns_seen, state_in}
use Rattle.rm_status.specs.RowsAfter.{AreRowsAfter}
use Rattle.rm_status.proofs.RowFacts.{valid_is, valid_there}
use Rattle.rm_status.proofs.RowsBefore.{state_before, set_before_at}
use Rattle.rm_status.proofs.RowsAfterLemmas.{since_starts, frames_kept}
use Rattle.rm_status.proofs.Committed.{IsCommitted, rows_committed}
use Rattle.rm_status.proofs.RowsThen.{column_stays}
use Rattle.rm_pool.specs.declared.slot.Slot.{Slot}
use Rattle.rm_pool.specs.Slots.{part_in, has_part}
use Rattle.rm_pool.specs.Pools.{valid_in, IsOfValid, IsThere, Allowed}
use Rattle.rm_collect.specs.Rows.{IsFresh, GoesOn, GoesOnOrSawNone, IsKept}
use Rattle.rm_collect.specs.Collection.{Collection, IsLawful, begun_by}
use Rattle.rm_collect.specs.Begun.{if_valid, valid_columns, IsBegun, Begins}
use Rattle.rm_collect.specs.WellHeld.{AllFit}
use Rattle.rm_collect.proofs.Becoming.{fit_later}

-- A row goes on that is valid before a Set with which nothing is wrong, and after it. One that isn't both has seen no frame after it.
module _ {C : Type 0} (form : RowForm C) (journal : Journal) (now : ℕ) (later : last_moment journal ≤ now) (bs : Bindings) (values : Assignments)
    (gives : (name : List ℕ) → value_given values name ≡ value_given bs name)
    (rows : List (Row C)) (together : (k : ℕ) → k < length bs → second_pass form.table (rows_before form.table form.set_to rows) bs k ≡ None)
    (stood : AreRowsAfter form.table no_rows form.set_to rows journal) (i : ℕ) where
  abbrev place : List ℕ
  place = row_index form.table i

  abbrev after : Journal
  after = assigns now values ∷ journal

  asked : is_valid (state_of form.table no_rows journal place) ≡ true → is_valid (state_of form.table no_rows after place) ≡ true → is_valid (next_state (set_ask form.table bs place) Valid) ≡ true
  asked old still =
      ap (λ s. is_valid (next_state (set_ask form.table bs place) s)) (sym (valid_is (state_of form.table no_rows journal place) old))
      ∙ ap (λ o. is_valid (next_state (value_ask form.table.status_kind o) (state_of form.table no_rows journal place))) (sym (gives (cell_name form.table.entry form.table.status place)))
      ∙ still

  pub goes_on_by : is_valid (state_of form.table no_rows journal place) ≡ true → is_valid (state_of form.table no_rows after place) ≡ true → GoesOn form.table i journal after
  goes_on_by old still =
      let stays : stays_valid form.table no_rows (assigns now values) journal place ≡ true = and_from (is_valid (state_of form.table no_rows journal place)) (is_valid (state_of form.table no_rows after place)) old still in
      record {
        set = λ column status fixed. column_stays form.table no_rows form.set_to journal now bs values gives rows together stood i column status fixed old (asked old still);
        started = ap (λ t. cond t (activated form.table no_rows journal place) (cond (is_valid (state_of form.table no_rows after place)) now 0)) stays;
        frames = frames_kept form.table no_rows now values journal place stays;
        seen = ap (λ t. cond t (seen_since form.table no_rows journal place) []) stays;
        moment = later;
      }

  pub goes_on_or_saw_none : GoesOnOrSawNone form.table i journal after
  goes_on_or_saw_none = by_states (is_valid (state_of form.table no_rows journal place)) (is_valid (state_of form.table no_rows after place)) refl refl
    where
      none : (before then : Bool) → is_valid (state_of form.table no_rows journal place) ≡ before → is_valid (state_of form.table no_rows after place) ≡ then → (before && then) ≡ false
          → seen_since form.table no_rows after place ≡ []
      none before then old still gone = ap (λ t. cond t (seen_since form.table no_rows journal place) []) (ap (λ b. b && is_valid (state_of form.table no_rows after place)) old ∙ ap (λ t. before && t) still ∙ gone)

      by_states : (before then : Bool) → is_valid (state_of form.table no_rows journal place) ≡ before → is_valid (state_of form.table no_rows after place) ≡ then → GoesOnOrSawNone form.table i journal after
      by_states true true old still = inl (goes_on_by old still)
      by_states true false old still = inr (none true false old still refl)
      by_states false true old still = inr (none false true old still refl)
      by_states false false old still = inr (none false false old still refl)

module _ {C : Type 0} (form : RowForm C) (journal : Journal) (now : ℕ) (bs : Bindings) (values : Assignments) (rows new : List (Row C)) (set : IsCommitted form no_rows journal values bs rows new) where
  abbrev with_set : Journal
  with_set = assigns now values ∷ journal

  pub rows_with_set : AreRowsAfter form.table no_rows form.set_to new with_set
  rows_with_set = rows_committed form set now

  module _ (i : ℕ) where
    abbrev index : List ℕ
    index = row_index form.table i

    pub new_state : state_in new i ≡ state_of form.table no_rows with_set index
    new_state = sym (state_before form.table form.set_to new i) ∙ rows_with_set.alike.states i

    -- a row that was valid and stays so
    module _ (later : last_moment journal ≤ now) (old : is_valid (state_of form.table no_rows journal index) ≡ true) (valid : valid_in new i ≡ true) where
      pub valid_now : state_of form.table no_rows with_set index ≡ Valid
      valid_now = valid_is (state_of form.table no_rows with_set index) (ap is_valid (sym new_state) ∙ valid)

      pub goes_on : GoesOn form.table i journal with_set
      goes_on = goes_on_by form journal now later bs values set.gives rows set.fine.together set.stood i old (ap is_valid valid_now)

    -- a row that becomes valid
    module _ (idle : is_valid (state_of form.table no_rows journal index) ≡ false) (row : Row C) (here : row_in new i ≡ Some row) (valid : is_valid row.state ≡ true) where
      pub valid_then : state_of form.table no_rows with_set index ≡ Valid
      valid_then = valid_is (state_of form.table no_rows with_set index) (ap is_valid (sym new_state) ∙ ap (λ o. is_valid (state_seen o)) here ∙ valid)

      starts : stays_valid form.table no_rows (assigns now values) journal index ≡ false
      starts = and_left (is_valid (state_of form.table no_rows journal index)) (is_valid (state_of form.table no_rows with_set index)) idle

      is_there : is_absent ((rows_before form.table form.set_to new).state index) ≡ false
      is_there = ap is_absent (state_before form.table form.set_to new i) ∙ ap (λ o. is_absent (state_seen o)) here ∙ valid_there row.state valid

      same_set : (rows_before form.table form.set_to new).set index ≡ form.set_to row.columns
      same_set = λ d column. (set_before_at form.table form.set_to new i column ∙ ap (λ o. option_and_then (λ c. form.set_to c column) (columns_seen o)) here) d

      pub is_fresh : IsFresh form row.columns with_set i
      is_fresh = record {
        columns_are = subst (λ (shown : ℕ → Option Val). HasSameColumns form.table shown (set_value form.table no_rows with_set index)) same_set (rows_with_set.alike.columns i is_there);
        started =
            ap (λ t. cond t (activated form.table no_rows journal index) (cond (is_valid (state_of form.table no_rows with_set index)) now 0)) starts
            ∙ ap (λ s. cond (is_valid s) now 0) valid_then;
        no_acts = since_starts form.table no_rows (assigns now values) journal index starts;
        unseen = ap (λ t. cond t (with_act (assigns now values) journal (seen_since form.table no_rows journal index)) []) starts;
      }

-- What becomes of what a row has collected.
module _ {C P S J : Type 0} (form : RowForm C) (collection : Collection C P S J) (laws : IsLawful form collection) (shared : S) (settings : Counting) (journal : Journal) (suits : collection.suits shared settings journal)
    (now : ℕ) (later : last_moment journal ≤ now) (bs : Bindings) (values : Assignments) (rows new : List (Row C)) (set : IsCommitted form no_rows journal values bs rows new) where
  abbrev kept_before : ℕ → Option P → Type 0
  kept_before = IsKept form.table collection.is_of settings journal

  abbrev kept_then : ℕ → Option P → Type 0
  kept_then = IsKept form.table (begun_by collection (assigns now values) journal) settings (assigns now values ∷ journal)

  module _ (i : ℕ) where
    stays_there : (part : P) → kept_before i (Some part) → valid_in new i ≡ true → kept_then i (Some part)
    stays_there part was valid =
        let old = ap is_valid was.0 in
        let still = valid_now form journal now bs values rows new set i later old valid in (
          still,
          laws.begun_going settings now values journal i part was.0 still (goes_on form journal now bs values rows new set i later old valid) was.1,
        )

    begins_there : (o : Option (Row C)) (n : Option P) → row_in new i ≡ o → is_valid (state_seen o) ≡ true → kept_before i None → IsThere (Begins form collection shared now (if_valid o)) n → kept_then i n
    begins_there None n e valid idle begun = absurd (cc)
    begins_there (Some row) None e valid idle begun = absurd begun
    begins_there (Some row) (Some part) e valid idle begun =
        let is : IsBegun form collection shared now row.columns part = subst (λ c. Begins form collection shared now c part) (ap (λ t. cond t (Some row.columns) None) valid) begun in
        let then = valid_then form journal now bs values rows new set i idle row e valid in
        (then, is.has_begun settings values journal i suits idle (ap is_valid then) (is_fresh form journal now bs values rows new set i idle row e valid))

    none_there : (n : Option P) → valid_in new i ≡ false → is_some n ≡ false → kept_then i n
    none_there None idle none = ap is_valid (sym (new_state form journal now bs values rows new set i)) ∙ idle
    none_there (Some part) idle none = absurd (cc)

    part_then : (o n : Option P) (t : Bool) → valid_in new i ≡ t → kept_before i o → is_some n ≡ t
        → (t ≡ true → is_some o ≡ true → n ≡ o) → (t ≡ true → o ≡ None → IsThere (Begins form collection shared now (valid_columns new i)) n) → kept_then i n
    part_then o n false e was held kept begun = none_there n e held
    part_then None n true e was held kept begun = begins_there (row_in new i) n refl e was (begun refl refl)
    part_then (Some part) n true e was held kept begun = subst (kept_then i) (sym (kept refl refl)) (stays_there part was e)

  pub parts_with_set : (parts then : List (Slot P)) → ((row : ℕ) → kept_before row (part_in parts row)) → IsOfValid then new
      → ((row : ℕ) → valid_in new row ≡ true → has_part parts row ≡ true → part_in then row ≡ part_in parts row)
      → ((row : ℕ) → valid_in new row ≡ true → part_in parts row ≡ None → IsThere (Begins form collection shared now (valid_columns new row)) (part_in then row))
      → (row : ℕ) → kept_then row (part_in then row)
  parts_with_set parts then are of_valid kept begun i =
      part_then i (part_in parts i) (part_in then i) (valid_in new i) refl (are i) (of_valid i) (kept i) (begun i)

-- Parts that have just begun fit, and those that fit at a moment fit later.
module _ {C P S J : Type 0} (form : RowForm C) (collection : Collection C P S J) (laws : IsLawful form collection) (shared : S) (last now frames : ℕ) (later : last ≤ now) where
  begun_fits : (row : Option (Row C)) (part : P) → is_valid (state_seen row) ≡ true → Begins form collection shared now (if_valid row) part → collection.fits now frames part
  begun_fits None part valid begun = absurd (cc)
  begun_fits (Some row) part valid begun =
      let is : IsBegun form collection shared now row.columns part = subst (λ c. Begins form collection shared now c part) (ap (λ t. cond t (Some row.columns) None) valid) begun in
      is.fits frames

  fit_at : (o n : Option P) (row : Option (Row C)) (t : Bool) → is_valid (state_seen row) ≡ t → is_some n ≡ t → Allowed (collection.fits last frames) o
      → (t ≡ true → is_some o ≡ true → n ≡ o) → (t ≡ true → o ≡ None → IsThere (Begins form collection shared now (if_valid row)) n) → Allowed (collection.fits now frames) n
  fit_at o None row t e held fit kept begun = tt
  fit_at o (Some part) row false e held fit kept begun = absurd (cc)
  fit_at None (Some part) row true e held fit kept begun = begun_fits row part e (begun refl refl)
  fit_at (Some old) (Some part) row true e held fit kept begun =
      subst (Allowed (collection.fits now frames)) (sym (kept refl refl)) (fit_later form collection laws last now frames later (Some old) fit)

  pub all_fit_then : (rows : List (Row C)) (parts then : List (Slot P)) → AllFit collection last frames parts → IsOfValid then rows
      → ((row : ℕ) → valid_in rows row ≡ true → has_part parts row ≡ true → part_in then row ≡ part_in parts row)
      → ((row : ℕ) → valid_in rows row ≡ true → part_in parts row ≡ None → IsThere (Begins form collection shared now (valid_columns rows row)) (part_in then row))
      → AllFit collection now frames then
  all_fit_then rows parts then fits of_valid kept begun row =
      fit_at (part_in parts row) (part_in then row) (row_in rows row) (valid_in rows row) refl (of_valid row) (fits row) (kept row) (begun row)
