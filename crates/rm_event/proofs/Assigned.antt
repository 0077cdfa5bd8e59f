-- What is kept of events after a Set with which nothing is wrong.
use Rattle.std.proofs.Common.{◌≡◌, ℕ, List, [], ◌∷◌, Bool, true, false, cond, Option, Some, None, refl, sym, ap, subst, ◌∙◌}
use Rattle.std.specs.Prelude.{is_some}
use Rattle.std.proofs.lemmas.Bool.{and_parts}
use Rattle.rm_model.specs.Counting.{Counting}
use Rattle.rm_model.specs.Journal.{Assignments, Journal, assigns}
use Rattle.rm_model.specs.ControlRows.{no_rows, cell_name, value_ask, set_ask, next_state, is_valid, stays_valid}
use Rattle.rm_model.specs.Judgement.{Bindings}
use Rattle.rm_model.specs.declared.row.State.TheVariants.{Valid}
use Rattle.rm_status.specs.declared.row.Row.{Row}
use Rattle.rm_status.specs.Rows.{state_in}
use Rattle.rm_status.specs.RowsAfter.{AreRowsAfter}
use Rattle.rm_status.proofs.RowFacts.{valid_is}
use Rattle.rm_status.proofs.RowsAfterLemmas.{not_first}
use Rattle.rm_status.proofs.Committed.{IsCommitted, rows_committed}
use Rattle.rm_status.proofs.RowsThen.{column_stays}
use Rattle.rm_event.specs.declared.log.Log.{Log}
use Rattle.rm_pool.specs.declared.slot.Slot.{Slot}
use Rattle.rm_event.specs.EventType.{type_in}
use Rattle.rm_event.specs.EventTable.{event_table, event_state, type_of}
use Rattle.rm_event.specs.declared.event_row.EventRow.{EventRow}
use Rattle.rm_event.specs.EventRows.{set_to, event_rows}
use Rattle.rm_acts.specs.Fired.{firings}
use Rattle.rm_event.specs.Log.{IsLog}
use Rattle.rm_event.specs.Log.{IsNew}
use Rattle.rm_pool.specs.Slots.{part_in, has_part}
use Rattle.rm_pool.specs.Pools.{valid_in, IsOfValid, IsThere}
use Rattle.rm_event.specs.Standing.{IsLogOf, AreLogs}
use Rattle.rm_pool.proofs.Spares.{not_there}

module _ (settings : Counting) (journal : Journal) (moment : ℕ) (bs : Bindings) (values : Assignments) (rows new : List (Row EventRow))
    (set : IsCommitted event_rows no_rows journal values bs rows new) where
  abbrev with_set : Journal
  with_set = assigns moment values ∷ journal

  pub rows_with_set : AreRowsAfter event_table no_rows set_to new with_set
  rows_with_set = rows_committed event_rows set moment

  module _ (logs logs_new : List (Slot Log)) (of_valid : IsOfValid logs rows) (of_valid_new : IsOfValid logs_new new)
      (stays : (row : ℕ) → valid_in new row ≡ true → has_part logs row ≡ true → part_in logs_new row ≡ part_in logs row)
      (begun : (row : ℕ) → valid_in new row ≡ true → part_in logs row ≡ None → IsThere IsNew (part_in logs_new row))
      (are : AreLogs logs journal (firings settings journal)) (event : ℕ) where
    abbrev place : List ℕ
    place = event ∷ []

    abbrev IsIt : Option Log → Type 0
    IsIt o = IsLogOf (event_state with_set place) (type_of with_set event) (firings settings with_set event) o

    was : state_in rows event ≡ event_state journal place
    was = set.stood.alike.states event

    now : state_in new event ≡ event_state with_set place
    now = rows_with_set.alike.states event

    -- the type of an event that stays valid is as it was
    same_type : is_valid (event_state journal place) ≡ true → is_valid (event_state with_set place) ≡ true → type_of with_set event ≡ type_of journal event
    same_type old valid =
        let asked : set_ask event_table values place ≡ set_ask event_table bs place = ap (value_ask event_table.status_kind) (set.gives (cell_name event_table.entry event_table.status place)) in
        let remains : is_valid (next_state (set_ask event_table bs place) Valid) ≡ true =
        ap (λ s. is_valid (next_state (set_ask event_table bs place) s)) (sym (valid_is (event_state journal place) old)) ∙ ap (λ a. is_valid (next_state a (event_state journal place))) (sym asked) ∙ valid in
        ap type_in (column_stays event_table no_rows set_to journal moment bs values set.gives rows set.fine.together set.stood event 3 refl refl old remains)

    -- one that stays valid
    goes_on : stays_valid event_table no_rows (assigns moment values) journal place ≡ true → (o : Option Log) → part_in logs event ≡ o → IsLogOf (event_state journal place) (type_of journal event) (firings settings journal event) o → IsIt (part_in logs_new event)
    goes_on remains None here idle =
        let old : is_valid (event_state journal place) ≡ true = (and_parts (is_valid (event_state journal place)) (is_valid (event_state with_set place)) remains).0 in
        let no : ◌≡◌ {A = Bool} true false = sym old ∙ idle in
        absurd (cc)
    goes_on remains (Some log) here held_log =
        let each = and_parts (is_valid (event_state journal place)) (is_valid (event_state with_set place)) remains in
        let right : valid_in new event ≡ true = ap is_valid now ∙ each.1 in
        let same : firings settings journal event ≡ firings settings with_set event = sym (ap (λ b. cond b (firings settings journal event) []) remains) in
        subst IsIt (sym (stays event right (ap is_some here) ∙ here))
        (each.1, subst (λ k. IsLog log k (firings settings with_set event)) (sym (same_type each.0 each.1)) (subst (IsLog log (type_of journal event)) same held_log.1))

    -- one that becomes valid
    starts : stays_valid event_table no_rows (assigns moment values) journal place ≡ false → is_valid (event_state with_set place) ≡ true → IsIt (part_in logs_new event)
    starts begins valid =
        let old : is_valid (event_state journal place) ≡ false = not_first (is_valid (event_state journal place)) (is_valid (event_state with_set place)) valid begins in
        let none : part_in logs event ≡ None = not_there (part_in logs event) (of_valid event ∙ ap is_valid was ∙ old) in
        let fresh = begun event (ap is_valid now ∙ valid) none in
        let nothing : [] ≡ firings settings with_set event = sym (ap (λ b. cond b (firings settings journal event) []) begins) in
        of_new (part_in logs_new event) fresh nothing
      where
        of_new : (o : Option Log) → IsThere IsNew o → [] ≡ firings settings with_set event → IsIt o
        of_new None fresh nothing = absurd fresh
        of_new (Some log) fresh nothing = (valid, subst (IsLog log (type_of with_set event)) nothing (fresh (type_of with_set event)))

    -- one that isn't valid
    rests : is_valid (event_state with_set place) ≡ false → IsIt (part_in logs_new event)
    rests idle =
        let none : part_in logs_new event ≡ None = not_there (part_in logs_new event) (of_valid_new event ∙ ap is_valid now ∙ idle) in
        subst IsIt (sym none) idle

    pub logs_with_set : IsIt (part_in logs_new event)
    logs_with_set = elim (stays_valid event_table no_rows (assigns moment values) journal place) as (λ t. stays_valid event_table no_rows (assigns moment values) journal place ≡ t → IsIt (part_in logs_new event)) [
      | true ↦ λ remains. goes_on remains (part_in logs event) refl (are event)
      | false ↦ λ begins. elim (is_valid (event_state with_set place)) as (λ t. is_valid (event_state with_set place) ≡ t → IsIt (part_in logs_new event)) [
        | true ↦ λ valid. starts begins valid
        | false ↦ λ idle. rests idle
      ] refl
    ] refl
