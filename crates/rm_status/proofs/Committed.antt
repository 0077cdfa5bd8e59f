-- A Set with which nothing is wrong, and what it makes of the rows that are held.
use Rattle.std.proofs.Common.{◌^◌, ◌≡◌, ℕ, List, ◌∷◌, Some, option_map, sym, ap, ◌∙◌}
use Rattle.std.specs.Prelude.{unwrap_or}
use Rattle.rm_val.specs.Val.{Val}
use Rattle.rm_model.specs.Journal.{Assignments, Journal, assigns, value_given}
use Rattle.rm_model.specs.ControlTable.{row_index}
use Rattle.rm_model.specs.ControlRows.{Beginning, set_ask, next_state, is_valid, state_of}
use Rattle.rm_model.specs.Judgement.{Bindings, count_below}
use Rattle.rm_model.specs.Reserves.{count_valid, count_valid_after}
use Rattle.rm_model.specs.declared.row.State.{State}
use Rattle.rm_columns.specs.RowForm.{RowForm}
use Rattle.rm_status.specs.declared.row.Row.{Row}
use Rattle.rm_status.specs.Rows.{number_in, row_in, rows_before, state_in, state_seen, columns_seen, AreControlRows}
use Rattle.rm_status.specs.Change.{changed_row}
use Rattle.rm_status.specs.Commit.{put_all, row_after}
use Rattle.rm_status.specs.RowsAfter.{AreRowsAfter}
use Rattle.rm_status.specs.Fine.{AreFine}
use Rattle.rm_status.proofs.Bares.{state_then}
use Rattle.rm_status.proofs.Puts.{all_fine}
use Rattle.rm_status.proofs.RowsBefore.{number_at, state_before}
use Rattle.rm_status.proofs.RowsAfterLemmas.{rows_assigns, rows_changed, all_leave, is_after}

-- The rows are those after a journal, nothing is wrong with a Set of these bindings, and the new rows are those that it makes of them.
pub record IsCommitted {C : Type 0} (form : RowForm C) (beginning : Beginning) (journal : Journal) (values : Assignments) (bs : Bindings) (rows new : List (Row C)) : Type 0 where
  pub gives : (name : List ℕ) → value_given values name ≡ value_given bs name
  pub fine : AreFine form rows bs
  pub held : AreControlRows form.table rows
  pub stood : AreRowsAfter form.table beginning form.set_to rows journal
  pub after : (i : ℕ) → row_in new i ≡ row_after form.table form.with_column form.blank bs i (row_in rows i)

module _ {C : Type 0} (form : RowForm C) {beginning : Beginning} {journal : Journal} {values : Assignments} {bs : Bindings} {rows new : List (Row C)} (set : IsCommitted form beginning journal values bs rows new) where
  module _ (moment : ℕ) where
    -- the new rows are those after the journal with the Set
    pub rows_committed : AreRowsAfter form.table beginning form.set_to new (assigns moment values ∷ journal)
    rows_committed =
        rows_assigns form.table beginning form.set_to form.with_column form.blank form.set_with form.blank_alike form.sound journal moment bs values set.gives (all_fine form.table bs set.fine.alone) rows new set.held set.stood set.after

    -- so are they once their other data has changed
    pub changed_committed : (change : ℕ → State → C → C) → ((index : ℕ) (state : State) (columns : C) (n : ℕ) → form.set_to (change index state columns) n ≡ form.set_to columns n)
        → (changed : List (Row C)) → ((i : ℕ) → row_in changed i ≡ option_map (changed_row change) (row_in new i)) → AreRowsAfter form.table beginning form.set_to changed (assigns moment values ∷ journal)
    changed_committed change keeps changed are = rows_changed form.table beginning form.set_to change keeps new changed are (assigns moment values ∷ journal) rows_committed

    -- a row is in the state of the journal with the Set
    pub state_committed : (i : ℕ) (row : Row C) → row_in new i ≡ Some row → row.state ≡ state_of form.table beginning (assigns moment values ∷ journal) (row_index form.table i)
    state_committed i row here = ap state_seen (sym here) ∙ sym (state_before form.table form.set_to new i) ∙ rows_committed.alike.states i

  module _ (i : ℕ) (row : Row C) (here : row_in new i ≡ Some row) where
    -- a row has its next state and the bindings in its columns
    pub row_committed : (row.state ≡ next_state (set_ask form.table bs (row_index form.table i)) (state_seen (row_in rows i))) × (row.columns ≡ put_all form.table form.with_column form.blank bs i (unwrap_or (columns_seen (row_in rows i)) (form.blank i)))
    row_committed = is_after form.table form.with_column form.blank bs i (row_in rows i) row (sym (set.after i) ∙ here)

    -- and its other data, which no column changes
    pub other_left : {D : Type 0} (other : C → D) → ((c : C) (n : ℕ) (v : Val) → other (form.with_column c n v) ≡ other c) → other row.columns ≡ other (unwrap_or (columns_seen (row_in rows i)) (form.blank i))
    other_left other leaves = ap other row_committed.1 ∙ all_leave form.table form.with_column form.blank other leaves bs i (unwrap_or (columns_seen (row_in rows i)) (form.blank i))

-- as many rows are valid after a Set as it says
pub count_then : {C : Type 0} (form : RowForm C) (bs : Bindings) (rows new : List (Row C)) → ((i : ℕ) → row_in new i ≡ row_after form.table form.with_column form.blank bs i (row_in rows i))
    → count_valid form.table (rows_before form.table form.set_to new) ≡ count_valid_after form.table (rows_before form.table form.set_to rows) bs
count_then form bs rows new after = ap (λ p. count_below p (2 ^ 32)) (λ d row. (ap is_valid (of_row row)) d)
  where
    of_row : (row : ℕ) → state_in new (number_in form.table (row_index form.table row)) ≡ next_state (set_ask form.table bs (row_index form.table row)) (state_in rows (number_in form.table (row_index form.table row)))
    of_row row =
        let n = number_in form.table (row_index form.table row) in
        ap state_seen (after n) ∙ state_then form.table form.with_column form.blank bs n (row_in rows n)
        ∙ ap (λ (k : ℕ). next_state (set_ask form.table bs (row_index form.table k)) (state_in rows n)) (number_at form.table row)
