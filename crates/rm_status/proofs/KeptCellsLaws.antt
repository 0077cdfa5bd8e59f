-- The cells of the rows that are held are those after the journal.
use Rattle.std.proofs.Common.{subst, ◌≡◌, ℕ, List, [], ◌∷◌, Bool, true, false, cond, Option, Some, None, refl, sym, ap, ◌∙◌, nat_eq, find}
use Rattle.std.specs.Prelude.{is_some, unwrap_or}
use Rattle.std.specs.List.{AllByRecursion}
use Rattle.std.specs.Option.{option_and_then}
use borrow.Author.Tests.{eqb-true}
use Rattle.rm_val.specs.Val.{Val, int}
use Rattle.rm_model.specs.Journal.{Journal}
use Rattle.rm_model.specs.Cells.{cells_of, cell_at, instance_of}
use Rattle.rm_model.specs.ControlTable.{row_index, Column, ControlTable, column_of, default_of}
use Rattle.rm_model.specs.ControlRows.{Beginning, is_absent, state_of, value_of}
use Rattle.rm_model.specs.ControlCells.{status_number, control_value, control_cells}
use Rattle.rm_model.specs.Alike.{IsSameColumn}
use Rattle.rm_model.specs.Judgement.{rows_after}
use Rattle.rm_model.specs.declared.instance.Instance.{Instance}
use Rattle.rm_status.specs.declared.row.Row.{Row}
use Rattle.rm_status.specs.Rows.{row_in, number_in, state_seen, columns_seen, AreControlRows, rows_before}
use Rattle.rm_status.specs.Indexes.{has_number, is_index_in}
use Rattle.rm_status.specs.RowsAfter.{AreRowsAfter}
use Rattle.rm_columns.specs.Field.{shows}
use Rattle.rm_status.specs.KeptCells.{kept_value, kept_cells}
use Rattle.rm_status.proofs.RowsBefore.{state_before, set_before_at}
use Rattle.rm_status.proofs.RowsAfterLemmas.{is_row_after}

-- a column that is among some which are the same in both shows the same in both
same_shown : (t : ControlTable) (set other : ℕ → Option Val) (n : ℕ) (some : List Column) → AllByRecursion (IsSameColumn t set other) some → is_some (find (λ c. nat_eq c.number n) some) ≡ true
    → unwrap_or (set n) (default_of t n) ≡ unwrap_or (other n) (default_of t n)
same_shown t set other n [] all is = absurd (cc)
same_shown t set other n (c ∷ some) all is =
    elim (nat_eq c.number n) as (λ b. nat_eq c.number n ≡ b → is_some (cond b (Some c) (find (λ x. nat_eq x.number n) some)) ≡ true → unwrap_or (set n) (default_of t n) ≡ unwrap_or (other n) (default_of t n)) [
      | true ↦ λ here _. let at : c.number ≡ n = eqb-true c.number n here in
          sym (ap (λ k. unwrap_or (set k) (default_of t k)) at) ∙ all.0.shown ∙ ap (λ k. unwrap_or (other k) (default_of t k)) at
      | false ↦ λ _ later. same_shown t set other n some all.1 later
    ] refl is

-- what a column shows of a row that there is
pub kept_at : {C : Type 0} (t : ControlTable) (set_to : C → ℕ → Option Val) (rows : List (Row C)) (index : List ℕ) (number : ℕ) (row : Row C) → t.indexing.number_of index ≡ Some number → row_in rows number ≡ Some row → (other : Val) (column : ℕ)
    → cond (is_index_in t rows index) (Some (kept_value t set_to (row_in rows (number_in t index)) other column)) None ≡ Some (control_value t row.state (shows t set_to row.columns) other column)
kept_at t set_to rows index number row named here other column =
    ap (λ o. cond (has_number rows o) (Some (kept_value t set_to (row_in rows (unwrap_or o 0)) other column)) None) named
    ∙ ap (λ o. cond (is_some o) (Some (kept_value t set_to o other column)) None) here

module _ {C : Type 0} (t : ControlTable) (beginning : Beginning) (set_to : C → ℕ → Option Val) (rows : List (Row C)) (held : AreControlRows t rows) (journal : Journal)
    (is : AreRowsAfter t beginning set_to rows journal) (columns : List ℕ) (others after : ℕ → List ℕ → Val)
    (there : (i : ℕ) (row : Row C) → row_in rows i ≡ Some row → is_absent row.state ≡ false)
    (same : (column i : ℕ) (row : Row C) → row_in rows i ≡ Some row → others column (row_index t i) ≡ after column (row_index t i)) where
  row_shows : (i : ℕ) (row : Row C) → row_in rows i ≡ Some row → (column : ℕ)
      → control_value t row.state (shows t set_to row.columns) (others column (row_index t i)) column
      ≡ control_value t (state_of t beginning journal (row_index t i)) (value_of t beginning journal (row_index t i)) (after column (row_index t i)) column
  row_shows i row here column = by_tests (nat_eq column t.status) (is_some (column_of t column)) refl
    where
      state_is : row.state ≡ state_of t beginning journal (row_index t i)
      state_is = sym (ap state_seen here) ∙ sym (state_before t set_to rows i) ∙ is.alike.states i

      set_is : is_some (column_of t column) ≡ true → shows t set_to row.columns column ≡ value_of t beginning journal (row_index t i) column
      set_is among =
          sym (ap (λ o. unwrap_or (option_and_then (λ c. set_to c column) (columns_seen o)) (default_of t column)) here)
          ∙ sym (ap (λ v. unwrap_or v (default_of t column)) (set_before_at t set_to rows i column))
          ∙ same_shown t ((rows_before t set_to rows).set (row_index t i)) ((rows_after t beginning journal).set (row_index t i)) column t.columns
          (is.alike.columns i (ap is_absent (state_before t set_to rows i) ∙ ap (λ o. is_absent (state_seen o)) here ∙ there i row here)) among

      by_tests : (s b : Bool) → is_some (column_of t column) ≡ b
          → cond s (int (status_number t.status_kind row.state)) (cond b (shows t set_to row.columns column) (others column (row_index t i)))
          ≡ cond s (int (status_number t.status_kind (state_of t beginning journal (row_index t i)))) (cond b (value_of t beginning journal (row_index t i) column) (after column (row_index t i)))
      by_tests true b among = ap (λ s. int (status_number t.status_kind s)) state_is
      by_tests false true among = set_is among
      by_tests false false among = same column i row here

  value_at : (i : ℕ) (o : Option (Row C)) → row_in rows i ≡ o → (column : ℕ)
      → cond (is_some o) (Some (kept_value t set_to o (others column (row_index t i)) column)) None
      ≡ cond (is_some o) (Some (control_value t (state_of t beginning journal (row_index t i)) (value_of t beginning journal (row_index t i)) (after column (row_index t i)) column)) None
  value_at i None e column = refl
  value_at i (Some row) e column = ap Some (row_shows i row e column)

  cell_is : (at : Option Instance) → cell_at (kept_cells t set_to columns others rows) at ≡ cell_at (control_cells t beginning columns after journal) at
  cell_is None = refl
  cell_is (Some at) =
      by_index at.index
      ∙ sym (ap (λ b. cond b (Some ((control_cells t beginning columns after journal).value at.column at.index)) None) (is_row_after t beginning set_to rows journal held is at.index))
    where
      by_index : (index : List ℕ) → cell_at (kept_cells t set_to columns others rows) (Some (record { column = at.column; index = index }))
          ≡ cond (is_index_in t rows index) (Some ((control_cells t beginning columns after journal).value at.column index)) None
      by_index index = by_number (t.indexing.number_of index) refl
        where
          by_number : (o : Option ℕ) → t.indexing.number_of index ≡ o
              → cond (has_number rows o) (Some (kept_value t set_to (row_in rows (unwrap_or o 0)) (others at.column index) at.column)) None
              ≡ cond (has_number rows o) (Some ((control_cells t beginning columns after journal).value at.column index)) None
          by_number None e = refl
          by_number (Some i) e =
              subst (λ (n : List ℕ). cond (is_some (row_in rows i)) (Some (kept_value t set_to (row_in rows i) (others at.column n) at.column)) None
              ≡ cond (is_some (row_in rows i)) (Some ((control_cells t beginning columns after journal).value at.column n)) None)
              (t.indexed.one_to_one.forth index i e) (value_at i (row_in rows i) refl at.column)

  pub same_control_cells : (name : List ℕ) → cells_of (kept_cells t set_to columns others rows) name ≡ cells_of (control_cells t beginning columns after journal) name
  same_control_cells name = cell_is (instance_of t.entry columns name)
