-- What a column of a row is after a Set.
use Rattle.std.proofs.Common.{sym, ◌≡◌, ℕ, ◌<◌, List, [], ◌∷◌, length, true, false, cond, Option, None, ap, ◌∙◌, nat_eq}
use Rattle.std.specs.Prelude.{unwrap_or}
use Rattle.std.specs.Option.{option_or}
use Rattle.rm_val.specs.Val.{Val}
use Rattle.rm_model.specs.Journal.{Assignments, Journal, assigns, value_given}
use Rattle.rm_model.specs.ControlTable.{row_index, ControlTable, default_of}
use Rattle.rm_model.specs.ControlRows.{Beginning, cell_name, set_ask, next_state, is_absent, is_valid, state_of, set_value, value_of}
use Rattle.rm_model.specs.Judgement.{Bindings, second_pass, is_always}
use Rattle.rm_model.specs.declared.row.State.TheVariants.{Valid}
use Rattle.rm_status.specs.declared.row.Row.{Row}
use Rattle.rm_status.specs.Rows.{state_in, rows_before}
use Rattle.rm_status.specs.RowsAfter.{AreRowsAfter}
use Rattle.rm_status.proofs.RowsBefore.{state_before}
use Rattle.rm_status.proofs.Bound.{fixed_column}
use Rattle.rm_status.proofs.RowFacts.{valid_is, valid_there}

-- A column that is fixed while its row is valid is as it was, where the row was valid and stays so.
module _ {C : Type 0} (t : ControlTable) (beginning : Beginning) (set_to : C → ℕ → Option Val) (journal : Journal) (moment : ℕ) (bs : Bindings) (values : Assignments)
    (gives : (name : List ℕ) → value_given values name ≡ value_given bs name)
    (rows : List (Row C)) (together : (k : ℕ) → k < length bs → second_pass t (rows_before t set_to rows) bs k ≡ None)
    (is : AreRowsAfter t beginning set_to rows journal) (i n : ℕ) (column : nat_eq n t.status ≡ false) (fixed : is_always t n ≡ false) where
  pub column_stays : is_valid (state_of t beginning journal (row_index t i)) ≡ true → is_valid (next_state (set_ask t bs (row_index t i)) Valid) ≡ true
      → value_of t beginning (assigns moment values ∷ journal) (row_index t i) n ≡ value_of t beginning journal (row_index t i) n
  column_stays old stays =
      let was : state_in rows i ≡ Valid = sym (state_before t set_to rows i) ∙ is.alike.states i ∙ valid_is (state_of t beginning journal (row_index t i)) old in
      let unbound : value_given values (cell_name t.entry n (row_index t i)) ≡ None = gives (cell_name t.entry n (row_index t i)) ∙ fixed_column t (rows_before t set_to rows) bs together i n column fixed (state_before t set_to rows i ∙ was) stays in
      ap (λ o. unwrap_or (option_or o (cond (is_absent (state_of t beginning journal (row_index t i))) (t.rules.first (row_index t i) n) (set_value t beginning journal (row_index t i) n))) (default_of t n)) unbound
      ∙ ap (λ b. unwrap_or (cond b (t.rules.first (row_index t i) n) (set_value t beginning journal (row_index t i) n)) (default_of t n)) (valid_there (state_of t beginning journal (row_index t i)) old)
