-- The rows that are held, as a Set finds them.
use Rattle.std.proofs.Common.{◌≡◌, ℕ, ◌^◌, List, ◌&&◌, not, Option, Some, None, option_map, refl, sym, ap, subst, ◌∙◌}
use Rattle.std.specs.Prelude.{unwrap_or}
use Rattle.std.specs.Option.{option_and_then}
use Rattle.rm_val.specs.Val.{Val}
use Rattle.rm_model.specs.ControlTable.{ControlTable, row_index}
use Rattle.rm_model.specs.ControlRows.{Beginning, set_ask, next_state, is_valid}
use Rattle.rm_model.specs.Alike.{AreAlike}
use Rattle.rm_model.specs.Journal.{Journal}
use Rattle.rm_model.specs.Judgement.{Bindings, count_below, rows_after}
use Rattle.rm_model.specs.Reserves.{makes_valid, count_valid}
use Rattle.rm_status.specs.declared.row.Row.{Row}
use Rattle.rm_status.specs.Rows.{row_in, state_seen, columns_seen, state_in, columns_in, number_in, rows_before}
use Rattle.rm_status.specs.RowsAfter.{AreRowsAfter}

-- the number of a row's index is the row's
pub number_at : (t : ControlTable) (i : ℕ) → number_in t (row_index t i) ≡ i
number_at t i = ap (λ o. unwrap_or o 0) (t.indexed.back i)

-- how many rows are valid, by their states
pub valid_before : {C : Type 0} (t : ControlTable) (set_to : C → ℕ → Option Val) (rows : List (Row C)) → count_valid t (rows_before t set_to rows) ≡ count_below (λ i. is_valid (state_in rows i)) (2 ^ 32)
valid_before t set_to rows = ap (λ p. count_below p (2 ^ 32)) (λ d i. (ap (λ n. is_valid (state_in rows n)) (number_at t i)) d)

module _ {C : Type 0} (t : ControlTable) (set_to : C → ℕ → Option Val) (rows : List (Row C)) (i : ℕ) where
  pub state_before : (rows_before t set_to rows).state (row_index t i) ≡ state_in rows i
  state_before = ap (λ n. state_in rows n) (number_at t i)

  -- a Set makes a row valid by the row's state
  pub made_valid : (bs : Bindings) → makes_valid t (rows_before t set_to rows) bs (row_index t i) ≡ (is_valid (next_state (set_ask t bs (row_index t i)) (state_in rows i)) && not (is_valid (state_in rows i)))
  made_valid bs = ap (λ s. is_valid (next_state (set_ask t bs (row_index t i)) s) && not (is_valid s)) state_before

  pub set_before_at : (n : ℕ) → (rows_before t set_to rows).set (row_index t i) n ≡ option_and_then (λ c. set_to c n) (columns_in rows i)
  set_before_at n = ap (λ k. option_and_then (λ c. set_to c n) (columns_in rows k)) (number_at t i)

-- rows that a Set finds as it finds others are those after the same journals as these
pub after_alike : {C D : Type 0} (t : ControlTable) (beginning : Beginning) (set_to : C → ℕ → Option Val) (other : D → ℕ → Option Val) (rows : List (Row C)) (new : List (Row D)) (journal : Journal)
    → rows_before t other new ≡ rows_before t set_to rows → AreRowsAfter t beginning set_to rows journal → AreRowsAfter t beginning other new journal
after_alike t beginning set_to other rows new journal same is = record {
  alike = subst (λ (before : Beginning). AreAlike t before (rows_after t beginning journal)) (sym same) is.alike;
  others = is.others;
}

-- rows that were changed, each left in its state and with what its columns were set to
module _ {C D : Type 0} (t : ControlTable) (set_to : C → ℕ → Option Val) (other : D → ℕ → Option Val) (change : Row C → Row D)
    (same_state : (row : Row C) → (change row).state ≡ row.state) (same_set : (row : Row C) (n : ℕ) → other (change row).columns n ≡ set_to row.columns n) where
  state_kept : (o : Option (Row C)) → state_seen (option_map change o) ≡ state_seen o
  state_kept None = refl
  state_kept (Some row) = same_state row

  set_kept : (o : Option (Row C)) (n : ℕ) → option_and_then (λ c. other c n) (columns_seen (option_map change o)) ≡ option_and_then (λ c. set_to c n) (columns_seen o)
  set_kept None n = refl
  set_kept (Some row) n = same_set row n

  -- a Set finds them as before
  pub changed_before : (rows : List (Row C)) (new : List (Row D)) → ((i : ℕ) → row_in new i ≡ option_map change (row_in rows i)) → rows_before t other new ≡ rows_before t set_to rows
  changed_before rows new changed = λ d. record {
    state = λ index. (ap state_seen (changed (number_in t index)) ∙ state_kept (row_in rows (number_in t index))) d;
    set = λ index n. (ap (λ o. option_and_then (λ c. other c n) (columns_seen o)) (changed (number_in t index)) ∙ set_kept (row_in rows (number_in t index)) n) d;
  }
