-- Rows in order of their indexes.
use Rattle.std.proofs.Common.{◌≡◌, ℕ, ◌<◌, ◌≤◌, ◌+◌, zero, suc, true, false, cond, not, List, [], ◌∷◌, length, Option, Some, None, nat_eq, refl, sym, ap, ◌∙◌, arith, slice_get, get_or, slice_set}
use Rattle.std.specs.Prelude.{IfSome, IfNone}
use Rattle.std.specs.Borrow.{MutBor}
use Rattle.std.proofs.Math.Numerals.{one-add}
use Rattle.std.proofs.lemmas.List.Folds.{find_at}
use Rattle.rm_model.specs.ControlTable.{ControlTable}
use Rattle.rm_status.specs.declared.row.Row.{Row}
use Rattle.rm_status.specs.Rows.{place_in, columns_seen, columns_in, AllAbove, Rising, AllThere, AreControlRows, with_columns, with_columns_at, with_state_at}
use Rattle.rm_model.specs.declared.row.State.{State}

module _ {C : Type 0} where
  -- a write of a row's columns at its place
  pub set-columns : (rows : List (Row C)) (k : ℕ) (x : Row C) (w : C) → k < length rows → x ≡ get_or rows k x → slice_set rows k (record { index = x.index; state = x.state; columns = w }) ≡ with_columns_at rows k w
  set-columns [] k x w lt is = absurd (omega arith)
  set-columns (r ∷ rows) zero x w lt is = λ i. record { index = (is i).index; state = (is i).state; columns = w } ∷ rows
  set-columns (r ∷ rows) (suc k) x w lt is = ap (λ l. r ∷ l) (set-columns rows k x w (omega arith) is)

  pub columns_at : (rows : List (Row C)) (k : ℕ) (x : Row C) → k < length rows → x ≡ get_or rows k x → columns_seen (slice_get rows k) ≡ Some x.columns
  columns_at [] k x lt is = absurd (omega arith)
  columns_at (r ∷ rows) zero x lt is = ap (λ y. Some (y.columns)) (sym is)
  columns_at (r ∷ rows) (suc k) x lt is = columns_at rows k x (omega arith) is

  -- the place of an index is where the columns of its row are written
  pub with_columns-place : (rows : List (Row C)) (i : ℕ) (w : C) → with_columns_at rows (place_in rows i) w ≡ with_columns rows i w
  with_columns-place [] i w = refl
  with_columns-place (r ∷ rows) i w =
      elim (nat_eq r.index i) as (λ t. with_columns_at (r ∷ rows) (cond (not t) (1 + place_in rows i) 0) w ≡ cond t (record r { columns = w } ∷ rows) (r ∷ with_columns rows i w)) [
        | true ↦ refl
        | false ↦ rw (one-add (place_in rows i)) (ap (λ l. r ∷ l) (with_columns-place rows i w))
      ]

  pub columns_seen-place : (rows : List (Row C)) (i : ℕ) → columns_seen (slice_get rows (place_in rows i)) ≡ columns_in rows i
  columns_seen-place rows i = ap columns_seen (sym (find_at (λ r. nat_eq r.index i) rows))

  above-with : (i : ℕ) (rows : List (Row C)) (k : ℕ) (w : C) → AllAbove i rows → AllAbove i (with_columns_at rows k w)
  above-with i [] k w h = h
  above-with i (r ∷ rows) zero w h = h
  above-with i (r ∷ rows) (suc k) w h = (h.0, above-with i rows k w h.1)

  -- such a write keeps the indexes
  pub rising-with : (rows : List (Row C)) (k : ℕ) (w : C) → Rising rows → Rising (with_columns_at rows k w)
  rising-with [] k w h = h
  rising-with (r ∷ rows) zero w h = h
  rising-with (r ∷ rows) (suc k) w h = (above-with r.index rows k w h.0, rising-with rows k w h.1)

  there-with : (table : ControlTable) (rows : List (Row C)) (k : ℕ) (w : C) → AllThere table rows → AllThere table (with_columns_at rows k w)
  there-with table [] k w h = h
  there-with table (r ∷ rows) zero w h = h
  there-with table (r ∷ rows) (suc k) w h = (h.0, there-with table rows k w h.1)

  pub rows-with : (table : ControlTable) (rows : List (Row C)) (k : ℕ) (w : C) → AreControlRows table rows → AreControlRows table (with_columns_at rows k w)
  rows-with table rows k w h = (rising-with rows k w h.0, there-with table rows k w h.1)

  abbrev Found : List (Row C) → ℕ → Option (MutBor C) → Type 0
  Found rows i r = IfSome r (λ c. columns_in rows i ≡ Some c.now) × IfNone r (columns_in rows i ≡ None)

  past : (rows : List (Row C)) (k : ℕ) → length rows ≤ k → columns_seen (slice_get rows k) ≡ None
  past [] k h = refl
  past (r ∷ rows) zero h = absurd (omega arith)
  past (r ∷ rows) (suc k) h = past rows k (omega arith)

  -- what the columns at the place of an index say of that index
  pub found : (rows : List (Row C)) (i k : ℕ) (r : Option (MutBor C)) → k ≡ place_in rows i → IfSome r (λ c. columns_seen (slice_get rows k) ≡ Some c.now) → IfNone r (length rows ≤ k) → Found rows i r
  found rows i k None here some none = (tt, sym (columns_seen-place rows i) ∙ ap (λ n. columns_seen (slice_get rows n)) (sym here) ∙ past rows k none)
  found rows i k (Some c) here some none = (sym (columns_seen-place rows i) ∙ ap (λ n. columns_seen (slice_get rows n)) (sym here) ∙ some, tt)

  pub set-state : (rows : List (Row C)) (k : ℕ) (x : Row C) (s : State) → k < length rows → x ≡ get_or rows k x → slice_set rows k (record { index = x.index; state = s; columns = x.columns }) ≡ with_state_at rows k s
  set-state [] k x s lt is = absurd (omega arith)
  set-state (r ∷ rows) zero x s lt is = λ i. record { index = (is i).index; state = s; columns = (is i).columns } ∷ rows
  set-state (r ∷ rows) (suc k) x s lt is = ap (λ l. r ∷ l) (set-state rows k x s (omega arith) is)
