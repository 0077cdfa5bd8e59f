-- Rows that are the same but for their other data.
use Rattle.std.proofs.Common.{◌≡◌, ℕ, ◌<◌, ◌+◌, zero, suc, List, [], ◌∷◌, ◌++◌, length, map, Option, refl, sym, ap, subst, ◌∙◌, arith, get_or, take, add-one}
use Rattle.std.proofs.lemmas.List.{map-append}
use Rattle.rm_val.specs.Val.{Val}
use Rattle.std.specs.Prelude.{unwrap_or}
use Rattle.rm_model.specs.declared.row.State.{State}
use Rattle.rm_model.specs.declared.row.State.TheVariants.{Absent, UnderCreation, Valid}
use Rattle.rm_model.specs.ControlTable.{row_index, ControlTable}
use Rattle.rm_model.specs.ControlRows.{set_ask, next_state}
use Rattle.rm_model.specs.Judgement.{Bindings}
use Rattle.rm_status.specs.Commit.{put_all, if_there, row_after}
use Rattle.rm_status.specs.declared.row.Row.{Row}
use Rattle.rm_status.specs.Rows.{state_seen, columns_seen, rows_before, AreControlRows}
use Rattle.rm_status.specs.Bare.{bare_row, bare_rows}
use Rattle.rm_status.proofs.RowEdits.{rows-map, row_in-map}
use Rattle.rm_status.proofs.RowsBefore.{changed_before}

module _ {C : Type 0} (set_to : C → ℕ → Option Val) where
  taken_more : {X Y : Type 0} (f : X → Y) (xs : List X) (k : ℕ) (d : X) → k < length xs → map f (take (suc k) xs) ≡ map f (take k xs) ++ f (get_or xs k d) ∷ []
  taken_more f [] k d lt = absurd (omega arith)
  taken_more f (x ∷ xs) zero d lt = refl
  taken_more f (x ∷ xs) (suc k) d lt = ap (λ l. f x ∷ l) (taken_more f xs k d (omega arith))

  -- one more row taken over
  pub one_more_bare : (rows bare new : List (Row C)) (k : ℕ) (d x : Row C) → k < length rows → bare_rows set_to bare ≡ bare_rows set_to (take k rows) → bare_row set_to x ≡ bare_row set_to (get_or rows k d) → new ≡ bare ++ x ∷ [] → bare_rows set_to new ≡ bare_rows set_to (take (k + 1) rows)
  one_more_bare rows bare new k d x lt before same is =
      ap (bare_rows set_to) is ∙ map-append (bare_row set_to) bare (x ∷ []) ∙ ap (λ l. l ++ bare_row set_to x ∷ []) before
      ∙ ap (λ r. bare_rows set_to (take k rows) ++ r ∷ []) same ∙ sym (taken_more (bare_row set_to) rows k d lt) ∙ ap (λ n. bare_rows set_to (take n rows)) (sym (add-one k))

  before_bare : (table : ControlTable) (rows : List (Row C)) → rows_before table (λ c. c) (bare_rows set_to rows) ≡ rows_before table set_to rows
  before_bare table rows = changed_before {D = ℕ → Option Val} table set_to (λ c. c) (bare_row set_to) (λ r. refl) (λ r n. refl) rows (bare_rows set_to rows) (row_in-map (bare_row set_to) (λ r. refl) rows)

  -- a Set finds the same rows
  pub same_before : (table : ControlTable) (rows bare : List (Row C)) → bare_rows set_to bare ≡ bare_rows set_to rows → rows_before table set_to bare ≡ rows_before table set_to rows
  same_before table rows bare same = sym (before_bare table bare) ∙ ap (rows_before table (λ c. c)) same ∙ before_bare table rows

  pub are_rows : (table : ControlTable) (rows bare : List (Row C)) → bare_rows set_to bare ≡ bare_rows set_to rows → AreControlRows table rows → AreControlRows table bare
  are_rows table rows bare same h =
      (rows-map (bare_row set_to) (λ r. refl) table (λ r. refl) bare).1
      (subst (AreControlRows table) (sym same) ((rows-map (bare_row set_to) (λ r. refl) table (λ r. refl) rows).0 h))

module _ {C : Type 0} (t : ControlTable) (with_column : C → ℕ → Val → C) (blank : ℕ → C) (bs : Bindings) where
  if_there_state : (i : ℕ) (s : State) (c : C) → state_seen (if_there t with_column blank (record { index = i; state = s; columns = c })) ≡ s
  if_there_state i Absent c = refl
  if_there_state i UnderCreation c = refl
  if_there_state i Valid c = refl

  -- a row's state after a Set
  pub state_then : (i : ℕ) (o : Option (Row C)) → state_seen (row_after t with_column blank bs i o) ≡ next_state (set_ask t bs (row_index t i)) (state_seen o)
  state_then i o = if_there_state i (next_state (set_ask t bs (row_index t i)) (state_seen o)) (put_all t with_column blank bs i (unwrap_or (columns_seen o) (blank i)))
