-- Rows that are alike before a Set are alike after it.
use Rattle.std.proofs.Common.{◌≡◌, ℕ, List, [], ◌∷◌, Bool, true, false, cond, Option, Some, None, refl, sym, ap, ◌∙◌, subst, nat_eq, find}
use Rattle.std.specs.Prelude.{is_some, unwrap_or, is_none}
use Rattle.std.specs.List.{AllByRecursion}
use Rattle.std.specs.Option.{option_or, option_and_then}
use Rattle.rm_val.specs.Val.{Val}
use Rattle.rm_model.specs.declared.row.State.{State}
use Rattle.rm_model.specs.declared.row.State.TheVariants.{Absent, UnderCreation, Valid}
use Rattle.rm_model.specs.Journal.{Assignments, assigns, Journal, value_given}
use Rattle.rm_model.specs.ControlTable.{row_index, Column, ControlTable, column_of, default_of}
use Rattle.rm_model.specs.ControlRows.{Beginning, cell_name, value_ask, set_ask, next_state, is_absent, state_of, set_value}
use Rattle.rm_model.specs.Judgement.{Bindings, rows_after, is_sound, value_fault, column_kind}
use Rattle.rm_model.specs.Alike.{IsSameColumn, HasSameColumns, AreAlike}
use Rattle.rm_model.proofs.Alike.{with_given, is_given}
use Rattle.rm_status.specs.declared.row.Row.{Row}
use Rattle.rm_status.specs.Rows.{row_in, state_seen, columns_seen, state_in, columns_in, rows_before, AreControlRows, AllThere}
use Rattle.rm_status.specs.Commit.{put_all, if_there, row_after}
use Rattle.rm_status.proofs.RowsBefore.{number_at, state_before}
use Rattle.rm_status.proofs.PlaceLemmas.{same_either_way}
use Rattle.rm_status.proofs.Puts.{AllFine, set_in_all, left_part}

none_found : {X : Type 0} (p : X → Bool) (xs : List X) → is_none (find p xs) ≡ true → AllByRecursion (λ x. p x ≡ false) xs
none_found p [] h = tt
none_found p (x ∷ xs) h =
    elim (p x) as (λ t. p x ≡ t → is_none (cond t (Some x) (find p xs)) ≡ true → AllByRecursion (λ y. p y ≡ false) (x ∷ xs)) [
      | true ↦ λ _ k. absurd (cc)
      | false ↦ λ e k. (e, none_found p xs k)
    ] refl h

there_in : (table : ControlTable) {C : Type 0} (rows : List (Row C)) (i : ℕ) (r : Row C) → AllThere table rows → row_in rows i ≡ Some r → is_absent r.state ≡ false
there_in table [] i r h e = absurd (cc)
there_in table (x ∷ rows) i r h e =
    elim (nat_eq x.index i) as (λ t. cond t (Some x) (row_in rows i) ≡ Some r → is_absent r.state ≡ false) [
      | true ↦ λ k. let is : x ≡ r = cc in ap (λ y. is_absent y.state) (sym is) ∙ h.0.1
      | false ↦ λ k. there_in table rows i r h.1 k
    ] e

module _ {C : Type 0} (t : ControlTable) (with_column : C → ℕ → Val → C) (blank : ℕ → C) where
  seen_state : (i : ℕ) (s : State) (c : C) → state_seen (if_there t with_column blank (record { index = i; state = s; columns = c })) ≡ s
  seen_state i Absent c = refl
  seen_state i UnderCreation c = refl
  seen_state i Valid c = refl

  seen_columns : (i : ℕ) (s : State) (c : C) → is_absent s ≡ false → columns_seen (if_there t with_column blank (record { index = i; state = s; columns = c })) ≡ Some c
  seen_columns i Absent c h = cc
  seen_columns i UnderCreation c h = refl
  seen_columns i Valid c h = refl

  module _ (set_to : C → ℕ → Option Val)
      (set_with : (c : C) (n m : ℕ) (v : Val) → value_fault (column_kind t n) v ≡ None → set_to (with_column c n v) m ≡ cond (nat_eq n m) (Some v) (set_to c m))
      (blank_alike : (i : ℕ) → HasSameColumns t (set_to (blank i)) (t.rules.first (row_index t i)))
      (sound : is_sound t ≡ true)
      (beginning : Beginning) (journal : Journal) (moment : ℕ) (bs : Bindings) (values : Assignments)
      (gives : (name : List ℕ) → value_given values name ≡ value_given bs name)
      (fine : AllFine t bs)
      (rows new : List (Row C)) (held : AreControlRows t rows)
      (alike : AreAlike t (rows_before t set_to rows) (rows_after t beginning journal))
      (after : (i : ℕ) → row_in new i ≡ row_after t with_column blank bs i (row_in rows i)) where
    same_ask : (i : ℕ) → set_ask t bs (row_index t i) ≡ set_ask t values (row_index t i)
    same_ask i = ap (value_ask t.status_kind) (sym (gives (cell_name t.entry t.status (row_index t i))))

    old : ℕ → C
    old i = unwrap_or (columns_in rows i) (blank i)

    -- what a column of a row was set to before the Set, by the journal
    abbrev was : ℕ → ℕ → Option Val
    was i n = cond (is_absent (state_of t beginning journal (row_index t i))) (t.rules.first (row_index t i) n) (set_value t beginning journal (row_index t i) n)

    was_alike : (i : ℕ) (o : Option (Row C)) → row_in rows i ≡ o → HasSameColumns t (set_to (unwrap_or (columns_seen o) (blank i))) (was i)
    was_alike i None e =
        let gone : is_absent (state_of t beginning journal (row_index t i)) ≡ true = ap is_absent (sym (alike.states i) ∙ state_before t set_to rows i) ∙ ap (λ o. is_absent (state_seen o)) e in
        subst (λ (b : Bool). HasSameColumns t (set_to (blank i)) (λ n. cond b (t.rules.first (row_index t i) n) (set_value t beginning journal (row_index t i) n))) (sym gone) (blank_alike i)
    was_alike i (Some r) e =
        let here : is_absent (state_in rows i) ≡ false = ap (λ o. is_absent (state_seen o)) e ∙ there_in t rows i r held.1 e in
        let there : is_absent (state_of t beginning journal (row_index t i)) ≡ false = ap is_absent (sym (alike.states i) ∙ state_before t set_to rows i) ∙ here in
        subst (λ (b : Bool). HasSameColumns t (set_to r.columns) (λ n. cond b (t.rules.first (row_index t i) n) (set_value t beginning journal (row_index t i) n))) (sym there)
        (subst (λ (o : Option (Row C)). HasSameColumns t (λ n. option_and_then (λ c. set_to c n) (columns_seen o)) (set_value t beginning journal (row_index t i))) e
        (subst (λ k. HasSameColumns t (λ n. option_and_then (λ c. set_to c n) (columns_in rows k)) (set_value t beginning journal (row_index t i))) (number_at t i)
        (alike.columns i (ap is_absent (state_before t set_to rows i) ∙ here))))

    module _ (i : ℕ) where
      abbrev now : ℕ → Option Val
      now n = set_to (put_all t with_column blank bs i (unwrap_or (columns_in rows i) (blank i))) n

      abbrev then_ : ℕ → Option Val
      then_ n = option_or (value_given values (cell_name t.entry n (row_index t i))) (was i n)

      one : (c : Column) → IsSameColumn t (set_to (unwrap_or (columns_in rows i) (blank i))) (was i) c → nat_eq c.number t.status ≡ false → IsSameColumn t now then_ c
      one c same other =
          let name : List ℕ = cell_name t.entry c.number (row_index t i) in
          let old_set : Option Val = set_to (unwrap_or (columns_in rows i) (blank i)) c.number in
          let set : now c.number ≡ option_or (value_given bs name) old_set = set_in_all t with_column blank set_to set_with bs i c.number (unwrap_or (columns_in rows i) (blank i)) (same_either_way t.status c.number ∙ other) fine in
          record {
            shown = ap (λ o. unwrap_or o (default_of t c.number)) set ∙ with_given (value_given bs name) old_set (was i c.number) (default_of t c.number) same.shown
                ∙ ap (λ g. unwrap_or (option_or g (was i c.number)) (default_of t c.number)) (sym (gives name));
            needed = λ e. ap is_some set ∙ is_given (value_given bs name) old_set (was i c.number) (same.needed e) ∙ ap (λ g. is_some (option_or g (was i c.number))) (sym (gives name));
          }

      each : (columns : List Column) → AllByRecursion (IsSameColumn t (set_to (unwrap_or (columns_in rows i) (blank i))) (was i)) columns → AllByRecursion (λ c. nat_eq c.number t.status ≡ false) columns → AllByRecursion (IsSameColumn t now then_) columns
      each [] all others = tt
      each (c ∷ more) all others = (one c all.0 others.0, each more all.1 others.1)

      new_state : state_in new i ≡ next_state (set_ask t bs (row_index t i)) (state_in rows i)
      new_state = ap state_seen (after i) ∙ seen_state i (next_state (set_ask t bs (row_index t i)) (state_in rows i)) (put_all t with_column blank bs i (unwrap_or (columns_in rows i) (blank i)))

      new_columns : is_absent (state_in new i) ≡ false → columns_in new i ≡ Some (put_all t with_column blank bs i (unwrap_or (columns_in rows i) (blank i)))
      new_columns there = ap columns_seen (after i) ∙ seen_columns i (next_state (set_ask t bs (row_index t i)) (state_in rows i)) (put_all t with_column blank bs i (unwrap_or (columns_in rows i) (blank i))) (sym (ap is_absent new_state) ∙ there)

      same_columns : is_absent (state_in new i) ≡ false → HasSameColumns t (λ n. option_and_then (λ c. set_to c n) (columns_in new i)) then_
      same_columns there =
          subst (λ (o : Option C). HasSameColumns t (λ n. option_and_then (λ c. set_to c n) o) then_) (sym (new_columns there))
          (each t.columns (was_alike i (row_in rows i) refl) (none_found (λ c. nat_eq c.number t.status) t.columns (left_part (is_none (column_of t t.status)) _ sound)))

    -- the rows after the Set are those of the longer journal
    pub alike_after : AreAlike t (rows_before t set_to new) (rows_after t beginning (assigns moment values ∷ journal))
    alike_after = record {
      states = λ i.
          state_before t set_to new i ∙ new_state i ∙ ap (λ a. next_state a (state_in rows i)) (same_ask i)
          ∙ ap (next_state (set_ask t values (row_index t i))) (sym (state_before t set_to rows i) ∙ alike.states i);
      columns = λ i there.
          subst (λ k. HasSameColumns t (λ n. option_and_then (λ c. set_to c n) (columns_in new k)) (then_ i)) (sym (number_at t i))
          (same_columns i (ap is_absent (sym (state_before t set_to new i)) ∙ there));
    }
