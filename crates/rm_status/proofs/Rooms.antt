-- Room for the rows that a Set makes.
use Rattle.std.proofs.Common.{◌≡◌, ℕ, ◌<◌, ◌≤◌, ◌+◌, zero, suc, Bool, true, false, cond, not, ◌&&◌, List, [], ◌∷◌, length, Option, Some, None, refl, sym, ap, subst, ◌∙◌, arith, take, nat_eq, nat_lt, add-one}
use Rattle.std.specs.Prelude.{is_none}
use Rattle.std.specs.List.{list_any}
use Rattle.std.specs.Option.{option_or}
use borrow.Author.Tests.{eqb-true}
use Rattle.rm_val.specs.Val.{Val}
use Rattle.rm_model.specs.declared.row.State.{State}
use Rattle.rm_model.specs.declared.row.State.TheVariants.{Absent}
use Rattle.rm_model.specs.declared.place.Place.{Place}
use Rattle.rm_model.specs.declared.place.Place.TheVariants.{Outside, Entry, Column, Cell}
use Rattle.rm_model.specs.ControlTable.{row_index, ControlTable}
use Rattle.rm_model.specs.ControlRows.{set_ask, next_state}
use Rattle.rm_model.specs.Judgement.{Bindings, name_at, place_of, first_pass, second_pass, together_fault, is_made, is_again, is_crowded, row_fault, is_ready_with}
use Rattle.rm_status.specs.declared.row.Row.{Row}
use Rattle.rm_status.specs.Rows.{row_in, state_in, state_seen, rows_before, AreControlRows}
use Rattle.rm_status.specs.Commit.{is_cell, is_status, made_by, count_made, made_row, made_now}
use Rattle.rm_status.proofs.Commits.{made_first}
use Rattle.rm_status.proofs.RowsBefore.{state_before}
use Rattle.rm_status.proofs.Crowds.{earlier_status, crowded_is}
use Rattle.rm_status.proofs.RowEdits.{lt_yes, lt_no, eq_itself}

grows : (t : ControlTable) (state : ℕ → State) (bs : Bindings) (k n : ℕ) → k ≤ n → count_made t state bs k ≤ count_made t state bs n
grows t state bs k zero le = let is : k ≡ 0 = omega arith in subst (λ m. count_made t state bs m ≤ 0) (sym is) (omega arith)
grows t state bs k (suc n) le =
    elim (nat_lt n k) as (λ b. nat_lt n k ≡ b → count_made t state bs k ≤ count_made t state bs (suc n)) [
      | true ↦ λ e. let over = lt_yes n k e in let is : k ≡ suc n = omega arith in subst (λ m. count_made t state bs m ≤ count_made t state bs (suc n)) (sym is) (omega arith)
      | false ↦ λ e. let under = lt_no n k e in let less = grows t state bs k n under in omega (arith, less)
    ] refl

no_some : {A : Type 0} (o m : Option A) (b : Bool) → option_or o (cond b m None) ≡ None → o ≡ None
no_some None m b h = refl
no_some (Some x) m b h = cc

no_made : {A : Type 0} (o : Option A) (x : A) (a b : Bool) → option_or o (cond a (cond b (Some x) None) None) ≡ None → b ≡ true → a ≡ false
no_made None x true true h e = cc
no_made None x true false h e = cc
no_made None x false b h e = refl
no_made (Some y) x a b h e = cc

pub cell_of : (c i : ℕ) (p : Place) → is_cell c i p ≡ true → p ≡ Cell c i
cell_of c i Outside h = cc
cell_of c i Entry h = cc
cell_of c i (Column d) h = cc
cell_of c i (Cell d k) h = both (nat_eq k i) (nat_eq d c) refl refl h
  where
    both : (a b : Bool) → nat_eq k i ≡ a → nat_eq d c ≡ b → (a && b) ≡ true → Cell d k ≡ Cell c i
    both true true p q _ = (λ j. Cell (eqb-true d c q j) (eqb-true k i p j))
    both true false p q h = cc
    both false b p q h = cc

not_both : {A : Type 0} (a b : Bool) (x : A) (o : Option A) → cond (a && b) (Some x) o ≡ None → a ≡ true → b ≡ false
not_both true true x o h e = cc
not_both true false x o h e = refl
not_both false b x o h e = cc

module _ {C : Type 0} (t : ControlTable) (with_column : C → ℕ → Val → C) (blank : ℕ → C) (bs : Bindings) (init : List (Row C)) where
  abbrev made : ℕ → Row C
  made i = record { index = i; state = next_state (set_ask t bs (row_index t i)) Absent; columns = blank i }

  again_none : (rows : List (Row C)) (k i : ℕ) → ((j : ℕ) → row_in rows j ≡ made_first t with_column blank bs init k j) → place_of t (name_at bs k) ≡ Cell t.status i → is_made Absent (set_ask t bs (row_index t i)) ≡ true → row_in rows i ≡ None → (row_in init i ≡ None) × (is_again bs k ≡ false)
  again_none rows k i makes here asks gone =
      let none = sym (makes i) ∙ gone in (
        no_some (row_in init i) (made_row t with_column blank bs i) (list_any (is_status t i) (take k bs)) none,
        sym (earlier_status t (state_in init) bs k i here) ∙ no_made (row_in init i) (made i) (list_any (is_status t i) (take k bs)) (is_made Absent (set_ask t bs (row_index t i))) none asks,
      )

  -- such a binding makes a row by what the rows were at first too
  made_one : (k i : ℕ) → row_in init i ≡ None → is_again bs k ≡ false → is_made Absent (set_ask t bs (row_index t i)) ≡ true → ◌≡◌ {A = ℕ} (cond (not (is_again bs k) && is_made (state_in init i) (set_ask t bs (row_index t i))) 1 0) 1
  made_one k i gone first asks =
      ap (λ a. cond (not a && is_made (state_in init i) (set_ask t bs (row_index t i))) 1 0) first
      ∙ ap (λ o. cond (is_made (state_seen o) (set_ask t bs (row_index t i))) 1 0) gone ∙ ap (λ m. cond m 1 0) asks

  now_made : (rows : List (Row C)) (k : ℕ) → ((j : ℕ) → row_in rows j ≡ made_first t with_column blank bs init k j) → (p : Place) → place_of t (name_at bs k) ≡ p → made_now t with_column blank rows bs p ≤ made_by t (state_in init) bs (is_again bs k) p
  now_made rows k makes Outside e = omega arith
  now_made rows k makes Entry e = omega arith
  now_made rows k makes (Column c) e = omega arith
  now_made rows k makes (Cell c i) e =
      elim (nat_eq c t.status) as (λ s. nat_eq c t.status ≡ s → cond (s && (is_made Absent (set_ask t bs (row_index t i)) && is_none (row_in rows i))) 1 0 ≤ cond (s && (not (is_again bs k) && is_made (state_in init i) (set_ask t bs (row_index t i)))) 1 0) [
        | true ↦ λ st. elim (is_made Absent (set_ask t bs (row_index t i))) as (λ m. is_made Absent (set_ask t bs (row_index t i)) ≡ m → cond (m && is_none (row_in rows i)) 1 0 ≤ cond (not (is_again bs k) && is_made (state_in init i) (set_ask t bs (row_index t i))) 1 0) [
          | true ↦ λ asks. elim (row_in rows i) as (λ o. row_in rows i ≡ o → cond (is_none o) 1 0 ≤ cond (not (is_again bs k) && is_made (state_in init i) (set_ask t bs (row_index t i))) 1 0) [
            | None ↦ λ gone.
                let status : place_of t (name_at bs k) ≡ Cell t.status i = e ∙ ap (λ n. Cell n i) (eqb-true c t.status st) in
                let both = again_none rows k i makes status asks gone in
                let one = made_one k i both.0 both.1 asks in
                omega (arith, one)
            | Some r ↦ λ _. omega arith
          ] refl
          | false ↦ λ _. omega arith
        ] refl
        | false ↦ λ _. omega arith
      ] refl

  -- the rows so far are no more than those held and made
  pub few_more : (rows new : List (Row C)) (k : ℕ) → ((j : ℕ) → row_in rows j ≡ made_first t with_column blank bs init k j) → length rows ≤ length init + count_made t (state_in init) bs k → length new ≡ length rows + made_now t with_column blank rows bs (place_of t (name_at bs k)) → length new ≤ length init + count_made t (state_in init) bs (k + 1)
  few_more rows new k makes few is =
      let now = now_made rows k makes (place_of t (name_at bs k)) refl in
      rw (add-one k) (omega (arith, now, is, few))

  -- so there is room for the row that the binding at a place makes
  pub room_at : (set_to : C → ℕ → Option Val) → AreControlRows t init → ((j : ℕ) → j < length bs → first_pass t bs j ≡ None) → (rows : List (Row C)) (k i : ℕ) → k < length bs → ((j : ℕ) → row_in rows j ≡ made_first t with_column blank bs init k j) → length rows ≤ length init + count_made t (state_in init) bs k → second_pass t (rows_before t set_to init) bs k ≡ None → is_cell t.status i (place_of t (name_at bs k)) ≡ true → is_made Absent (set_ask t bs (row_index t i)) ≡ true → row_in rows i ≡ None → length rows < t.most
  room_at set_to ordered alone rows k i lt makes few fine is asks gone =
      let before = rows_before t set_to init in
      let place = cell_of t.status i (place_of t (name_at bs k)) is in
      let both = again_none rows k i makes place asks gone in
      let making : is_made (state_in init i) (set_ask t bs (row_index t i)) ≡ true = ap (λ o. is_made (state_seen o) (set_ask t bs (row_index t i))) both.0 ∙ asks in
      let fault : together_fault t before bs k (Cell t.status i) ≡ None = ap (together_fault t before bs k) (sym place) ∙ fine in
      let here = ap (λ s. row_fault t (row_index t i) s (set_ask t bs (row_index t i)) (is_ready_with t before bs (row_index t i)) (is_crowded t before bs) (is_again bs k) t.status) (sym (state_before t set_to init i)) ∙ fault in
      let ok : is_crowded t before bs ≡ false = not_both (is_made (state_in init i) (set_ask t bs (row_index t i))) (is_crowded t before bs) _ _ here making in
      let bound = lt_no t.most (length init + count_made t (state_in init) bs (length bs)) (sym (crowded_is t set_to bs init ordered alone) ∙ ok) in
      let one : made_by t (state_in init) bs (is_again bs k) (place_of t (name_at bs k)) ≡ 1 =
      ap (made_by t (state_in init) bs (is_again bs k)) place ∙ ap (λ e. cond (e && (not (is_again bs k) && is_made (state_in init i) (set_ask t bs (row_index t i)))) 1 0) (eq_itself t.status) ∙ made_one k i both.0 both.1 asks in
      let next = grows t (state_in init) bs (suc k) (length bs) lt in
      omega (arith, few, one, next, bound)
