-- How many rows there are with those that a Set makes.
use Rattle.std.proofs.Common.{◌≡◌, ◌^◌, ℕ, ◌<◌, ◌≤◌, ◌+◌, zero, suc, Bool, true, false, cond, not, ◌||◌, ◌&&◌, List, [], ◌∷◌, length, Option, Some, None, refl, sym, ap, subst, ◌∙◌, arith, get_or, take, nat_eq, nat_lt, add-one}
use Rattle.std.specs.List.{list_any}
use Rattle.std.specs.Option.{option_or}
use Rattle.std.specs.Str.{bytes_eq}
use Rattle.std.proofs.Math.Seq.{take-length}
use Rattle.std.proofs.lemmas.Slice.Eq.{bytes_eq-Decides}
use borrow.Author.Tests.{eqb-true}
use Rattle.rm_val.specs.Val.{Val}
use Rattle.rm_val.specs.declared.error.ErrorStatus.TheVariants.{NoCreation}
use Rattle.rm_model.specs.declared.row.State.{State}
use Rattle.rm_model.specs.declared.row.State.TheVariants.{Absent, UnderCreation, Valid}
use Rattle.rm_model.specs.declared.row.Ask.{Ask}
use Rattle.rm_model.specs.declared.place.Place.{Place}
use Rattle.rm_model.specs.declared.place.Place.TheVariants.{Outside, Entry, Column, Cell}
use Rattle.rm_model.specs.ControlTable.{row_index, ControlTable}
use Rattle.rm_model.specs.ControlRows.{cell_name, set_ask, is_absent}
use Rattle.rm_model.specs.Judgement.{Bindings, nothing_bound, name_at, place_of, alone_fault, first_pass, value_fault, writable_kind, is_row_number, is_made, is_again, count_below, is_crowded}
use Rattle.rm_status.specs.declared.row.Row.{Row}
use Rattle.rm_status.specs.Rows.{state_in, rows_before, AreControlRows}
use Rattle.rm_status.specs.Commit.{is_cell, is_status, made_by, count_made}
use Rattle.rm_status.proofs.RowsBefore.{state_before}
use Rattle.rm_status.proofs.PlaceLemmas.{is_cell_name}
use Rattle.rm_status.proofs.Held.{below, count_none, count_one, count_or, length-counted, held_is}
use Rattle.rm_status.proofs.RowEdits.{eq_itself}
use Rattle.rm_status.proofs.Commits.{any_next, made_is_bound}

second_part : {A : Type 0} (o : Option A) (b : Bool) (x : A) → option_or o (cond b None (Some x)) ≡ None → b ≡ true
second_part None true x h = refl
second_part None false x h = cc
second_part (Some y) b x h = cc

-- a row that a binding names, of which nothing is wrong alone, has a number that a row can have
pub row_number_at : (t : ControlTable) (bs : Bindings) (k column row : ℕ) → place_of t (name_at bs k) ≡ Cell column row → first_pass t bs k ≡ None → is_row_number t row ≡ true
row_number_at t bs k column row at fine =
    let value : Val = (get_or bs k nothing_bound).value in
    let here : alone_fault t (Cell column row) value ≡ None = ap (λ p. alone_fault t p value) (sym at) ∙ fine in
    second_part (value_fault (writable_kind t column) value) (is_row_number t row) NoCreation here

never : (b : Bool) → (b && false) ≡ false
never true = refl
never false = refl

made_absent : (s : State) (a : Ask) → is_made s a ≡ true → is_made Absent a ≡ true
made_absent Absent a h = h
made_absent UnderCreation a h = cc
made_absent Valid a h = cc

not_made : (s : State) (a : Ask) → not (is_absent s) ≡ true → is_made s a ≡ false
not_made Absent a h = cc
not_made UnderCreation a h = refl
not_made Valid a h = refl

module _ (t : ControlTable) (state : ℕ → State) (bs : Bindings) where
  abbrev made : ℕ → Bool
  made i = is_made (state i) (set_ask t bs (row_index t i))

  -- whether the binding at a place is that of the status of a row, by where its name stands
  status_at : (k i : ℕ) → is_status t i (get_or bs k nothing_bound) ≡ is_cell t.status i (place_of t (name_at bs k))
  status_at k i = sym (is_cell_name t t.entry (name_at bs k) t.status i)

  -- an earlier status of the row is an earlier binding of the same variable
  pub earlier_status : (k row : ℕ) → place_of t (name_at bs k) ≡ Cell t.status row → list_any (is_status t row) (take k bs) ≡ is_again bs k
  earlier_status k row at =
      let here : is_status t row (get_or bs k nothing_bound) ≡ true = status_at k row ∙ ap (is_cell t.status row) at ∙ rw (eq_itself row, eq_itself t.status) refl in
      let name : name_at bs k ≡ cell_name t.entry t.status (row_index t row) = (bytes_eq-Decides (name_at bs k) (cell_name t.entry t.status (row_index t row))).0 here in
      ap (λ n. list_any (λ b. bytes_eq b.name n) (take k bs)) (sym name)

  -- the rows that the first bindings make
  abbrev by_first : ℕ → ℕ → Bool
  by_first k i = list_any (is_status t i) (take k bs) && made i

  abbrev by_next : ℕ → ℕ → Bool
  by_next k i = not (list_any (is_status t i) (take k bs)) && (is_status t i (get_or bs k nothing_bound) && made i)

  split : (a b c : Bool) → ((a || b) && c) ≡ ((a && c) || (not a && (b && c)))
  split true b true = refl
  split true b false = refl
  split false b c = refl

  apart : (a b c : Bool) → (a && c) ≡ true → (not a && (b && c)) ≡ false
  apart true b c h = refl
  apart false b c h = cc

  count_more : (k : ℕ) → k < length bs → count_below (by_first (k + 1)) (2 ^ 32) ≡ count_below (by_first k) (2 ^ 32) + count_below (by_next k) (2 ^ 32)
  count_more k lt =
      ap (λ (f : ℕ → Bool). count_below f (2 ^ 32)) (λ d i. (ap (λ b. b && made i) (any_next (is_status t i) nothing_bound bs k lt) ∙ split (list_any (is_status t i) (take k bs)) (is_status t i (get_or bs k nothing_bound)) (made i)) d)
      ∙ count_or (by_first k) (by_next k) (2 ^ 32) (λ i h. apart (list_any (is_status t i) (take k bs)) (is_status t i (get_or bs k nothing_bound)) (made i) h)

  no_next : (k : ℕ) → ((i : ℕ) → is_cell t.status i (place_of t (name_at bs k)) ≡ false) → count_below (by_next k) (2 ^ 32) ≡ 0
  no_next k other = count_none (by_next k) (2 ^ 32) (λ i _. no_one i)
    where
      drop_two : (a b c : Bool) → b ≡ false → (a && (b && c)) ≡ false
      drop_two true b c h = rw h refl
      drop_two false b c h = refl

      no_one : (i : ℕ) → by_next k i ≡ false
      no_one i = drop_two (not (list_any (is_status t i) (take k bs))) (is_status t i (get_or bs k nothing_bound)) (made i) (status_at k i ∙ other i)

  next_one : (k row : ℕ) → place_of t (name_at bs k) ≡ Cell t.status row → row < (2 ^ 32) → count_below (by_next k) (2 ^ 32) ≡ cond (not (is_again bs k) && made row) 1 0
  next_one k row at lt =
      elim (not (is_again bs k) && made row) as (λ b. (not (is_again bs k) && made row) ≡ b → count_below (by_next k) (2 ^ 32) ≡ cond b 1 0) [
        | true ↦ λ e. ap (λ (f : ℕ → Bool). count_below f (2 ^ 32)) (λ d i. (when_made e i) d) ∙ count_one row (2 ^ 32) lt
        | false ↦ λ e. count_none (by_next k) (2 ^ 32) (λ i _. when_not e i)
      ] refl
    where
      is_row : (i : ℕ) → is_status t i (get_or bs k nothing_bound) ≡ nat_eq row i
      is_row i = status_at k i ∙ ap (is_cell t.status i) at ∙ with_status (nat_eq row i)
        where
          with_status : (b : Bool) → (b && nat_eq t.status t.status) ≡ b
          with_status true = eq_itself t.status
          with_status false = refl

      at_row : by_next k row ≡ (not (is_again bs k) && made row)
      at_row = ap (λ b. not b && (is_status t row (get_or bs k nothing_bound) && made row)) (earlier_status k row at) ∙ ap (λ b. not (is_again bs k) && (b && made row)) (is_row row ∙ eq_itself row)

      elsewhere : (a b c : Bool) → b ≡ false → (a && (b && c)) ≡ false
      elsewhere true b c h = rw h refl
      elsewhere false b c h = refl

      when_made : (not (is_again bs k) && made row) ≡ true → (i : ℕ) → by_next k i ≡ nat_eq row i
      when_made e i = elim (nat_eq row i) as (λ b. nat_eq row i ≡ b → by_next k i ≡ b) [
        | true ↦ λ same. subst (λ n. by_next k n ≡ true) (eqb-true row i same) (at_row ∙ e)
        | false ↦ λ other. elsewhere (not (list_any (is_status t i) (take k bs))) (is_status t i (get_or bs k nothing_bound)) (made i) (is_row i ∙ other)
      ] refl

      when_not : (not (is_again bs k) && made row) ≡ false → (i : ℕ) → by_next k i ≡ false
      when_not e i = elim (nat_eq row i) as (λ b. nat_eq row i ≡ b → by_next k i ≡ false) [
        | true ↦ λ same. subst (λ n. by_next k n ≡ false) (eqb-true row i same) (at_row ∙ e)
        | false ↦ λ other. elsewhere (not (list_any (is_status t i) (take k bs))) (is_status t i (get_or bs k nothing_bound)) (made i) (is_row i ∙ other)
      ] refl

  next_is : (k : ℕ) → first_pass t bs k ≡ None → (p : Place) → place_of t (name_at bs k) ≡ p → count_below (by_next k) (2 ^ 32) ≡ made_by t state bs (is_again bs k) p
  next_is k fine Outside at = no_next k (λ i. ap (is_cell t.status i) at)
  next_is k fine Entry at = no_next k (λ i. ap (is_cell t.status i) at)
  next_is k fine (Column c) at = no_next k (λ i. ap (is_cell t.status i) at)
  next_is k fine (Cell c row) at =
      elim (nat_eq c t.status) as (λ b. nat_eq c t.status ≡ b → count_below (by_next k) (2 ^ 32) ≡ cond (b && (not (is_again bs k) && made row)) 1 0) [
        | true ↦ λ same.
            let status : place_of t (name_at bs k) ≡ Cell t.status row = at ∙ ap (λ n. Cell n row) (eqb-true c t.status same) in
            next_one k row status (below t row (row_number_at t bs k c row at fine))
        | false ↦ λ other. no_next k (λ i. ap (is_cell t.status i) at ∙ ap (λ b. nat_eq row i && b) other ∙ never (nat_eq row i))
      ] refl

  made_count : (k : ℕ) → k ≤ length bs → ((j : ℕ) → j < length bs → first_pass t bs j ≡ None) → count_below (by_first k) (2 ^ 32) ≡ count_made t state bs k
  made_count zero le fine = count_none (by_first 0) (2 ^ 32) (λ i _. refl)
  made_count (suc k) le fine =
      let lt : k < length bs = omega arith in
      let le2 : k ≤ length bs = omega arith in
      ap (λ n. count_below (by_first n) (2 ^ 32)) (sym (add-one k)) ∙ count_more k lt
      ∙ ap (λ n. n + count_below (by_next k) (2 ^ 32)) (made_count k le2 fine)
      ∙ ap (λ n. count_made t state bs k + n) (next_is k (fine k lt) (place_of t (name_at bs k)) refl)

  -- all the rows that a Set makes
  pub all_made_count : ((j : ℕ) → j < length bs → first_pass t bs j ≡ None) → count_below made (2 ^ 32) ≡ count_made t state bs (length bs)
  all_made_count fine =
      ap (λ (f : ℕ → Bool). count_below f (2 ^ 32)) (λ d i. (bound i) d) ∙ made_count (length bs) (omega arith) fine
    where
      bound : (i : ℕ) → made i ≡ by_first (length bs) i
      bound i = elim (made i) as (λ b. made i ≡ b → b ≡ (list_any (is_status t i) (take (length bs) bs) && b)) [
        | true ↦ λ e. sym (ap (λ l. list_any (is_status t i) l && true) (take-length bs) ∙ rw (made_is_bound t bs i (made_absent (state i) (set_ask t bs (row_index t i)) e)) refl)
        | false ↦ λ _. sym (never (list_any (is_status t i) (take (length bs) bs)))
      ] refl

module _ {C : Type 0} (t : ControlTable) (set_to : C → ℕ → Option Val) (bs : Bindings) (rows : List (Row C)) where
  -- too many rows are more than the most, by the number of those that there are and of those that are made
  pub crowded_is : AreControlRows t rows → ((j : ℕ) → j < length bs → first_pass t bs j ≡ None) → is_crowded t (rows_before t set_to rows) bs ≡ nat_lt t.most (length rows + count_made t (state_in rows) bs (length bs))
  crowded_is h fine = ap (nat_lt t.most) (
      ap (λ (f : ℕ → Bool). count_below f (2 ^ 32)) (λ d i. (ap (λ s. not (is_absent s) || is_made s (set_ask t bs (row_index t i))) (state_before t set_to rows i)) d)
      ∙ count_or (λ i. not (is_absent (state_in rows i))) (λ i. is_made (state_in rows i) (set_ask t bs (row_index t i))) (2 ^ 32) (λ i there. not_made (state_in rows i) (set_ask t bs (row_index t i)) there)
      ∙ ap (λ n. n + count_below (λ i. is_made (state_in rows i) (set_ask t bs (row_index t i))) (2 ^ 32)) (ap (λ (f : ℕ → Bool). count_below f (2 ^ 32)) (λ d i. (held_is t rows i h.1) d) ∙ sym (length-counted t rows h))
      ∙ ap (λ n. length rows + n) (all_made_count t (state_in rows) bs fine))

-- the same by the rows as they are seen, and by the three numbers
pub crowded_by : {C : Type 0} (t : ControlTable) (set_to : C → ℕ → Option Val) (bs : Bindings) (items now : List (Row C)) → items ≡ now → AreControlRows t items → ((j : ℕ) → j < length bs → first_pass t bs j ≡ None)
    → (most held made : ℕ) → most ≡ t.most → held ≡ length items → made ≡ count_made t (state_in now) bs (length bs) → nat_lt most (held + made) ≡ is_crowded t (rows_before t set_to now) bs
crowded_by t set_to bs items now view h fine most held made mosts helds mades =
    ap (λ n. nat_lt n (held + made)) mosts
    ∙ ap (λ n. nat_lt t.most (n + made)) (helds ∙ ap (λ l. length l) view) ∙ ap (λ n. nat_lt t.most (length now + n)) mades
    ∙ sym (crowded_is t set_to bs now (subst (AreControlRows t) view h) fine)
